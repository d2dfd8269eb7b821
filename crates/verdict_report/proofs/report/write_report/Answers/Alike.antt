-- The report on records in order of their names is that on the list.
use Rattle.verdict_report.proofs.Common.{◌≡◌, ℕ, zero, suc, ◌||◌, cond, List, [], ◌∷◌, ◌++◌, length, map, ap, ap₂, sym, ◌∙◌, refl, Link, Protocol, Found, newest, is_same, newest_name, link_of, walk_links, links_of, has_record, pages, page_line, walk_words, verdict_line, report}
use Rattle.std.proofs.Common.{◌==◌, nat_lt, filter}
use mathlib.Core.Path.{fun_ext}
use Rattle.std.specs.List.{range_with_len, concat}
use Rattle.std.proofs.lemmas.List.Sorted.{list_any-IsPermutation}
use Rattle.record_list.specs.Verdict.{why}
use Rattle.record_list.specs.Current.{cur}
use Rattle.sorted_records.specs.SortedRecords.{Sorts}
use Rattle.sorted_records.proofs.OfSort.Alike.{newest_alike, link_alike, why_alike, cur_alike}
use Rattle.verdict_report.specs.Walks.{is_end}
use Rattle.verdict_report.specs.Report.{last_line}

module _ (list sorted : List Found) (is : Sorts list sorted) where
  record_alike : (page : ℕ) → has_record sorted page ≡ has_record list page
  record_alike page = sym (list_any-IsPermutation (λ f. f.rec.page == page) list sorted is.records)

  pub pages_alike : (logical : ℕ) → pages sorted logical ≡ pages list logical
  pages_alike logical = ap (λ p. filter p (range_with_len 0 logical)) (fun_ext record_alike)

  end_alike : (start link : Link) → is_end sorted start link ≡ is_end list start link
  end_alike start link =
      ap (λ n. (nat_lt n link.version || nat_lt link.version n) || is_same link start)
      (newest_alike list sorted is link.page)

  walk_alike : (start : Link) (turns : ℕ) (link : Link) → walk_links sorted start turns link
      ≡ walk_links list start turns link
  walk_alike start zero link = refl
  walk_alike start (suc turns) link =
      ap₂ (λ b rest. link ∷ cond b [] rest) (end_alike start link)
      (walk_alike start turns (link_of sorted link) ∙ ap (walk_links list start turns) (link_alike list sorted is link))

  links_alike : (logical page : ℕ) → links_of sorted logical page ≡ links_of list logical page
  links_alike logical page =
      let name : newest_name sorted page ≡ newest_name list page =
      ap (λ n. record { page = page; version = n }) (newest_alike list sorted is page) in
      walk_alike (newest_name sorted page) (suc logical) (link_of sorted (newest_name sorted page))
      ∙ ap₂ (λ start link. walk_links list start (suc logical) link) name
      (link_alike list sorted is (newest_name sorted page) ∙ ap (link_of list) name)

  line_alike : (protocol : Protocol) (logical page : ℕ) → verdict_line protocol sorted logical page
      ≡ verdict_line protocol list logical page
  line_alike protocol logical page =
      ap₂ (λ v r. page_line page v r (cur protocol sorted logical page) (walk_words (links_of sorted logical page)))
      (newest_alike list sorted is page) (why_alike list sorted is protocol logical page)
      ∙ ap₂ (λ n links. page_line page (newest list page) (why protocol list logical page) n (walk_words links))
      (cur_alike list sorted is protocol logical page) (links_alike logical page)

  pub report_alike : (protocol : Protocol) (logical : ℕ) → report protocol sorted logical ≡ report protocol list logical
  unfolding report
  report_alike protocol logical =
      ap₂ (λ line ps. concat (map line ps ++ last_line (length ps) ∷ [])) (fun_ext (line_alike protocol logical))
      (pages_alike logical)
