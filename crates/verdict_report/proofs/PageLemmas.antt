-- The pages that have a record.
use Rattle.verdict_report.proofs.Common.{◌≡◌, ℕ, zero, suc, ◌+◌, ◌<◌, ◌≤◌, true, false, cond, List, [], ◌∷◌, ◌++◌, length, map, refl, sym, ap, ap₂, ◌∙◌, subst, inl, inr, arith, append-nil, append_assoc, Some, None, cases_lt, cond-true, cond-false, Protocol, Found, has_record, pages, verdict_line, report}
use Rattle.std.proofs.Common.{filter, Contains}
use Rattle.std.proofs.Common.{map-id, add-one}
use Rattle.std.specs.List.{range_with_len, flat_map, concat}
use Rattle.std.specs.List.Sorted.{IsStrictlyIncreasing}
use Rattle.std.proofs.lemmas.List.{flat_map_more, length_push}
use Rattle.std.proofs.lemmas.List.Elements.{All-contains, All-filter, filter_passes, Contains-append_left, Contains-append_right}
use Rattle.std.proofs.lemmas.List.FromFn.{length-range_with_len, get_or-range_with_len, filter_of_map_range_with_len_more}
use Rattle.std.proofs.lemmas.List.Sums.{length-filter, count_by-le-length}
use Rattle.std.proofs.lemmas.List.Kept.{IsStrictlyIncreasing-filter}
use Rattle.tx_types.specs.declared.record.Rec.{Rec}
use Rattle.verdict_report.specs.Report.{last_line}
use Rattle.verdict_report.specs.Newest.{IsNewestRecord}

-- one page more
pub pages_more : (list : List Found) (n : ℕ) → pages list (n + 1) ≡ pages list n ++ cond (has_record list n) (n ∷ []) []
pages_more list n =
    ap (filter (has_record list)) (sym (map-id (range_with_len 0 (n + 1))))
    ∙ filter_of_map_range_with_len_more (has_record list) (λ page. page) 0 n n (omega arith)
    ∙ ap (λ ps. filter (has_record list) ps ++ cond (has_record list n) (n ∷ []) []) (map-id (range_with_len 0 n))

pages_with : (list : List Found) (n : ℕ) → true ≡ has_record list n → pages list (n + 1) ≡ pages list n ++ n ∷ []
pages_with list n has = pages_more list n ∙ ap (λ ps. pages list n ++ ps)
    (cond-true (has_record list n) (n ∷ []) [] (sym has))

pages_without : (list : List Found) (n : ℕ) → false ≡ has_record list n → pages list (n + 1) ≡ pages list n
pages_without list n none =
    pages_more list n ∙ ap (λ ps. pages list n ++ ps) (cond-false (has_record list n) (n ∷ []) [] (sym none))
    ∙ append-nil (pages list n)

-- the lines of the pages below this number, and how many they are
pub record HasLines (line : ℕ → List ℕ) (list : List Found) (n : ℕ) (old text : List ℕ) (count : ℕ) : Type 0 where
  pub text_is : text ≡ old ++ flat_map line (pages list n)
  pub count_is : count ≡ length (pages list n)

-- with the line of one page more
pub lines_with : (line : ℕ → List ℕ) (list : List Found) (n : ℕ) (r : Rec) (old text more : List ℕ) (count total : ℕ) →
    IsNewestRecord list n (Some r) → HasLines line list n old text count → more ≡ text ++ line n → total ≡ count + 1 →
    HasLines line list (n + 1) old more total
lines_with line list n r old text more count total has before after counts =
    let pages_are = pages_with list n has.found in
    record {
      text_is = after ∙ ap (λ t. t ++ line n) before.text_is ∙ flat_map_more line old (pages list n) n
          ∙ ap (λ ps. old ++ flat_map line ps) (sym pages_are);
      count_is = counts ∙ ap (λ k. k + 1) before.count_is ∙ sym (length_push (pages list n) n)
          ∙ ap length (sym pages_are);
    }

-- and after a page without a record
pub lines_without : (line : ℕ → List ℕ) (list : List Found) (n : ℕ) (old text more : List ℕ) (count total : ℕ) →
    IsNewestRecord list n None → HasLines line list n old text count → more ≡ text → total ≡ count →
    HasLines line list (n + 1) old more total
lines_without line list n old text more count total has before after counts =
    let pages_are = pages_without list n has.found in
    record {
      text_is = after ∙ before.text_is ∙ ap (λ ps. old ++ flat_map line ps) (sym pages_are);
      count_is = counts ∙ before.count_is ∙ ap length (sym pages_are);
    }

-- lines and a last one
pub joined_lines : (line : ℕ → List ℕ) (ps : List ℕ) (last : List ℕ) →
    concat (map line ps ++ last ∷ []) ≡ flat_map line ps ++ last
joined_lines line [] last = append-nil last
joined_lines line (p ∷ ps) last =
    ap (λ text. line p ++ text) (joined_lines line ps last) ∙ sym (append_assoc (line p) (flat_map line ps) last)

-- there are at most as many as there are pages
pub length-pages : (list : List Found) (n : ℕ) → length (pages list n) ≤ n
length-pages list n = let l = length-range_with_len 0 n in
    let f = length-filter (has_record list) (range_with_len 0 n) in
    let c = count_by-le-length (has_record list) (range_with_len 0 n) in omega arith

-- each of them has a record, and each page with one is one of them
listed_below : (list : List Found) (logical page : ℕ) → Contains (pages list logical) page → page < logical
listed_below list logical page c =
    All-contains (λ p. p < logical) (pages list logical) page
    (All-filter (has_record list) (λ p. p < logical) (range_with_len 0 logical)
    (λ i d h. let l = length-range_with_len 0 logical in let at = get_or-range_with_len 0 logical i d (omega arith) in
    omega arith)) c

listed_record : (list : List Found) (logical page : ℕ) → Contains (pages list logical) page →
    has_record list page ≡ true
listed_record list logical page c =
    All-contains (λ p. has_record list p ≡ true) (pages list logical) page
    (filter_passes (has_record list) (range_with_len 0 logical)) c

record_listed : (list : List Found) (logical page : ℕ) → page < logical → has_record list page ≡ true →
    Contains (pages list logical) page
record_listed list zero page h has = absurd (omega arith)
record_listed list (suc n) page h has =
    let more = ap (pages list) (sym (add-one n)) ∙ pages_more list n in
    subst (λ ps. Contains ps page) (sym more) (elim (cases_lt page n) [
      | inl less ↦ Contains-append_left (pages list n) _ page (record_listed list n page less has)
      | inr le ↦ (let e : page ≡ n = omega arith in
          Contains-append_right (pages list n) _ page
          (subst (λ m. Contains (cond (has_record list m) (m ∷ []) []) page) e
          (subst (λ ps. Contains ps page) (sym (cond-true (has_record list page) (page ∷ []) [] has)) (
            0,
            omega arith,
            refl,
          ))))
    ])

pub pages_each : (list : List Found) (logical page : ℕ) →
    (Contains (pages list logical) page → (page < logical) × (has_record list page ≡ true))
    × ((page < logical) × (has_record list page ≡ true) → Contains (pages list logical) page)
pages_each list logical page = (
  λ c. (listed_below list logical page c, listed_record list logical page c),
  λ h. record_listed list logical page h.0 h.1,
)

pub pages_ascending : (list : List Found) (logical : ℕ) → IsStrictlyIncreasing (pages list logical)
pages_ascending list logical =
    IsStrictlyIncreasing-filter (has_record list) (range_with_len 0 logical)
    (λ k h. let l = length-range_with_len 0 logical in
    let a = get_or-range_with_len 0 logical k 0 (omega arith) in
    let b = get_or-range_with_len 0 logical (k + 1) 0 (omega arith) in omega arith)

-- with the last line they are the report
pub lines_report : (protocol : Protocol) (list : List Found) (logical n : ℕ) (old text all : List ℕ)
    (count : ℕ) → n ≡ logical →
    HasLines (verdict_line protocol list logical) list n old text count → all ≡ text ++ last_line count →
    all ≡ old ++ report protocol list logical
unfolding report
lines_report protocol list logical n old text all count e has is =
    let line = verdict_line protocol list logical in
    let ps = pages list logical in
    is ∙ ap₂ (λ t k. t ++ last_line k) has.text_is has.count_is
    ∙ ap (λ m. (old ++ flat_map line (pages list m)) ++ last_line (length (pages list m))) e
    ∙ append_assoc old (flat_map line ps) (last_line (length ps))
    ∙ ap (λ t. old ++ t) (sym (joined_lines line ps (last_line (length ps))))
