-- A list and its records in order of their names say the same.
use Rattle.sorted_records.proofs.Common.{◌≡◌, ℕ, zero, suc, ◌≤◌, Bool, ◌==◌, nat_lt, List, [], ◌∷◌, filter, refl, sym, ap, ap₂, ◌∙◌, inl, inr, arith, cases_Bool, cond-true, cond-false, IsPermutation-sym, IsPermutation, Link, Rec, Found, greatest, version_of, newest, has_name, is_present, is_same, link_of, straddling_version, straddling, cur, straddling_upto, greatest_bound, greatest_least, Sorts}
use Rattle.std.proofs.Common.{if◌then◌else◌}
use Rattle.std.proofs.lemmas.List.Sorted.{Contains-permutation, list_any-IsPermutation}
use Rattle.tx_types.specs.declared.config.Protocol.{Protocol}
use Rattle.tx_types.specs.declared.config.Protocol.TheVariants.{Scc, Bpcc}
use Rattle.record_list.specs.declared.found.Why.{Why}
use Rattle.record_list.specs.declared.found.Why.TheVariants.{Cycle, Passed, Absent, Straddled}
use Rattle.record_list.specs.Records.{version_below, next_older}
use Rattle.record_list.specs.Verdict.{newest_name, back_of, why_below_newest, walk, why, is_committed}
use Rattle.record_list.specs.Current.{fallback, responsible}

-- the first record of a name is the first of those that have it
link_of-filter : (l : List Found) (name : Link) → link_of (filter (λ f. has_name name f.rec) l) name ≡ link_of l name
link_of-filter [] name = refl
link_of-filter (f ∷ fs) name =
    let has : Bool = has_name name f.rec in
    let rest = filter (λ g. has_name name g.rec) fs in
    elim (cases_Bool has) [
      | inl e ↦ ap (λ l. link_of l name) (cond-true has (f ∷ rest) rest e)
          ∙ cond-true has f.rec.next (link_of rest name) e ∙ sym (cond-true has f.rec.next (link_of fs name) e)
      | inr e ↦ ap (λ l. link_of l name) (cond-false has (f ∷ rest) rest e)
          ∙ link_of-filter fs name ∙ sym (cond-false has f.rec.next (link_of fs name) e)
    ]

back_of-filter : (l : List Found) (name : Link) → back_of (filter (λ f. has_name name f.rec) l) name ≡ back_of l name
back_of-filter [] name = refl
back_of-filter (f ∷ fs) name =
    let has : Bool = has_name name f.rec in
    let rest = filter (λ g. has_name name g.rec) fs in
    elim (cases_Bool has) [
      | inl e ↦ ap (λ l. back_of l name) (cond-true has (f ∷ rest) rest e)
          ∙ cond-true has f.rec.back (back_of rest name) e ∙ sym (cond-true has f.rec.back (back_of fs name) e)
      | inr e ↦ ap (λ l. back_of l name) (cond-false has (f ∷ rest) rest e)
          ∙ back_of-filter fs name ∙ sym (cond-false has f.rec.back (back_of fs name) e)
    ]

-- a greatest number is no less with more records
greatest_more : (of : Rec → ℕ) (l m : List Found) → IsPermutation l m → greatest of l ≤ greatest of m
greatest_more of l m same =
    greatest_least of l (greatest of m) (λ f i. greatest_bound of m f (Contains-permutation l m f same i))

module _ (list sorted : List Found) (is : Sorts list sorted) where
  pub greatest_alike : (of : Rec → ℕ) → greatest of sorted ≡ greatest of list
  greatest_alike of =
      let low = greatest_more of sorted list (IsPermutation-sym list sorted is.records) in
      let high = greatest_more of list sorted is.records in
      omega arith

  pub newest_alike : (page : ℕ) → newest sorted page ≡ newest list page
  newest_alike page = greatest_alike (version_of page)

  pub next_older_alike : (page below : ℕ) → next_older sorted page below ≡ next_older list page below
  next_older_alike page below = greatest_alike (version_below page below)

  pub straddling_alike : (name : Link) → straddling sorted name ≡ straddling list name
  straddling_alike name = greatest_alike (straddling_version name)

  pub present_alike : (name : Link) → is_present sorted name ≡ is_present list name
  present_alike name = sym (list_any-IsPermutation (λ f. has_name name f.rec) list sorted is.records)

  pub link_alike : (name : Link) → link_of sorted name ≡ link_of list name
  link_alike name =
      sym (link_of-filter sorted name) ∙ ap (λ l. link_of l name) (is.stable name) ∙ link_of-filter list name

  pub back_alike : (name : Link) → back_of sorted name ≡ back_of list name
  back_alike name =
      sym (back_of-filter sorted name) ∙ ap (λ l. back_of l name) (is.stable name) ∙ back_of-filter list name

  pub newest_name_alike : (page : ℕ) → newest_name sorted page ≡ newest_name list page
  newest_name_alike page =
      let P : ℕ → Link = λ n. record { page = page; version = n } in ap P (newest_alike page)

  pub passed_alike : (protocol : Protocol) (link : Link) → why_below_newest protocol sorted link
      ≡ why_below_newest protocol list link
  passed_alike Scc link = refl
  passed_alike Bpcc link = ap (λ n. if n == 0 then Passed else Straddled n) (straddling_alike link)

  walk_alike : (protocol : Protocol) (start : Link) (turns : ℕ) (link : Link) →
      walk protocol sorted start turns link ≡ walk protocol list start turns link
  walk_alike protocol start zero link = refl
  walk_alike protocol start (suc turns) link =
      let turn : ℕ → Why → Why → Why = λ n p w.
      if nat_lt n link.version then Absent else if nat_lt link.version n then p else if is_same link start
      then Cycle else w in
      let e = newest_alike link.page in
      let f = passed_alike protocol link in
      let g = ap (walk protocol sorted start turns) (link_alike link)
      ∙ walk_alike protocol start turns (link_of list link) in
      ap₂ (λ n p. turn n p (walk protocol sorted start turns (link_of sorted link))) e f
      ∙ ap (turn (newest list link.page) (why_below_newest protocol list link)) g

  pub why_alike : (protocol : Protocol) (logical page : ℕ) →
      why protocol sorted logical page ≡ why protocol list logical page
  why_alike protocol logical page =
      ap (λ n. walk protocol sorted n (suc logical) (link_of sorted n)) (newest_name_alike page)
      ∙ ap (walk protocol sorted (newest_name list page) (suc logical)) (link_alike (newest_name list page))
      ∙ walk_alike protocol (newest_name list page) (suc logical) (link_of list (newest_name list page))

  fallback_alike : (protocol : Protocol) (page : ℕ) → fallback protocol sorted page ≡ fallback protocol list page
  fallback_alike Scc page = ap (next_older sorted page) (newest_alike page) ∙ next_older_alike page (newest list page)
  fallback_alike Bpcc page = ap (back_of sorted) (newest_name_alike page) ∙ back_alike (newest_name list page)

  pub cur_alike : (protocol : Protocol) (logical page : ℕ) →
      cur protocol sorted logical page ≡ cur protocol list logical page
  cur_alike protocol logical page =
      ap (λ w. if is_committed w then newest sorted page else fallback protocol sorted page)
      (why_alike protocol logical page)
      ∙ ap₂ (λ n m. if is_committed (why protocol list logical page) then n else m) (newest_alike page)
      (fallback_alike protocol page)

  pub responsible_alike : (protocol : Protocol) (logical : ℕ) (name : Link) →
      responsible protocol sorted logical name ≡ responsible protocol list logical name
  responsible_alike protocol logical name =
      ap (λ n. greatest (straddling_upto n name) sorted) (cur_alike protocol logical name.page)
      ∙ greatest_alike (straddling_upto (cur protocol list logical name.page) name)
