-- The first of the newest records of a page.
use Rattle.verdict_check.proofs.Common.{◌≡◌, ◌≢◌, ℕ, ◌<◌, ◌≤◌, zero, suc, false, ◌==◌, Option, Some, None, List, length, get_or, refl, sym, ap, ◌∙◌, subst, inl, inr, arith, eqb-true, eq-eqb, cases_eq, cond-true, cond-false, nat_tests, get_or_default, Contains-get_or, position-Some, Link, Found, version_of, newest, has_name, record_at, nothing, IsScanned, newest_name, link_of, same_name, newest_place, IsNewestAt, place_at, AreNewestOf}
use Rattle.std.proofs.Common.{All, position}
use Rattle.std.proofs.Common.{ne_eqb}
use Rattle.std.proofs.lemmas.Bool.{cases_lt}
use Rattle.std.proofs.lemmas.List.{get_or_past}
use Rattle.list_lemmas.proofs.Positions.{position-at, position-none, position-all}
use Rattle.list_lemmas.proofs.Values.{if_positive}
use Rattle.record_list.proofs.OfFacts.Names.{greatest_attained, greatest_bound, greatest_least, has_name_true}
use Rattle.sorted_records.specs.SortedRecords.{place_of}
use Rattle.sorted_records.proofs.OfWalk.WalkOrbits.{link_found, link_nowhere}
use Rattle.verdict_check.specs.Places.{IsNewestOf, ArePlaces}

-- what bounds the version of each record of a page bounds its newest
top_is : (list : List Found) (page place : ℕ) → IsNewestOf list (length list) page (Some place) →
    newest list page ≡ (record_at list place).version
top_is list page place (within, own, top, first) =
    let high = greatest_bound (version_of page) list (get_or list place nothing)
    (Contains-get_or list place nothing within) in
    let is = cond-true ((record_at list place).page == page) (record_at list place).version 0 (eq-eqb _ _ own) in
    let low = greatest_least (version_of page) list (record_at list place).version (λ f i.
    let e : get_or list i.0 nothing ≡ f = get_or_default list i.0 nothing f i.1 ∙ i.2 in
    subst (λ g. version_of page g.rec ≤ (record_at list place).version) e (below i.0 i.1)) in
    omega arith
  where
    below : (k : ℕ) → k < length list → version_of page (record_at list k) ≤ (record_at list place).version
    below k inside = elim (cases_eq (record_at list k).page page) [
      | inl e ↦ (let v = cond-true ((record_at list k).page == page) (record_at list k).version 0 (eq-eqb _ _ e) in
          let h = top k inside e in omega arith)
      | inr ne ↦ (let v = cond-false ((record_at list k).page == page) (record_at list k).version 0 (ne_eqb _ _ ne) in
          omega arith)
    ]

-- it is where the newest record of the page stands
pub is_newest_place : (list : List Found) (page : ℕ) (o : Option ℕ) → IsNewestOf list (length list) page o →
    o ≡ newest_place list page
is_newest_place list page None none =
    sym (position-none (λ f. has_name (newest_name list page) f.rec) list nothing (λ k inside. let ne = none k inside in
    grind (arith, nat_tests)))
is_newest_place list page (Some place) is =
    let top = top_is list page place is in
    let (within, own, bound, first) = is in
    sym (position-at (λ f. has_name (newest_name list page) f.rec) list nothing place within
    (λ k low. let less = first k low in grind (arith, nat_tests))
    (grind (arith, nat_tests)))

pub are_places : (list : List Found) (places : List (Option ℕ)) → AreNewestOf list (length list) places →
    ArePlaces list places
are_places list places noted page = is_newest_place list page (place_at places page) (noted page)

-- a table of nothing
pub nothing_at : {X : Type 0} (table : List X) (none : X) → All (λ x. x ≡ none) table → (page : ℕ) →
    get_or table page none ≡ none
nothing_at table none empty page = elim (cases_lt page (length table)) [
  | inl within ↦ empty page none within
  | inr past ↦ get_or_past table page none past
]

-- the slots of a list ascend, and there are as many before each
pub slot_above : (list : List Found) → IsScanned list → (k : ℕ) → k < length list → k ≤ (get_or list k nothing).slot.0
slot_above list scanned zero within = omega arith
slot_above list scanned (suc k) within =
    let before = slot_above list scanned k (omega arith) in
    let next = scanned.ascending k (suc k) nothing (omega arith) within in omega arith

-- at first none is noted
pub none_noted : (list : List Found) (places : List (Option ℕ)) → ((page : ℕ) → place_at places page ≡ None) →
    AreNewestOf list 0 places
none_noted list places empty page = subst (IsNewestOf list 0 page) (sym (empty page)) (λ k low. absurd (omega arith))

-- the record of the place
pub placed : (list : List Found) (page place : ℕ) → Some place ≡ newest_place list page →
    (place < length list) × ((record_at list place).page ≡ page) × ((record_at list place).version ≡ newest list page)
placed list page place e =
    let found = position-Some (λ f. has_name (newest_name list page) f.rec) list place nothing (sym e) in
    let name = has_name_true (newest_name list page) (record_at list place) found.1 in
    (found.0, ap (λ n. n.page) name, ap (λ n. n.version) name)

pub newest_stands : (list : List Found) (page place : ℕ) → Some place ≡ newest_place list page → IsNewestAt list place
newest_stands list page place e = ap (newest_place list) (placed list page place e).1 ∙ sym e

-- where a link to a newest version leads
pub leads : (list : List Found) (link : Link) (place : ℕ) → Some place ≡ newest_place list link.page →
    (record_at list place).version ≡ link.version →
    Some place ≡ place_of list link
leads list link place e same =
    let top = (placed list link.page place e).2 in
    let newest_is : newest list link.page ≡ link.version = omega arith in
    let name : newest_name list link.page ≡ link = same_name (newest_name list link.page) link refl newest_is in
    e ∙ ap (λ u. position (λ f. has_name u f.rec) list) name
    ∙ sym (cond-true (newest list link.page == link.version) (position (λ f. has_name link f.rec) list) None
    (eq-eqb _ _ newest_is))

-- and another link, or one to a page of no record
pub leads_nowhere : (list : List Found) (link : Link) (o : Option ℕ) → o ≡ newest_place list link.page →
    ((place : ℕ) → o ≡ Some place → (record_at list place).version ≢ link.version) → None ≡ place_of list link
leads_nowhere list link o e other = elim (cases_eq (newest list link.page) link.version) [
  | inl same ↦ (
      let name : newest_name list link.page ≡ link = same_name (newest_name list link.page) link refl same in
      none_at o e other same
      ∙ ap (λ u. position (λ f. has_name u f.rec) list) name
      ∙ sym (cond-true (newest list link.page == link.version) (position (λ f. has_name link f.rec) list) None
      (eq-eqb _ _ same)))
  | inr ne ↦ sym (cond-false (newest list link.page == link.version) (position (λ f. has_name link f.rec) list) None
      (ne_eqb _ _ ne))
]
  where
    none_at : (p : Option ℕ) → p ≡ newest_place list link.page →
        ((place : ℕ) → p ≡ Some place → (record_at list place).version ≢ link.version) →
        newest list link.page ≡ link.version → None ≡ newest_place list link.page
    none_at None is other same = is
    none_at (Some place) is other same = absurd (other place refl ((placed list link.page place is).2 ∙ same))

-- a page without a newest record has no version
pub none_newest : (list : List Found) (page : ℕ) → None ≡ newest_place list page → 0 ≡ newest list page
none_newest list page none = elim (cases_eq (newest list page) 0) [
  | inl e ↦ sym e
  | inr ne ↦ (
      let (f, in_list, top) = greatest_attained (version_of page) list (omega arith) in
      let fails = position-all (λ g. has_name (newest_name list page) g.rec) list nothing (sym none) in
      let own = if_positive (f.rec.page == page) f.rec.version (omega arith) in
      let e : get_or list in_list.0 nothing ≡ f = get_or_default list in_list.0 nothing f in_list.1 ∙ in_list.2 in
      let no : has_name (newest_name list page) f.rec ≡ false =
      subst (λ g. has_name (newest_name list page) g.rec ≡ false) e (fails in_list.0 in_list.1) in
      absurd (let v : f.rec.version ≡ newest list page = sym own.1 ∙ top in
      let p = eqb-true f.rec.page page own.0 in grind (arith, nat_tests)))
]

-- the link of the newest record
pub link_there : (list : List Found) (page place : ℕ) → Some place ≡ newest_place list page →
    (record_at list place).next ≡ link_of list (newest_name list page)
link_there list page place e = link_found list (newest_name list page) place e

pub link_absent : (list : List Found) (page : ℕ) → None ≡ newest_place list page →
    record { page = page; version = 0 } ≡ link_of list (newest_name list page)
link_absent list page none = ap (λ v. record { page = page; version = v }) (none_newest list page none)
    ∙ link_nowhere list (newest_name list page) none
