-- Records of which each link is that of one name keep law 3.
use Rattle.scan_recovery.proofs.Common.{◌≡◌, ℕ, ◌+◌, ◌-◌, ◌<◌, Bool, true, false, Option, Some, None, IfSome, List, length, get_or, position, Contains, refl, sym, ap, ◌∙◌, subst, inl, inr, arith, false≢true, get_or_default, get_or-map, length-map, Contains-permutation, all_from, Found, name_of, has_name, record_at, nothing, LinksDiffer, has_name_true, Sorts, IsLowestSharer}
use Rattle.std.proofs.Common.{set}
use Rattle.std.proofs.lemmas.Bool.{cases_order}
use Rattle.std.proofs.lemmas.Option.{same_Some, none-some}
use Rattle.std.proofs.lemmas.List.{get_or-set_same, get_or-set_other, length-set}
use Rattle.sorted_records.specs.SortedRecords.{SortsByLink}
use Rattle.sorted_records.specs.NameGraph.{name_graph}
use Rattle.sorted_records.specs.Orbits.{IsGraph}
use Rattle.scan_recovery.specs.Searches.{HaveOwnLinks, AreLinkedOnce, AreTargetsMarked, AreAbsentOnce, IsAsBefore, NotesLink, HasAbsent}
use Rattle.scan_recovery.proofs.OfLinks.SharedLinks.{one_name_beside}

module _ (list : List Found) (at place : ℕ) (here : get_or (name_graph list) at None ≡ Some place) where
  same_place : (k p : ℕ) → k ≡ at → get_or (name_graph list) k None ≡ Some p → p ≡ place
  same_place k p e link = same_Some p place (sym link ∙ ap (λ n. get_or (name_graph list) n None) e ∙ here)

  -- a record whose link leads to a place that is not marked
  once_new : (old : List Bool) → AreTargetsMarked list old at → AreLinkedOnce list at → get_or old place false ≡ false →
      AreLinkedOnce list (at + 1)
  once_new old marked once free i j p link_i low_i link_j low_j = elim (cases_order i at) [
    | inl e ↦ elim (cases_order j at) [
      | inl e' ↦ ap (λ n. name_of (record_at list n)) (e ∙ sym e')
      | inr (inl less) ↦ absurd (clash j less link_j (same_place i p e link_i))
      | inr (inr more) ↦ absurd (omega arith)
    ]
    | inr (inl less) ↦ elim (cases_order j at) [
      | inl e' ↦ absurd (clash i less link_i (same_place j p e' link_j))
      | inr (inl less') ↦ once i j p link_i less link_j less'
      | inr (inr more) ↦ absurd (omega arith)
    ]
    | inr (inr more) ↦ absurd (omega arith)
  ]
    where
      clash : (k : ℕ) → k < at → get_or (name_graph list) k None ≡ Some p → p ≡ place → ⊥
      clash k less link e = false≢true (sym free ∙ ap (λ n. get_or old n false) (sym e) ∙ marked k p less link)

  -- a record that is as the one before
  once_alike : AreLinkedOnce list at → IsAsBefore list (name_graph list) place at → AreLinkedOnce list (at + 1)
  once_alike once before i j p link_i low_i link_j low_j =
      let (m, low_m, there_m, name_m) = earlier i low_i link_i in
      let (n, low_n, there_n, name_n) = earlier j low_j link_j in
      name_m ∙ once m n p there_m low_m there_n low_n ∙ sym name_n
    where
      earlier : (k : ℕ) → k < at + 1 → get_or (name_graph list) k None ≡ Some p →
          (m : ℕ) × (m < at) × (get_or (name_graph list) m None ≡ Some p)
          × (name_of (record_at list k) ≡ name_of (record_at list m))
      earlier k low link = elim (cases_order k at) [
        | inl e ↦ (let some = before.some in (
          at - 1,
          omega arith,
          before.there ∙ ap Some (sym (same_place k p e link)),
          ap (λ n. name_of (record_at list n)) e
              ∙ sym (has_name_true (name_of (record_at list at)) (record_at list (at - 1)) before.name),
        ))
        | inr (inl less) ↦ (k, less, link, refl)
        | inr (inr more) ↦ absurd (omega arith)
      ]

  -- a place that is marked now, or was before
  marked_more : (old : List Bool) → AreTargetsMarked list old at → place < length old →
      AreTargetsMarked list (set old place true) (at + 1)
  marked_more old marked room k p low link = elim (cases_order p place) [
    | inl e ↦ ap (λ n. get_or (set old place true) n false) e ∙ get_or-set_same old place true false room
    | inr other ↦ elim (cases_order k at) [
      | inl e ↦ absurd (let f = same_place k p e link in elim other [ inl less ↦ omega arith | inr more ↦ omega arith ])
      | inr (inl less) ↦
          get_or-set_other old place p true false (λ e. elim other [ inl low ↦ omega arith | inr high ↦ omega arith ])
          ∙ marked k p less link
      | inr (inr more) ↦ absurd (omega arith)
    ]
  ]

  marked_stays : (old : List Bool) → AreTargetsMarked list old at → get_or old place false ≡ true → AreTargetsMarked list old (at + 1)
  marked_stays old marked was k p low link = elim (cases_order k at) [
    | inl e ↦ ap (λ n. get_or old n false) (same_place k p e link) ∙ was
    | inr (inl less) ↦ marked k p less link
    | inr (inr more) ↦ absurd (omega arith)
  ]

  -- one more record whose link leads to a place
  pub linked : (old new : List Bool) (was : Bool) → get_or old place false ≡ was → length old ≡ length list →
      AreTargetsMarked list old at →
      AreLinkedOnce list at → place < length list → NotesLink list (name_graph list) old new place at was true →
      (length new ≡ length list) × AreTargetsMarked list new (at + 1) × AreLinkedOnce list (at + 1)
  linked old new false is size marked once room notes = (
    ap length notes.0 ∙ length-set old place true ∙ size,
    subst (λ l. AreTargetsMarked list l (at + 1)) (sym notes.0) (marked_more old marked (omega arith)),
    once_new old marked once is,
  )
  linked old new true is size marked once room notes = (
    ap length notes.0 ∙ size,
    subst (λ l. AreTargetsMarked list l (at + 1)) (sym notes.0) (marked_stays old marked is),
    once_alike once (notes.1 refl),
  )

-- and one whose link leads to none
pub unlinked : (list : List Found) (old : List Bool) (at : ℕ) → AreTargetsMarked list old at → AreLinkedOnce list at →
    get_or (name_graph list) at None ≡ None →
    AreTargetsMarked list old (at + 1) × AreLinkedOnce list (at + 1)
unlinked list old at marked once none = (
  λ k p low link. marked k p (earlier k p low link) link,
  λ i j p link_i low_i link_j low_j. once i j p link_i (earlier i p low_i link_i) link_j (earlier j p low_j link_j),
)
  where
    earlier : (k p : ℕ) → k < at + 1 → get_or (name_graph list) k None ≡ Some p → k < at
    earlier k p low link = elim (cases_order k at) [
      | inl e ↦ absurd (none-some p (sym none ∙ ap (λ n. get_or (name_graph list) n None) (sym e) ∙ link))
      | inr (inl less) ↦ less
      | inr (inr more) ↦ absurd (omega arith)
    ]

-- the place to which a link leads is one of a record
pub place_within : (list : List Found) (at place : ℕ) → IsGraph (name_graph list) →
    get_or (name_graph list) at None ≡ Some place → at < length list →
    place < length list
place_within list at place graph here low =
    let size : length (name_graph list) ≡ length list =
    length-map list (λ f. position (λ g. has_name f.rec.next g.rec) list) in
    let inside : place < length (name_graph list) = subst (λ o. IfSome o (λ j. j < length (name_graph list))) here
    (graph at None (omega arith)) in
    omega arith

-- records that were put in order of their links, and show no neighbours with one link and two names
module _ (list : List Found) (absent sorted : List Found) (has : HasAbsent list (length list) absent)
    (is : SortsByLink absent sorted)
    (none : IsLowestSharer sorted (length sorted) None) where
  -- have one name where they have one link
  pub absent_own : AreAbsentOnce list (length list)
  absent_own i j within_i within_j absent_i absent_j same =
      let a = Contains-permutation absent sorted (get_or list i nothing) is.records (has i within_i absent_i) in
      let b = Contains-permutation absent sorted (get_or list j nothing) is.records (has j within_j absent_j) in
      let a_is = get_or_default sorted a.0 nothing (get_or list i nothing) a.1 ∙ a.2 in
      let b_is = get_or_default sorted b.0 nothing (get_or list j nothing) b.1 ∙ b.2 in
      let link = ap (λ f. f.rec.next) a_is ∙ same ∙ sym (ap (λ f. f.rec.next) b_is) in
      sym (ap (λ f. name_of f.rec) a_is)
      ∙ elim (cases_order a.0 b.0) [
        | inl e ↦ ap (λ n. name_of (get_or sorted n nothing).rec) e
        | inr (inl less) ↦ one_name_beside sorted is.order (b.0 - a.0) a.0 b.0 (omega arith) b.1 link none
        | inr (inr more) ↦ sym (one_name_beside sorted is.order (a.0 - b.0) b.0 a.0 (omega arith) a.1 (sym link) none)
      ]
      ∙ ap (λ f. name_of f.rec) b_is

-- with those whose links lead to one place, any two records of one link have one name
pub own_links : (list : List Found) → AreLinkedOnce list (length list) → AreAbsentOnce list (length list) →
    HaveOwnLinks list
own_links list once apart i j within_i within_j same = by (get_or (name_graph list) i None) refl
  where
    target : (k : ℕ) → k < length list → get_or (name_graph list) k None
        ≡ position (λ g. has_name (record_at list k).next g.rec) list
    target k within = get_or-map (λ f. position (λ g. has_name f.rec.next g.rec) list) list k nothing None within

    both : get_or (name_graph list) j None ≡ get_or (name_graph list) i None
    both = target j within_j ∙ ap (λ u. position (λ g. has_name u g.rec) list) (sym same) ∙ sym (target i within_i)

    by : (o : Option ℕ) → get_or (name_graph list) i None ≡ o → name_of (record_at list i) ≡ name_of (record_at list j)
    by None is = apart i j within_i within_j is (both ∙ is) same
    by (Some place) is = once i j place is within_i (both ∙ is) within_j

-- so each record of the list that was put in order keeps law 3
pub own_links_differ : (list sorted : List Found) → Sorts list sorted → HaveOwnLinks sorted → (f : Found) →
    Contains list f → LinksDiffer list f
own_links_differ list sorted is own f c =
    all_from (λ g. g.slot.0 < f.slot.0 → g.rec.next ≡ f.rec.next → name_of g.rec ≡ name_of f.rec) list
    (λ g d less same.
    let a = Contains-permutation list sorted g is.records d in
    let b = Contains-permutation list sorted f is.records c in
    let a_is = get_or_default sorted a.0 nothing g a.1 ∙ a.2 in
    let b_is = get_or_default sorted b.0 nothing f b.1 ∙ b.2 in
    sym (ap (λ h. name_of h.rec) a_is)
    ∙ own a.0 b.0 a.1 b.1 (ap (λ h. h.rec.next) a_is ∙ same ∙ sym (ap (λ h. h.rec.next) b_is))
    ∙ ap (λ h. name_of h.rec) b_is)
