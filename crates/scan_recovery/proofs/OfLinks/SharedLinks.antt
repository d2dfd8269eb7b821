-- The lowest slot that breaks law 3 is that of a record beside one with its link and another name.
use Rattle.scan_recovery.proofs.Common.{◌≡◌, ℕ, zero, suc, ◌+◌, ◌-◌, ◌<◌, ◌≤◌, Bool, true, false, not, Option, Some, None, List, [], ◌∷◌, length, get_or, AllPairs, Contains, refl, sym, ap, ◌∙◌, subst, inl, inr, arith, eq-eqb, cases_Bool, cases_lt, cond-true, cond-false, false≢true, and_parts, get_or_default, Contains-get_or, IsPermutation-sym, Contains-permutation, all_from, pairs_head, pairs_tail, Slot, Link, Rec, Found, IsScanned, name_of, has_name, nothing, LinksDiffer, same_name, has_name_true, has_own_name, IsLowestSharer}
use Rattle.std.proofs.Common.{filter}
use Rattle.std.proofs.Common.{min}
use Rattle.std.specs.Option.{option_map}
use Rattle.std.proofs.lemmas.Bool.{cases_order}
use Rattle.std.proofs.lemmas.List.Kept.{AllPairs-filter}
use Rattle.list_lemmas.proofs.Membership.{any_in, in_filter}
use Rattle.tx_types.specs.Slots.{lower}
use Rattle.record_list.specs.Records.{is_same}
use Rattle.sorted_records.specs.SortedRecords.{is_below, SortsByLink}
use Rattle.sorted_records.proofs.OfSort.Order.{below_false}
use Rattle.scan_recovery.specs.Searches.{FindsLowest, share_link, IsLowestBelow, NextShares, next_slot}

-- a search for the lowest slot, one number more: the next slot stands where it is the lower one
pub lowest_yes : (P : ℕ → Type 0) (slot_of : ℕ → Slot) (n m : ℕ) (lowest next : Option Slot) → m ≡ n + 1 →
    option_map (λ s. s.0) next ≡ lower (option_map (λ s. s.0) lowest) (Some (slot_of n).0) →
    IsLowestBelow n P slot_of lowest → P n →
    IsLowestBelow m P slot_of next
lowest_yes P slot_of n m None None sum lower_is is here = absurd (let e : None ≡ Some (slot_of n).0 = lower_is in cc)
lowest_yes P slot_of n m (Some slot) None sum lower_is is here =
    absurd (let e : None ≡ Some (min slot.0 (slot_of n).0) = lower_is in cc)
lowest_yes P slot_of n m None (Some low) sum lower_is is here =
    let same : low.0 ≡ (slot_of n).0 = (let e : Some low.0 ≡ Some (slot_of n).0 = lower_is in cc) in (
      (n, omega arith, here, ap (λ (k : ℕ). record { 0 = k }) (sym same)),
      λ k less p. elim (cases_order k n) [
        | inl e ↦ (let f : (slot_of k).0 ≡ (slot_of n).0 = ap (λ i. (slot_of i).0) e in omega arith)
        | inr (inl under) ↦ absurd (is k under p)
        | inr (inr more) ↦ absurd (omega arith)
      ],
    )
lowest_yes P slot_of n m (Some slot) (Some low) sum lower_is is here =
    let same : low.0 ≡ min slot.0 (slot_of n).0 = (let e : Some low.0 ≡ Some (min slot.0 (slot_of n).0) = lower_is in cc) in
    elim (cases_lt slot.0 (slot_of n).0) [
      | inl less ↦
          let (k, under, p, at) = is.0 in
          let kept : slot.0 ≡ low.0 = omega arith in (
            (k, omega arith, p, at ∙ ap (λ (k : ℕ). record { 0 = k }) kept),
            more low.0 (λ k under p. let b = is.1 k under p in omega arith) (omega arith),
          )
      | inr high ↦
          let taken : (slot_of n).0 ≡ low.0 = omega arith in (
            (n, omega arith, here, ap (λ (k : ℕ). record { 0 = k }) taken),
            more low.0 (λ k under p. let b = is.1 k under p in omega arith) (omega arith),
          )
    ]
  where
    more : (low : ℕ) → ((k : ℕ) → k < n → P k → low ≤ (slot_of k).0) → low ≤ (slot_of n).0 → (k : ℕ) → k < m → P k →
        low ≤ (slot_of k).0
    more low before last k within p = elim (cases_order k n) [
      | inl e ↦ (let f : (slot_of k).0 ≡ (slot_of n).0 = ap (λ i. (slot_of i).0) e in omega arith)
      | inr (inl less) ↦ before k less p
      | inr (inr high) ↦ absurd (omega arith)
    ]

pub lowest_no : (P : ℕ → Type 0) (slot_of : ℕ → Slot) (n m : ℕ) (lowest : Option Slot) → m ≡ n + 1 →
    IsLowestBelow n P slot_of lowest → (P n → ⊥) →
    IsLowestBelow m P slot_of lowest
lowest_no P slot_of n m None sum is here = λ k low p. elim (cases_order k n) [
  | inl e ↦ here (subst P e p)
  | inr (inl less) ↦ is k less p
  | inr (inr more) ↦ absurd (omega arith)
]
lowest_no P slot_of n m (Some slot) sum is here =
    let (k, low, p, at) = is.0 in (
      (k, omega arith, p, at),
      λ j within q. elim (cases_order j n) [
        | inl e ↦ absurd (here (subst P e q))
        | inr (inl less) ↦ is.1 j less q
        | inr (inr more) ↦ absurd (omega arith)
      ],
    )

-- a relation along the items that pass is one of any two of them
kept_pairs : {X : Type 0} (R : X → X → Type 0) (p : X → Bool) (xs : List X) → AllPairs R (filter p xs) →
    (i j : ℕ) (d : X) → i < j → j < length xs →
    p (get_or xs i d) ≡ true → p (get_or xs j d) ≡ true → R (get_or xs i d) (get_or xs j d)
kept_pairs R p [] all i j d less within first second = absurd (omega arith)
kept_pairs R p (x ∷ xs) all i zero d less within first second = absurd (omega arith)
kept_pairs R p (x ∷ xs) all zero (suc j) d less within first second =
    pairs_head R x (filter p xs) (get_or xs j d)
    (subst (AllPairs R) (cond-true (p x) (x ∷ filter p xs) (filter p xs) first) all)
    (in_filter p (get_or xs j d) xs (Contains-get_or xs j d (omega arith)) second)
kept_pairs R p (x ∷ xs) all (suc i) (suc j) d less within first second =
    kept_pairs R p xs (elim (cases_Bool (p x)) [
      | inl yes_here ↦ pairs_tail R x (filter p xs)
          (subst (AllPairs R) (cond-true (p x) (x ∷ filter p xs) (filter p xs) yes_here) all)
      | inr no_here ↦ subst (AllPairs R) (cond-false (p x) (x ∷ filter p xs) (filter p xs) no_here) all
    ]) i j d (omega arith) (omega arith) first second

share_true : (r s : Rec) → r.next ≡ s.next → has_name (name_of s) r ≡ false → share_link r s ≡ true
share_true r s link other = rw (
  eq-eqb r.next.page s.next.page (ap (λ n. n.page) link),
  eq-eqb r.next.version s.next.version (ap (λ n. n.version) link),
  other,
) refl

record Shares (r s : Rec) : Type 0 where
  pub link : r.next ≡ s.next
  pub other : name_of r ≡ name_of s → ⊥

shares : (r s : Rec) → share_link r s ≡ true → Shares r s
shares r s yes_both =
    let both = and_parts (is_same r.next s.next) (not (has_name (name_of s) r)) yes_both in
    record {
      link = has_name_true s.next (record r { page = r.next.page; version = r.next.version }) both.0;
      other = λ same. false≢true (sym (ap not (has_own_name (name_of s) r same)) ∙ both.1);
    }

module _ (s : List Found) (order : AllPairs (λ f g. is_below g.rec.next f.rec.next ≡ false) s) where
  abbrev in_order : ℕ → Found
  in_order k = get_or s k nothing

  -- the records between two of one link have it
  pub between : (i k j : ℕ) → i ≤ k → k < j → j < length s → (in_order i).rec.next ≡ (in_order j).rec.next →
      (in_order k).rec.next ≡ (in_order j).rec.next
  between i k j low high within same = elim (cases_order i k) [
    | inl e ↦ ap (λ n. (in_order n).rec.next) (sym e) ∙ same
    | inr (inr more) ↦ absurd (omega arith)
    | inr (inl less) ↦ (
        let page = ap (λ n. n.page) same in
        let version = ap (λ n. n.version) same in
        elim (below_false (in_order k).rec.next (in_order i).rec.next (order i k nothing less (omega arith))) [
          | inl p ↦ elim (below_false (in_order j).rec.next (in_order k).rec.next (order k j nothing high within)) [
            | inl q ↦ absurd
                (omega arith)
            | inr q ↦ absurd (omega arith)
          ]
          | inr p ↦ elim (below_false (in_order j).rec.next (in_order k).rec.next (order k j nothing high within)) [
            | inl q ↦ absurd (omega arith)
            | inr q ↦ same_name (in_order k).rec.next (in_order j).rec.next q.0 (omega arith)
          ]
        ])
  ]

  -- where no record has its neighbour's link and another name, two of one link have one name
  pub one_name_beside : (n i j : ℕ) → j ≡ i + n → j < length s → (in_order i).rec.next ≡ (in_order j).rec.next →
      IsLowestSharer s (length s) None → name_of (in_order i).rec ≡ name_of (in_order j).rec
  one_name_beside zero i j sum within same none = ap (λ n. name_of (in_order n).rec) (omega arith)
  one_name_beside (suc n) i j sum within same none =
      let m = i + n in
      let next : suc m ≡ j = omega arith in
      let link = between i m j (omega arith) (omega arith) within same in
      one_name_beside n i m refl (omega arith) (same ∙ sym link) none
      ∙ elim (cases_Bool (has_name (name_of (in_order j).rec) (in_order m).rec)) [
        | inl yes_here ↦ has_name_true (name_of (in_order j).rec) (in_order m).rec yes_here
        | inr other ↦ absurd (none m (omega arith)
            (subst (λ k. share_link (in_order m).rec (in_order k).rec ≡ true) (sym next)
            (share_true (in_order m).rec (in_order j).rec link other)))
      ]

module _ (list s : List Found) (scanned : IsScanned list) (is : SortsByLink list s) where
  abbrev at : ℕ → Found
  at k = get_or s k nothing

  -- of two records of one link the later one is in the higher slot
  slots_rise : (i j : ℕ) → i < j → j < length s → (at i).rec.next ≡ (at j).rec.next → (at i).slot.0 < (at j).slot.0
  slots_rise i j less within same =
      let link = (at j).rec.next in
      let p = (λ (f : Found). is_same f.rec.next link) in
      kept_pairs (λ f g. f.slot.0 < g.slot.0) p s
      (subst (AllPairs (λ (f g : Found). f.slot.0 < g.slot.0)) (sym (is.stable link))
      (AllPairs-filter (λ (f g : Found). f.slot.0 < g.slot.0) p list scanned.ascending))
      i j nothing less within (same_links (at i).rec.next link same) (same_links link link refl)
    where
      same_links : (a b : Link) → a ≡ b → is_same a b ≡ true
      same_links a b e = rw (
        eq-eqb a.page b.page (ap (λ n. n.page) e),
        eq-eqb a.version b.version (ap (λ n. n.version) e),
      ) refl

  -- where no record up to a slot has its neighbour's link and another name, two of one link have one name
  one_name : (top n i j : ℕ) → j ≡ i + n → j < length s → (at i).rec.next ≡ (at j).rec.next → (at j).slot.0 ≤ top →
      ((k : ℕ) → k < length s - 1 → NextShares s k → top < (next_slot s k).0) → name_of (at i).rec ≡ name_of (at j).rec
  one_name top zero i j sum within same low none = ap (λ n. name_of (at n).rec) (omega arith)
  one_name top (suc n) i j sum within same low none =
      let m = i + n in
      let next : suc m ≡ j = omega arith in
      let link = between s is.order i m j (omega arith) (omega arith) within same in
      let rise = slots_rise m j (omega arith) within link in
      one_name top n i m refl (omega arith) (same ∙ sym link) (omega arith) none
      ∙ elim (cases_Bool (has_name (name_of (at j).rec) (at m).rec)) [
        | inl yes_here ↦ has_name_true (name_of (at j).rec) (at m).rec yes_here
        | inr other ↦ absurd (
            let shared : NextShares s m = subst (λ k. share_link (at m).rec (at k).rec ≡ true) (sym next)
            (share_true (at m).rec (at j).rec link other) in
            let high = none m (omega arith) shared in
            let slot : (next_slot s m).0 ≡ (at j).slot.0 = ap (λ k. (at k).slot.0) next in
            omega arith)
      ]

  -- and so each record up to the slot keeps the law
  keeps : (top : ℕ) → ((k : ℕ) → k < length s - 1 → NextShares s k → top < (next_slot s k).0) → (f : Found) →
      Contains list f → f.slot.0 ≤ top →
      LinksDiffer list f
  keeps top none f c low =
      all_from (λ g. g.slot.0 < f.slot.0 → g.rec.next ≡ f.rec.next → name_of g.rec ≡ name_of f.rec) list
      (λ g d less same.
      let a = Contains-permutation list s g is.records d in
      let b = Contains-permutation list s f is.records c in
      let g_is : at a.0 ≡ g = get_or_default s a.0 nothing g a.1 ∙ a.2 in
      let f_is : at b.0 ≡ f = get_or_default s b.0 nothing f b.1 ∙ b.2 in
      let link : (at a.0).rec.next ≡ (at b.0).rec.next = ap (λ h. h.rec.next) g_is ∙ same
      ∙ sym (ap (λ h. h.rec.next) f_is) in
      let f_slot : (at b.0).slot.0 ≡ f.slot.0 = ap (λ h. h.slot.0) f_is in
      let g_slot : (at a.0).slot.0 ≡ g.slot.0 = ap (λ h. h.slot.0) g_is in
      elim (cases_order a.0 b.0) [
        | inl e ↦ absurd (let same_slot : (at a.0).slot.0 ≡ (at b.0).slot.0 = ap (λ n. (at n).slot.0) e in omega arith)
        | inr (inr more) ↦ absurd (let rise = slots_rise b.0 a.0 more a.1 (sym link) in omega arith)
        | inr (inl before) ↦
            sym (ap (λ h. name_of h.rec) g_is)
            ∙ one_name top (b.0 - a.0) a.0 b.0 (omega arith) b.1 link (omega arith) none
            ∙ ap (λ h. name_of h.rec) f_is
      ])

  pub finds_lowest : (lowest : Option Slot) → IsLowestSharer s (length s) lowest →
      FindsLowest (LinksDiffer list) list lowest
  finds_lowest None none =
      all_from (LinksDiffer list) list (λ f c. keeps f.slot.0 (λ k low shared. absurd (none k low shared)) f c
      (omega arith))
  finds_lowest (Some slot) is_lowest =
      let (k, low, shared, here) = is_lowest.0 in
      let within : suc k < length s = omega arith in
      let both = shares (at k).rec (at (suc k)).rec shared in
      let inside = (λ (n : ℕ) (less : n < length s). Contains-permutation s list (at n)
      (IsPermutation-sym list s is.records)
      (Contains-get_or s n nothing less)) in (
        any_in (λ f. (f.slot.0 ≡ slot.0) × (LinksDiffer list f → ⊥)) list (at (suc k)) (inside (suc k) within) (
          ap (λ n. n.0) here,
          λ differ.
              let c = inside k (omega arith) in
              both.other (subst (λ g. g.slot.0 < (at (suc k)).slot.0 → g.rec.next ≡ (at (suc k)).rec.next →
              name_of g.rec ≡ name_of (at (suc k)).rec) c.2 (differ c.0 (at k) c.1)
              (slots_rise k (suc k) (omega arith) within both.link) both.link),
        ),
        all_from (λ f. f.slot.0 < slot.0 → LinksDiffer list f) list
            (λ f c less. keeps f.slot.0 (λ j within_j shared_j. let high = is_lowest.1 j within_j shared_j in
            omega arith) f c (omega arith)),
      )
