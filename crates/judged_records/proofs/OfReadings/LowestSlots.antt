-- The lowest slot that holds a record which passes a test: homes, and the lowest block that must go.
use Rattle.judged_records.proofs.Common.{◌≡◌, ℕ, ◌<◌, ◌≤◌, Bool, true, false, ◌&&◌, List, [], ◌∷◌, find, None, Some, AllPairs, Contains, refl, sym, ap, ◌∙◌, inl, inr, arith, option_map, false≢true, cases_Bool, cond-true, cond-false, Contains-cases, Contains-first, Contains-nil, Contains-rest, pairs_head, pairs_tail, Link, shape_of, Found, has_name, must_go, first_slot, is_outside, found_in, IndexState, home_of, slot_off, goes_of}
use Rattle.std.proofs.Common.{◌/◌}
use Rattle.std.specs.Option.{option_or}
use Rattle.record_list.specs.Written.{is_outside_spare}
use Rattle.judged_records.specs.Derived.{IsLowestSlot, HasNoSlot}
use Rattle.judged_records.specs.IndexState.{block_to_go}
use Rattle.judged_records.proofs.OfNotes.FoundIn.{found, found_in_ascending, noted_from, noted_in, holds_within}

-- the first slot that passes, in the order of slots, is the lowest
first_least : (test : Found → Bool) (l : List Found) (f : Found) → AllPairs (λ g h. g.slot.0 < h.slot.0) l →
    Contains l f → test f ≡ true →
    ((g : Found) → Contains l g → test g ≡ true → f.slot.0 ≤ g.slot.0) → first_slot test l ≡ Some f.slot.0
first_least test [] f up i pass least = absurd (Contains-nil f i)
first_least test (x ∷ xs) f up i pass least = elim (cases_Bool (test x)) [
  | inl here ↦ (
      let found : first_slot test (x ∷ xs) ≡ Some x.slot.0 =
      ap (option_map (λ g. g.slot.0)) (cond-true (test x) (Some x) (find test xs) here) in
      elim (Contains-cases x xs f i) [
        | inl e ↦ found ∙ ap (λ g. Some g.slot.0) e
        | inr later ↦ (
            let behind = pairs_head (λ g h. g.slot.0 < h.slot.0) x xs f up later in
            let low = least x (Contains-first x xs) here in
            absurd (omega arith))
      ])
  | inr fail ↦ elim (Contains-cases x xs f i) [
    | inl e ↦ absurd (false≢true (sym fail ∙ ap test e ∙ pass))
    | inr later ↦ ap (option_map (λ g. g.slot.0)) (cond-false (test x) (Some x) (find test xs) fail)
        ∙ first_least test xs f (pairs_tail (λ g h. g.slot.0 < h.slot.0) x xs up) later pass
        (λ g j. least g (Contains-rest x xs g j))
  ]
]

-- and there is none where none passes
first_none : (test : Found → Bool) (l : List Found) → ((g : Found) → Contains l g → test g ≡ false) →
    first_slot test l ≡ None
first_none test [] h = refl
first_none test (x ∷ xs) h =
    ap (option_map (λ g. g.slot.0)) (cond-false (test x) (Some x) (find test xs) (h x (Contains-first x xs)))
    ∙ first_none test xs (λ g j. h g (Contains-rest x xs g j))

module _ (n : IndexState) (test : Found → Bool) where
  -- the lowest slot of those that are noted
  pub lowest_slot : (at : ℕ) → IsLowestSlot n test at → first_slot test (found_in n.notes) ≡ Some at
  lowest_slot at s =
      let here = noted_in n.notes at s.rec (holds_within n.notes at s.rec s.holds) s.holds in
      first_least test (found_in n.notes) (found at s.rec) (found_in_ascending n.notes) here s.passes (λ g i pass.
      s.least g.slot.0 g.rec (noted_from n.notes g i).1 pass)

  pub no_slot : HasNoSlot n test → first_slot test (found_in n.notes) ≡ None
  no_slot none = first_none test (found_in n.notes) (λ g i. none g.slot.0 g.rec (noted_from n.notes g i).1)

module _ (n : IndexState) (name : Link) where
  -- the lowest slot of a name outside the spare is its home
  pub home_outside : (at : ℕ) → IsLowestSlot n (λ f. has_name name f.rec && is_outside_spare (shape_of n.config) n.spare
      f.slot.0) at →
      home_of n name ≡ Some at
  unfolding home_of
  home_outside at s =
      ap (λ o. option_or o (first_slot (λ f. has_name name f.rec) (found_in n.notes)))
      (lowest_slot n (λ f. has_name name f.rec && is_outside_spare (shape_of n.config) n.spare f.slot.0) at s)

  -- and where it has none outside, its lowest slot
  pub home_inside : (at : ℕ) → HasNoSlot n (λ f. has_name name f.rec
      && is_outside_spare (shape_of n.config) n.spare f.slot.0) →
      IsLowestSlot n (λ f. has_name name f.rec) at → home_of n name ≡ Some at
  unfolding home_of
  home_inside at none s =
      ap (λ o. option_or o (first_slot (λ f. has_name name f.rec) (found_in n.notes)))
      (no_slot n (λ f. has_name name f.rec && is_outside_spare (shape_of n.config) n.spare f.slot.0) none)
      ∙ lowest_slot n (λ f. has_name name f.rec) at s

  -- the lowest slot of a name outside a block
  pub off_lowest : (block at : ℕ) → IsLowestSlot n (λ f. has_name name f.rec
      && is_outside (shape_of n.config) block f.slot.0) at →
      slot_off n block name ≡ Some at
  unfolding slot_off
  off_lowest block at s = lowest_slot n (λ f. has_name name f.rec && is_outside (shape_of n.config) block f.slot.0) at s

  pub off_none : (block : ℕ) → HasNoSlot n (λ f. has_name name f.rec && is_outside (shape_of n.config) block f.slot.0) →
      slot_off n block name ≡ None
  unfolding slot_off
  off_none block none = no_slot n (λ f. has_name name f.rec && is_outside (shape_of n.config) block f.slot.0) none

module _ (n : IndexState) (page below : ℕ) where
  -- the block of the lowest slot with a record that must go
  pub lowest_to_go : (at : ℕ) → IsLowestSlot n (λ f. goes_of n page below f.rec) at →
      block_to_go n page below ≡ Some (at / n.config.pages_per_block)
  unfolding block_to_go goes_of
  lowest_to_go at s =
      ap (option_map (λ slot. slot / n.config.pages_per_block))
      (lowest_slot n (λ f. must_go n.config.protocol (found_in n.notes) n.config.logical page below f.rec) at
      (record { rec = s.rec; holds = s.holds; passes = s.passes; least = s.least }))

  pub none_to_go : HasNoSlot n (λ f. goes_of n page below f.rec) → block_to_go n page below ≡ None
  unfolding block_to_go goes_of
  none_to_go none =
      ap (option_map (λ slot. slot / n.config.pages_per_block))
      (no_slot n (λ f. must_go n.config.protocol (found_in n.notes) n.config.logical page below f.rec) none)
