-- What is noted once a block was collected: no record is new, and what was copied was needed.
use Rattle.collector.proofs.Common.{◌≡◌, ◌⊎◌, ℕ, zero, suc, ◌+◌, ◌*◌, ◌<◌, true, List, [], ◌∷◌, length, set, refl, sym, ap, ◌∙◌, subst, inl, inr, Contains, from_filter, Contains-first, Contains-rest, shape_of, slots_of, blocks_of, Config, Found, is_outside, Note, Blank, Holds, note_at, found_in, IndexState, needed_of, copied, erased, found, noted_from, copied_from, collected, needed_slots, noted_cleaned, slots_in, HasNoNewRecord}
use Rattle.std.proofs.Math.ListN.{length-set}
use Rattle.judged_records.proofs.OfNotes.FoundIn.{noted_in, holds_within}
use Rattle.collector.proofs.OfCollect.Chains.{WasThere, no_new}
use Rattle.collector.proofs.OfNotes.NotesLeft.{noted_left, length-noted}

note_set : (notes : List Note) (at k : ℕ) (note : Note) → (note_at (set notes at note) k ≡ note)
    ⊎ (note_at (set notes at note) k ≡ note_at notes k)
note_set [] at k note = inr refl
note_set (x ∷ xs) zero zero note = inl refl
note_set (x ∷ xs) zero (suc k) note = inr refl
note_set (x ∷ xs) (suc at) zero note = inr refl
note_set (x ∷ xs) (suc at) (suc k) note = note_set xs at k note

-- a note is that of its slot before, or that of a slot that was copied
pub data ComesFrom (n : IndexState) (slots : List ℕ) (k : ℕ) (note : Note) : Type 0 where
  stays : note ≡ note_at n.notes k → ComesFrom n slots k note
  copy : (from : ℕ) → Contains slots from → note ≡ note_at n.notes from → ComesFrom n slots k note

pub copied_notes : (n : IndexState) (to : ℕ) (slots : List ℕ) (k : ℕ) →
    ComesFrom n slots k (note_at (copied_from n to slots).notes k)
copied_notes n to [] k = stays refl
copied_notes n to (from ∷ rest) k = elim (copied_notes (copied n from to) (to + 1) rest k) [
  | stays e ↦ elim (note_set n.notes to k (note_at n.notes from)) [
    | inl same ↦ copy from (Contains-first from rest) (e ∙ same)
    | inr same ↦ stays (e ∙ same)
  ]
  | copy at i e ↦ elim (note_set n.notes to at (note_at n.notes from)) [
    | inl same ↦ copy from (Contains-first from rest) (e ∙ same)
    | inr same ↦ copy at (Contains-rest from rest at i) (e ∙ same)
  ]
]

pub copied_config : (n : IndexState) (to : ℕ) (slots : List ℕ) → (copied_from n to slots).config ≡ n.config
copied_config n to [] = refl
copied_config n to (from ∷ rest) = copied_config (copied n from to) (to + 1) rest

pub copied_length : (n : IndexState) (to : ℕ) (slots : List ℕ) → length (copied_from n to slots).notes ≡ length n.notes
copied_length n to [] = refl
copied_length n to (from ∷ rest) = copied_length (copied n from to) (to + 1) rest
    ∙ length-set n.notes to (note_at n.notes from)

-- no record is new where slots were copied
pub copied_no_new : (n : IndexState) (to : ℕ) (slots : List ℕ) → HasNoNewRecord n (copied_from n to slots)
copied_no_new n to slots = no_new n (copied_from n to slots) (λ f i.
    let there = noted_from (copied_from n to slots).notes f i in
    elim (copied_notes n to slots f.slot.0) [
      | stays e ↦ at f f.slot.0 (sym e ∙ there.1)
      | copy from j e ↦ at f from (sym e ∙ there.1)
    ])
  where
    at : (f : Found) (k : ℕ) → note_at n.notes k ≡ Holds f.rec → WasThere n f
    at f k is = record {
      was = found k f.rec;
      is_in = noted_in n.notes k f.rec (holds_within n.notes k f.rec is) is;
      same = refl;
    }

-- the records outside a block that is all blank now
module _ (n : IndexState) (some : 0 < n.config.pages_per_block) (long : length n.notes ≡ slots_of (shape_of n.config))
    (block : ℕ)
    (below : block < blocks_of (shape_of n.config)) where
  pub erased_from : (f : Found) → Contains (found_in (erased n block).notes) f →
      Contains (found_in n.notes) f × (is_outside (shape_of n.config) block f.slot.0 ≡ true)
  erased_from f i =
      from_filter (λ g. is_outside (shape_of n.config) block g.slot.0) f (found_in n.notes)
      (subst (λ l. Contains l f) (noted_left (shape_of n.config) some n.notes long block below Blank refl) i)

  pub erased_no_new : HasNoNewRecord n (erased n block)
  erased_no_new = no_new n (erased n block) (λ f i. record { was = f; is_in = (erased_from f i).0; same = refl })

  pub erased_length : length (erased n block).notes ≡ length n.notes
  erased_length = length-noted (shape_of n.config) some n.notes long block below Blank

-- where a record of what was collected comes from
pub data Origin (n : IndexState) (spare : ℕ) (f : Found) : Type 0 where
  in_place : Contains (found_in n.notes) f → is_outside (shape_of n.config) spare f.slot.0 ≡ true → Origin n spare f
  in_copy : (from : ℕ) → Contains (found_in (noted_cleaned n spare).notes) (found from f.rec) →
      needed_of (noted_cleaned n spare) from ≡ true → Origin n spare f

module _ (n : IndexState) (some : 0 < n.config.pages_per_block) (long : length n.notes ≡ slots_of (shape_of n.config))
    (spare block : ℕ)
    (spare_below : spare < blocks_of (shape_of n.config)) (below : block < blocks_of (shape_of n.config)) where
  abbrev first : ℕ
  first = spare * n.config.pages_per_block

  abbrev slots : List ℕ
  slots = needed_slots (noted_cleaned n spare) block

  abbrev full : IndexState
  full = copied_from (noted_cleaned n spare) first slots

  config_same : full.config ≡ n.config
  config_same = copied_config (noted_cleaned n spare) first slots

  full_long : length full.notes ≡ length n.notes
  full_long = copied_length (noted_cleaned n spare) first slots ∙ erased_length n some long spare spare_below

  full_some : 0 < full.config.pages_per_block
  full_some = subst (λ (k : Config). 0 < k.pages_per_block) (sym config_same) some

  full_slots : length full.notes ≡ slots_of (shape_of full.config)
  full_slots = full_long ∙ long ∙ ap (λ (k : Config). slots_of (shape_of k)) (sym config_same)

  full_below : block < blocks_of (shape_of full.config)
  full_below = subst (λ (k : Config). block < blocks_of (shape_of k)) (sym config_same) below

  in_full : (f : Found) → Contains (found_in (collected n spare block).notes) f →
      Contains (found_in full.notes) f × (is_outside (shape_of full.config) block f.slot.0 ≡ true)
  in_full f i = erased_from full full_some full_slots block full_below f i

  -- it lies outside the block
  pub collected_outside : (f : Found) → Contains (found_in (collected n spare block).notes) f →
      is_outside (shape_of n.config) block f.slot.0 ≡ true
  collected_outside f i = subst (λ (k : Config). is_outside (shape_of k) block f.slot.0 ≡ true) config_same
      (in_full f i).1

  pub collected_from : (f : Found) → Contains (found_in (collected n spare block).notes) f → Origin n spare f
  collected_from f i =
      let there = noted_from full.notes f (in_full f i).0 in
      elim (copied_notes (noted_cleaned n spare) first slots f.slot.0) [
        | stays e ↦ (
            let is = sym e ∙ there.1 in
            let was = erased_from n some long spare spare_below f
            (noted_in (noted_cleaned n spare).notes f.slot.0 f.rec
            (holds_within (noted_cleaned n spare).notes f.slot.0 f.rec is) is) in
            in_place was.0 was.1)
        | copy from j e ↦ (
            let is = sym e ∙ there.1 in
            in_copy from (noted_in (noted_cleaned n spare).notes from f.rec
            (holds_within (noted_cleaned n spare).notes from f.rec is) is)
            (from_filter (needed_of (noted_cleaned n spare)) from (slots_in (noted_cleaned n spare) block) j).1)
      ]
