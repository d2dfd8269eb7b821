-- Pins, spares, damaged slots and copies leave tables that have what was noted.
use Rattle.version_index.proofs.Common.{◌≡◌, ◌≢◌, ℕ, ◌<◌, List, length, set, false, IsSome, Some, refl, sym, ap, ap₂, ◌∙◌, subst, inl, inr, arith, cases_eq, length-set, get_or-set_same, get_or-set_other, Config, Protocol, Rec, shape_of, slots_of, blocks_of, cur, SlotUse, TablesState, use_at, Note, note_at, rec_of, found_in, IndexState, IsNoted, current_of, answerer, is_waiting, answerer_of, waits_of, Derived, derived_of, rec_at, AreDerived, note_in, notes_in, noted_by, numbered_of, AreHeld, AreIndexed}
use Rattle.std.proofs.lemmas.List.{map-set}
use Rattle.record_list.specs.Changes.{CopyLaw}
use Rattle.slot_tables.specs.TablesState.{with_spare}
use Rattle.slot_tables.specs.declared.slots.SlotUse.TheVariants as slot
use Rattle.judged_records.specs.declared.note.Note.TheVariants as note
use Rattle.judged_records.specs.DerivedChanges.{NothingMoves}
use Rattle.judged_records.specs.IndexState.{damaged_at, copied}
use Rattle.judged_records.proofs.OfChanges.Copies.{copy_moves_nothing, damage_moves_nothing}
use Rattle.judged_records.proofs.OfChanges.NotedChanges.{damaged_noted, copied_noted}
use Rattle.judged_records.proofs.OfNotes.Numbered.{derived_as}
use Rattle.judged_records.proofs.OfChanges.WholeDerived.{derived_still}
use Rattle.version_index.proofs.OfTables.KeptNotes.{note_by, kept_noted, blank_slot, length-notes}

-- what is derived is by the configuration and the notes alone
pub derived_same : (n n' : IndexState) → n'.config ≡ n.config → n'.notes ≡ n.notes → derived_of n' ≡ derived_of n
unfolding current_of answerer_of waits_of
derived_same n n' c s =
    ap₂ {C = Derived} (λ (its : Config) (notes : List Note). record {
      current = λ page. cur its.protocol (found_in notes) its.logical page;
      answerer = λ r. answerer its.protocol (found_in notes) its.logical r;
      waits = λ r. is_waiting its.protocol (found_in notes) its.logical r;
    }) c s

-- a blank slot that holds a number with a record, or none
pub held_more : (k : TablesState) (at : ℕ) (u : SlotUse) → AreHeld k → at < length k.slots →
    use_at k.slots at ≡ slot.Blank →
    ((x : ℕ) → u ≡ slot.Holds x → (r : Rec) × (rec_at k.records x ≡ Some r)) →
    AreHeld (record k { slots = set k.slots at u })
held_more k at u h within blank own = record {
  held = λ a x e. elim (cases_eq a at) [
    | inl here ↦ own x (sym (get_or-set_same k.slots at u slot.Blank within)
        ∙ ap (use_at (set k.slots at u)) (sym here) ∙ e)
    | inr off ↦ h.held a x (sym (get_or-set_other k.slots at a u slot.Blank off) ∙ e)
  ];
  used = λ x r is. (
      let old = h.used x r is in
      let off : old.0 ≢ at = λ here. (let other : slot.Holds x ≡ slot.Blank = sym old.1 ∙ ap (use_at k.slots) here
      ∙ blank in cc) in
      (old.0, get_or-set_other k.slots at old.0 u slot.Blank off ∙ old.1));
  once = h.once;
  unused = h.unused;
}

-- the notes of a slot that is used otherwise
pub notes_set : (k : TablesState) (at : ℕ) (u : SlotUse) →
    notes_in (record k { slots = set k.slots at u }) ≡ set (notes_in k) at (note_in k.records u)
notes_set k at u = map-set (note_in k.records) k.slots at u

module _ (protocol : Protocol) (its : Config) (m : List ℕ) (k : TablesState) (i : AreIndexed protocol its m k) where
  -- where nothing moves, what is derived from the tables stays
  pub still_indexed : (k' : TablesState) → k'.shape ≡ k.shape → length k'.pages ≡ length k.pages → AreHeld k' →
      AreDerived (numbered_of k') its.logical (derived_of (noted_by its m k)) → IsNoted protocol (noted_by its m k') →
      NothingMoves (noted_by its m k) (noted_by its m k') → AreIndexed protocol its m k'
  still_indexed k' shape pages held judged noted moves = record {
    noted = noted;
    shape = shape ∙ i.shape;
    pages = pages ∙ i.pages;
    held = held;
    judged = derived_as (numbered_of k') (noted_by its m k') (derived_of (noted_by its m k)) judged
        (derived_still (noted_by its m k) (noted_by its m k') refl moves) (kept_noted k' held);
  }

  -- another pin
  pub pinned_indexed : (page version : ℕ) → AreIndexed protocol its m (record k { pins = set k.pins page version })
  pinned_indexed page version =
      let n = i.noted in
      let k' : TablesState = record k { pins = set k.pins page version } in
      record {
        noted = record {
          check = n.check;
          bounds = n.bounds;
          rule = n.rule;
          slots = n.slots;
          pages = length-set k.pins page version ∙ n.pages;
          mentions = n.mentions;
          spare = n.spare;
          closed = n.closed;
          scanned = n.scanned;
          sound = n.sound;
          mentioned = n.mentioned;
        };
        shape = i.shape;
        pages = i.pages;
        held = record { held = i.held.held; used = i.held.used; once = i.held.once; unused = i.held.unused };
        judged = subst (AreDerived (numbered_of k) its.logical)
            (sym (derived_same (noted_by its m k) (noted_by its m k') refl refl)) i.judged;
      }

  -- another spare
  pub spared_indexed : (block : ℕ) → block < blocks_of (shape_of its) →
      AreIndexed protocol its m (with_spare k block)
  spared_indexed block exists =
      let n = i.noted in
      let k' : TablesState = with_spare k block in
      record {
        noted = record {
          check = n.check;
          bounds = n.bounds;
          rule = n.rule;
          slots = n.slots;
          pages = n.pages;
          mentions = n.mentions;
          spare = exists;
          closed = length-set k.closed block false ∙ n.closed;
          scanned = n.scanned;
          sound = n.sound;
          mentioned = n.mentioned;
        };
        shape = i.shape;
        pages = i.pages;
        held = record { held = i.held.held; used = i.held.used; once = i.held.once; unused = i.held.unused };
        judged = subst (AreDerived (numbered_of k) its.logical)
            (sym (derived_same (noted_by its m k) (noted_by its m k') refl refl)) i.judged;
      }

  slot_within : (at : ℕ) → at < slots_of (shape_of its) → at < length k.slots
  slot_within at exists = let slots = i.noted.slots in let long = length-notes k in omega arith

  -- a damaged slot
  pub damaged_is : (at : ℕ) → noted_by its m (record k { slots = set k.slots at slot.Damaged })
      ≡ damaged_at (noted_by its m k) at
  damaged_is at = ap (λ notes. record (noted_by its m k) { notes = notes }) (notes_set k at slot.Damaged)

  pub damaged_indexed : (at : ℕ) → at < slots_of (shape_of its) → note_at (notes_in k) at ≡ note.Blank →
      AreIndexed protocol its m (record k { slots = set k.slots at slot.Damaged })
  damaged_indexed at exists was =
      let n = noted_by its m k in
      let held = held_more k at slot.Damaged i.held (slot_within at exists) (blank_slot k at was) (λ x e. cc) in
      still_indexed (record k { slots = set k.slots at slot.Damaged }) refl refl held i.judged
      (subst (IsNoted protocol) (sym (damaged_is at)) (damaged_noted protocol n i.noted at exists was))
      (subst (NothingMoves n) (sym (damaged_is at)) (damage_moves_nothing protocol n i.noted at exists was))

  -- a copy
  pub copied_is : (from to : ℕ) →
      noted_by its m (record k { slots = set k.slots to (use_at k.slots from) }) ≡ copied (noted_by its m k) from to
  copied_is from to =
      ap (λ notes. record (noted_by its m k) { notes = notes })
      (notes_set k to (use_at k.slots from) ∙ ap (set (notes_in k) to) (sym (note_by k from)))

  pub copied_indexed : CopyLaw protocol → (from to : ℕ) → IsSome (rec_of (note_at (notes_in k) from)) →
      to < slots_of (shape_of its) →
      note_at (notes_in k) to ≡ note.Blank →
      AreIndexed protocol its m (record k { slots = set k.slots to (use_at k.slots from) })
  copied_indexed copy from to some exists was =
      let n = noted_by its m k in
      let held = held_more k to (use_at k.slots from) i.held (slot_within to exists) (blank_slot k to was)
      (i.held.held from) in
      still_indexed (record k { slots = set k.slots to (use_at k.slots from) }) refl refl held i.judged
      (subst (IsNoted protocol) (sym (copied_is from to))
      (copied_noted protocol n i.noted copy from to some exists was))
      (subst (NothingMoves n) (sym (copied_is from to)) (copy_moves_nothing protocol n i.noted copy from to
      some exists was))
