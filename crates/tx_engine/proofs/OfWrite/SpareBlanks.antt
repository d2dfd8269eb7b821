-- Where room was made for a record the spare is all blank.
use Rattle.tx_engine.proofs.Common.{◌≡◌, ◌⊎◌, ℕ, ◌+◌, ◌-◌, ◌*◌, ◌/◌, ◌<◌, ◌≤◌, Bool, false, List, length, ◌++◌, Option, None, Some, refl, sym, ap, ◌∙◌, subst, inl, inr, arith, cases_eq, cases_lt, drop, replicate, length-append, is_outside, blank, slots_of, blocks_of, shape_of, Shape, Slot, Link, FlashState, slot_at, Blank, note_at, IndexState, block_to_go, BlocksState, IsBlocksState, Matches, StoreState}
use Rattle.std.proofs.Common.{take, add-one}
use Rattle.std.proofs.Math.Nat.{suc-mul}
use Rattle.std.proofs.lemmas.List.{length-take, length-take-le, length-drop, length-replicate, get_or_past, get_or-append_right, get_or_append_left, get_or-replicate}
use Rattle.flash_model.proofs.ImageLemmas.{block_within}
use Rattle.judged_records.specs.Notes.{with_block_noted}
use Rattle.judged_records.specs.declared.note.Note.{Note}
use Rattle.judged_records.proofs.OfNotes.Blocks.{in_it, inside_block}
use Rattle.die_alloc.specs.BlocksState.{IsFull}
use Rattle.die_alloc.specs.NextSlot.{next_block}
use Rattle.die_alloc.proofs.NextSlots.{no_next_block, next_block_has_room}
use Rattle.collector.specs.declared.unsure.Unsure.TheVariants as unsure
use Rattle.judged_records.specs.IndexState.{erased}
use Rattle.collector.specs.Collecting.{collected, copied_from, needed_slots, noted_cleaned}
use Rattle.collector.specs.Going.{EvictsInTurn, EvictsAll, IsEvicted, none, one_more}
use Rattle.collector.proofs.OfCopies.CopyExits.{blank_noted}
use Rattle.tx_engine.specs.LastWrite.{IsBlankIn}
use Rattle.tx_engine.specs.Writing.{TakesSlot}

-- each slot of a block was noted as blank last
pub record IsErasedIn (n : IndexState) (block : ℕ) : Type 0 where
  pub notes : List Note
  pub is : n.notes ≡ with_block_noted (shape_of n.config) notes block Blank

erased_as : (n n' : IndexState) (block block' : ℕ) → n' ≡ n → block' ≡ block → IsErasedIn n block →
    IsErasedIn n' block'
erased_as n n' block block' same spare h =
    subst (λ (m : IndexState). IsErasedIn m block') (sym same) (subst (IsErasedIn n) (sym spare) h)

-- so it is of a block that was collected, which is the spare then
collected_in : (n : IndexState) (spare block : ℕ) → IsErasedIn (collected n spare block) block
collected_in n spare block =
    let m = noted_cleaned n spare in
    record {
      notes = (copied_from m (spare * n.config.pages_per_block) (needed_slots m block)).notes;
      is = refl;
    }

evicted_in : (n : IndexState) (t : BlocksState) (block : ℕ) (n' : IndexState) (t' : BlocksState) →
    IsEvicted n t block n' t' → IsErasedIn n' t'.spare
evicted_in n t block n' t' e = elim (cases_eq block t.spare) [
  | inl same ↦ (
      let k = e.0 same in
      erased_as (erased n t.spare) n' t.spare t'.spare k.0 (ap (λ (u : BlocksState). u.spare) k.1)
      (record { notes = n.notes; is = refl }))
  | inr other ↦ (
      let k = e.1 other in
      erased_as (collected n t.spare block) n' block t'.spare k.0 (ap (λ (u : BlocksState). u.spare) k.1)
      (collected_in n t.spare block))
]

turned : (page below : ℕ) (n : IndexState) (t : BlocksState) (rounds : ℕ) (n' : IndexState) (t' : BlocksState) →
    EvictsInTurn page below n t rounds n' t' → ((n' ≡ n) × (t' ≡ t)) ⊎ IsErasedIn n' t'.spare
turned page below n t rounds n' t' none = inl (refl, refl)
turned page below n t rounds n' t' (one_more before m n'' u t'' block first next evicted) =
    inr (evicted_in m u block n'' t'' evicted)

full_or_not : (t : BlocksState) → IsBlocksState t → (IsFull t → ⊥) ⊎ IsFull t
full_or_not t h = by (next_block t) refl
  where
    by : (o : Option ℕ) → next_block t ≡ o → (IsFull t → ⊥) ⊎ IsFull t
    by None e = inr (no_next_block t h e)
    by (Some block) e = inl (λ full. let found = next_block_has_room t h block e in full block found.0 found.1)

-- room was made: nothing was done, or the spare was erased last
module _ {F : Type 0} (S S1 S2 : StoreState F) (name : Link) (at : Slot) (broken : Bool)
    (turns : EvictsAll name.page name.version S.noted S.table S1.noted S1.table)
    (clear : block_to_go S1.noted name.page name.version ≡ None)
    (idle : block_to_go S.noted name.page name.version ≡ None → S1 ≡ S)
    (direct : (IsFull S1.table → ⊥) → (broken ≡ false) × (S2.flash ≡ S1.flash))
    (slot : TakesSlot S1.noted S1.table S2.noted S2.table at) (good : IsBlocksState S1.table) where
  pub room_made : ((S1 ≡ S) × (S2.flash ≡ S1.flash) × (S2.table.spare ≡ S1.table.spare))
      ⊎ IsErasedIn S2.noted S2.table.spare
  room_made = elim (full_or_not S1.table good) [
    | inr full ↦ (
        let c = slot.collects full in
        inr (erased_as (collected S1.noted S1.table.spare c.victim) S2.noted c.victim S2.table.spare c.noted
        (ap (λ (u : BlocksState). u.spare) c.table) (collected_in S1.noted S1.table.spare c.victim)))
    | inl room ↦ (
        let d = slot.direct room in
        let spare : S2.table.spare ≡ S1.table.spare = ap (λ (u : BlocksState). u.spare) d.2 in
        elim (turned name.page name.version S.noted S.table turns.rounds S1.noted S1.table turns.turns) [
          | inl same ↦ inl (
            idle (subst (λ (m : IndexState). block_to_go m name.page name.version ≡ None) same.0 clear),
            (direct room).1,
            spare,
          )
          | inr erased ↦ inr (erased_as S1.noted S2.noted S1.table.spare S2.table.spare d.1 spare erased)
        ])
  ]

-- what it notes of a slot of the block
module _ (shape : Shape) (notes : List Note) (block : ℕ) (below : block < blocks_of shape)
    (long : length (with_block_noted shape notes block Blank) ≡ slots_of shape) where
  abbrev per : ℕ
  per = shape.pages_per_block

  reaches : block * per ≤ length notes
  reaches = elim (cases_lt (length notes) (block * per)) [
    | inr low ↦ low
    | inl short ↦ (
        let fits = block_within shape block below in
        let all : length (take (block * per) notes ++ replicate per Blank ++ drop ((block + 1) * per) notes)
        ≡ slots_of shape = long in
        let next : (block + 1) * per ≡ block * per + per = ap (λ k. k * per) (add-one block) ∙ suc-mul block per in
        let whole = length-append (take (block * per) notes ++ replicate per Blank) (drop ((block + 1) * per) notes) in
        let rest = length-append (take (block * per) notes) (replicate per Blank) in
        let first = length-take (block * per) notes in
        let mid = length-replicate per Blank in
        let last = length-drop ((block + 1) * per) notes in
        absurd (omega (arith, short, all, next, fits, whole, rest, first, mid, last)))
  ]

  pub blank_at : (k : ℕ) → block * per ≤ k → k < block * per + per →
      note_at (with_block_noted shape notes block Blank) k ≡ Blank
  blank_at k low high =
      let first = length-take-le (block * per) notes reaches in
      let mid = length-replicate per Blank in
      let both = length-append (take (block * per) notes) (replicate per Blank) in
      get_or_append_left (take (block * per) notes ++ replicate per Blank) (drop ((block + 1) * per) notes) Blank k
      (omega (arith, high, first, mid, both))
      ∙ get_or-append_right (take (block * per) notes) (replicate per Blank) (block * per) k Blank first low
      ∙ get_or-replicate per (k - block * per) Blank Blank (omega (arith, low, high))

-- so the image has it
pub spare_blank : (s : FlashState) (n : IndexState) (t : BlocksState) → Matches s n t unsure.Nothing →
    IsErasedIn n t.spare → IsBlankIn s.shape s.image t.spare
spare_blank s n t m erased slot here =
    elim (cases_lt slot (length s.image)) [
      | inr past ↦ get_or_past s.image slot blank past
      | inl within ↦ (
          let per = (shape_of n.config).pages_per_block in
          let least = m.noted.bounds.shape.pages_least in
          let below : t.spare < blocks_of (shape_of n.config) =
          omega (arith, m.table.spare_within, ap blocks_of m.blocks, ap blocks_of m.shape) in
          let long : length (with_block_noted (shape_of n.config) erased.notes t.spare Blank)
          ≡ slots_of (shape_of n.config) = ap length (sym erased.is) ∙ m.noted.slots in
          let lies : slot / per ≡ t.spare = in_it (shape_of n.config) t.spare slot
          (subst (λ (sh : Shape). is_outside sh t.spare slot ≡ false) m.shape here) in
          let inside = inside_block per t.spare slot (omega (arith, least)) lies in
          let noted : note_at n.notes slot ≡ Blank = ap (λ ns. note_at ns slot) erased.is
          ∙ blank_at (shape_of n.config) erased.notes t.spare below long slot inside.0 inside.1 in
          blank_noted n.config.protocol (slot_at s.image slot)
          (sym (m.sure slot (omega (arith, within, m.flash.slots)) refl) ∙ noted))
    ]
