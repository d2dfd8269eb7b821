-- A block that is all blank is removable, and what becomes the spare.
use Rattle.scan_recovery.proofs.Common.{◌≡◌, ℕ, ◌+◌, ◌-◌, ◌*◌, ◌<◌, ◌⊎◌, true, List, map, length, get_or, Option, Some, None, refl, sym, ap, ◌∙◌, subst, inl, inr, arith, Contains, false≢true, cases_Bool, all_from, Protocol, Shape, Block, blocks_of, Seen, Blank, Found, name_of, is_present, IsCurrent, is_held, left, is_outside, IsRemovable, HasRemovable, complete_slots, reads_blank, IsChosenFrom, FindsHighest}
use Rattle.std.proofs.lemmas.Option.{none-some, same_Some}
use Rattle.std.proofs.lemmas.List.Folds.{list_all_at}
use Rattle.list_lemmas.proofs.Membership.{map_in, in_filter}
use Rattle.list_lemmas.proofs.Chunks.{chunk_at, length-chunk}
use Rattle.flash_model.specs.declared.flash.Seen.TheVariants.{Complete, Damaged}
use Rattle.record_list.proofs.OfFacts.Names.{present_in}
use Rattle.judged_records.specs.Notes.{complete_at}
use Rattle.judged_records.proofs.OfNotes.BaseTables.{given_from}
use Rattle.judged_records.proofs.OfNotes.Blocks.{in_it, inside_block}
use Rattle.judged_records.proofs.OfNotes.Scans.{numbered_complete}
use Rattle.flash_model.specs.Readings.{seen_in_block}
use Rattle.judged_records.specs.Opening.{IsBlankBlock, HasNoBlankBlock, IsHighest}
use Rattle.scan_recovery.specs.Opening.{FindsSpare}

-- a slot that reads complete
record ReadsComplete (slots : List Seen) (slot : ℕ) : Type 0 where
  pub within : slot < length slots
  pub reads : get_or slots slot Blank ≡ Complete

complete_is : (slot : ℕ) (how : Seen) (s : ℕ) → complete_at slot how ≡ Some s → (s ≡ slot) × (how ≡ Complete)
complete_is slot Blank s e = absurd (none-some s e)
complete_is slot Damaged s e = absurd (none-some s e)
complete_is slot Complete s e = (sym (same_Some slot s e), refl)

complete_reads : (slots : List Seen) (s : ℕ) → Contains (complete_slots slots) s → ReadsComplete slots s
complete_reads slots s i =
    let h = given_from numbered_complete 0 slots s i in
    let parts = complete_is (0 + h.at) (get_or slots h.at Blank) s (h.from Blank) in
    let same : s ≡ h.at = parts.0 ∙ (omega arith) in
    let within = h.within in
    record {
      within = omega arith;
      reads = ap (λ k. get_or slots k Blank) same ∙ parts.1;
    }

-- each slot with a record reads complete
pub found_complete : (slots : List Seen) (list : List Found) (f : Found) →
    map (λ g. g.slot.0) list ≡ complete_slots slots → Contains list f →
    get_or slots f.slot.0 Blank ≡ Complete
found_complete slots list f e i =
    (complete_reads slots f.slot.0 (subst (λ l. Contains l f.slot.0) e
    (map_in (λ (g : Found). g.slot.0) list f i))).reads

pub slot_within : (slots : List Seen) (list : List Found) (f : Found) →
    map (λ g. g.slot.0) list ≡ complete_slots slots → Contains list f →
    f.slot.0 < length slots
slot_within slots list f e i = (complete_reads slots f.slot.0
    (subst (λ l. Contains l f.slot.0) e (map_in (λ (g : Found). g.slot.0) list f i))).within

-- no complete slot lies in a block that is all blank
outside_blank : (shape : Shape) (slots : List Seen) (block at : ℕ) → 0 < shape.pages_per_block →
    IsBlankBlock shape slots block →
    at < length slots → get_or slots at Blank ≡ Complete → is_outside shape block at ≡ true
outside_blank shape slots block at some blank within reads = elim (cases_Bool (is_outside shape block at)) [
  | inl out ↦ out
  | inr inside ↦
      let ends = inside_block shape.pages_per_block block at some (in_it shape block at inside) in
      let here = chunk_at slots shape.pages_per_block block at Blank ends.0 ends.1 in
      let there = length-chunk slots shape.pages_per_block block at ends.0 ends.1 within in
      absurd (false≢true (sym (list_all_at reads_blank (seen_in_block shape slots block)
      (at - block * shape.pages_per_block) Blank there
      (ap reads_blank (here ∙ reads))) ∙ blank))
]

pub blank_removable : (p : Protocol) (list : List Found) (logical : ℕ) (shape : Shape) (slots : List Seen) (block : ℕ) →
    0 < shape.pages_per_block →
    map (λ g. g.slot.0) list ≡ complete_slots slots → IsBlankBlock shape slots block →
    IsRemovable p list logical shape block
blank_removable p list logical shape slots block some e blank =
    all_from
    (λ f. IsCurrent p list logical f.rec ⊎ (is_held p list logical f.rec ≡ true) →
    is_present (left (is_outside shape block) list) (name_of f.rec) ≡ true)
    list (λ f i counted.
    let out = outside_blank shape slots block f.slot.0 some blank (slot_within slots list f e i)
    (found_complete slots list f e i) in
    present_in (left (is_outside shape block) list) f (in_filter (λ g. is_outside shape block g.slot.0) f list i out))

module _ (p : Protocol) (logical : ℕ) (shape : Shape) (slots : List Seen) (list : List Found) where
  pub chosen_blank : (block : ℕ) → 0 < shape.pages_per_block → map (λ g. g.slot.0) list ≡ complete_slots slots →
      IsHighest (IsBlankBlock shape slots) (blocks_of shape) block →
      IsChosenFrom p logical shape slots list block × HasRemovable p list logical shape
  chosen_blank block some e high = (
    inl high,
    record {
      block = block;
      exists = high.exists;
      removable = blank_removable p list logical shape slots block some
          e high.holds;
    },
  )

  pub chosen_removable : (found : Option Block) → HasNoBlankBlock shape slots →
      FindsHighest (IsRemovable p list logical shape) (blocks_of shape) found →
      FindsSpare p logical shape slots list found
  chosen_removable None none finds = λ h. finds h.block h.exists h.removable
  chosen_removable (Some block) none high = (
    inr (none, high),
    record { block = block.0; exists = high.exists; removable = high.holds },
  )
