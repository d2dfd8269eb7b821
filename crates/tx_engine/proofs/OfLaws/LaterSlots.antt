-- What came to an image since no version rose may be lost again.
use Rattle.tx_engine.proofs.Common.{◌≡◌, ◌⊎◌, ℕ, ◌<◌, ◌≤◌, Bool, true, false, ◌&&◌, List, refl, sym, ap, ◌∙◌, subst, inl, inr, arith, Contains, All-contains, all_from, and_from, both_ways, Protocol, Shape, Rec, Found, cur, name_of, is_present, is_outside, found_named, records_in}
unfoldable use Rattle.judged_records.specs.Images.{current_in}
use Rattle.tx_types.specs.declared.config.Protocol.TheVariants.{Scc, Bpcc}
use Rattle.list_lemmas.proofs.Membership.{from_filter, in_filter}
use Rattle.list_lemmas.proofs.Tests.{any_of}
use Rattle.record_list.specs.Changes.{left}
use Rattle.record_list.specs.Current.{IsCurrent, answers_for, is_held}
use Rattle.record_list.specs.Losses.{IsSpared}
use Rattle.record_list.specs.Records.{IsScanned}
use Rattle.record_list.specs.SoundList.{IsSoundList, Pages, PagesExist}
use Rattle.record_list.specs.Verdict.{record_named}
use Rattle.record_list.specs.Written.{HasRemovable}
use Rattle.record_list.proofs.OfFacts.Held.{answer_of}
use Rattle.record_list.proofs.OfFacts.Names.{present_as}
use Rattle.record_list.proofs.OfFacts.SoundNames.{sound_map}
use Rattle.record_list.proofs.OfLosses.LossCounted.{counted_present, held_present, responsible_at}
use Rattle.judged_records.proofs.OfLaws.ImageScans.{records_scanned}
use Rattle.tx_engine.specs.Held.{AddsNoHeld}
use Rattle.tx_engine.specs.LaterSlots.{LaterSlotLaw, StandStill}

-- a held record has at most the current version of its page
held_low : (p : Protocol) (l : List Found) (logical : ℕ) (s : Rec) → is_held p l logical s ≡ true →
    s.version ≤ cur p l logical s.page
held_low Scc l logical s held = absurd (both_ways false refl held)
held_low Bpcc l logical s held =
    let f = any_of (λ f. answers_for Bpcc l logical s f.rec) l held in
    let a = answer_of l logical s f.0.rec f.2 in
    let version = a.version in
    let under = a.under in
    let r = responsible_at Bpcc l logical f.0.rec.next (omega arith) in
    let low = r.low in
    let same = r.version in
    subst (λ page. s.version ≤ cur Bpcc l logical page) a.page (omega arith)

module _ (p : Protocol) (logical : ℕ) (shape : Shape) (keep : ℕ → Bool) (a b : List Found)
    (sound : IsSoundList p a logical) (scanned : IsScanned a) (room : HasRemovable p a logical shape)
    (sound' : IsSoundList p b logical) (scanned' : IsScanned b) (held : AddsNoHeld p logical a b)
    (same : (page : ℕ) → page < logical → cur p b logical page ≡ cur p a logical page)
    (still : StandStill a b keep) where
  abbrev out : ℕ → Bool
  out = is_outside shape room.block

  abbrev both : ℕ → Bool
  both slot = keep slot && out slot

  abbrev IsCounted : List Found → Rec → Type 0
  IsCounted l r = IsCurrent p l logical r ⊎ (is_held p l logical r ≡ true)

  stands : (g : Found) → Contains a g → Contains b g × (keep g.slot.0 ≡ true)
  stands g i = All-contains (λ f. Contains b f × (keep f.slot.0 ≡ true)) a g still i

  -- what counted before has a slot that stays
  from_before : (g : Found) → Contains a g → IsCounted a g.rec → is_present (left both b) (name_of g.rec) ≡ true
  from_before g i counted =
      let there = All-contains (λ f. IsCounted a f.rec → is_present (left out a) (name_of f.rec) ≡ true) a g
      room.removable i counted in
      let h = found_named (left out a) (name_of g.rec) there in
      let parts = from_filter (λ f. out f.slot.0) h.0 a h.1 in
      let now = stands h.0 parts.0 in
      present_as (left both b) h.0 (name_of g.rec)
      (in_filter (λ f. both f.slot.0) h.0 b now.0 (and_from (keep h.0.slot.0) (out h.0.slot.0) now.1 parts.1)) h.2

  -- a record that stands in both lists under one name is the same
  alike : (f g : Found) → Contains b f → Contains b g → name_of g.rec ≡ name_of f.rec → g.rec ≡ f.rec
  alike f g i j named =
      let m = sound_map p b logical sound' scanned' in
      m.copies g j ∙ ap (record_named b) named ∙ sym (m.copies f i)

  module _ (f : Found) (i : Contains b f) where
    low : f.rec.page < logical
    low = (All-contains (PagesExist logical) b f (sound' Pages) i).0

    positive : 1 ≤ f.rec.version
    positive = (All-contains (λ x. (1 ≤ x.rec.version) × (1 ≤ x.rec.next.version)) b f scanned'.versions i).0

    before : IsCounted b f.rec → IsCounted a f.rec
    before (inl current) = inl (current ∙ same f.rec.page low)
    before (inr now) = elim (held.held f.rec low now) [
      | inl was ↦ inr was
      | inr above ↦ absurd (omega (arith, above, held_low p b logical f.rec now, same f.rec.page low))
    ]

    was_present : IsCounted a f.rec → is_present a (name_of f.rec) ≡ true
    was_present (inl current) = counted_present p a logical (sound_map p a logical sound scanned) (name_of f.rec) positive
        (inl current)
    was_present (inr was) = held_present p a logical f.rec was

    spared : IsCounted b f.rec → is_present (left both b) (name_of f.rec) ≡ true
    spared now =
        let was = before now in
        let g = found_named a (name_of f.rec) (was_present was) in
        let rec = alike f g.0 i (stands g.0 g.1).0 g.2 in
        subst (λ r. is_present (left both b) (name_of r) ≡ true) rec
        (from_before g.0 g.1 (subst (IsCounted a) (sym rec) was))

  pub spared_later : IsSpared p b logical shape keep
  spared_later = record {
    block = room.block;
    exists = room.exists;
    counted = all_from (λ f. IsCounted b f.rec → is_present (left both b) (name_of f.rec) ≡ true) b
        (λ f i now. spared f i now);
  }

pub later_slot_law : (p : Protocol) → LaterSlotLaw p
unfolding current_in
later_slot_law p logical shape old new keep sound sound' held same still =
    spared_later p logical shape keep (records_in p old) (records_in p new) sound.written.records
    (records_scanned p old) sound.written.removable sound'.written.records (records_scanned p new) held same still
