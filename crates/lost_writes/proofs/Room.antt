-- What a loss leaves of a call that completes no transaction: since the last moment at which nothing waited only copies
-- and broken programs were done.
use Rattle.lost_writes.proofs.Common.{◌≡◌, ℕ, ◌<◌, Bool, true, false, List, [], ◌∷◌, length, set, All, All-head, All-tail, refl, sym, ap, ◌∙◌, subst, inl, inr, arith, false≢true, length-set, get_or-set_other, Contents, blank, damaged, complete, slot_at, array_in, records_in, Protocol, Shape, LossLaw}
use Rattle.std.proofs.Common.{◌+◌, ◌*◌, ◌/◌, add-one}
use Rattle.std.proofs.Math.Nat.{suc-mul, lt-div-mul-add}
use Rattle.tx_types.specs.Config.{IsShape}
use Rattle.flash_model.specs.declared.outcome.Outcome.{Outcome}
use Rattle.flash_model.specs.declared.outcome.Outcome.TheVariants as outcome
use Rattle.flash_model.specs.Moves.{Does}
use Rattle.flash_model.specs.Operations.{Operation, program, erase, fire, Moment, CanProgram, after, image_left}
use Rattle.record_list.specs.Losses.{IsSpared}
use Rattle.record_list.proofs.OfChanges.SlotLosses.{written_slot_loss}
use Rattle.judged_records.specs.Images.{IsSoundImage}
use Rattle.judged_records.specs.ImageChanges.{KeepsLost}
use Rattle.judged_records.proofs.OfLaws.SlotLosses.{image_slot_loss}
use Rattle.array_machine.specs.Step.{settled}
use Rattle.array_runs.specs.Run.{TakesOf, MayComplete}
use Rattle.array_runs.proofs.Each.{takes_none}
use Rattle.collector.specs.Collecting.{is_blank_slot}
use Rattle.collector.specs.Preserves.{KeepsArray}
use Rattle.collector.specs.SinceErase.{IsProgram, EndsTorn, ProgramTorn, WorksSinceErase}
use Rattle.collector.proofs.OfNotes.Keeping.{keeps_array_then}
use Rattle.lost_writes.specs.Room.{is_blank_in, MayLeaveOf, RoomLossLaw}
use Rattle.lost_writes.specs.Waiting.{IsLeftOf, IsSinceFlush, is_durable}
use Rattle.lost_writes.proofs.Slots.{torn_erase, waiting_slots_lost}
use Rattle.lost_writes.proofs.Spared.{spared_since_flush}

pub blank_is : (c : Contents) → is_blank_slot c ≡ true → c ≡ blank
blank_is blank e = refl
blank_is damaged e = cc
blank_is (complete bytes spare) e = cc

add_one : (n per : ℕ) → (n + 1) * per ≡ n * per + per
add_one n per = ap (λ k. k * per) (add-one n) ∙ suc-mul n per

-- a slot that may be programmed is blank
pub can_blank : (shape : Shape) (image : List Contents) (at : ℕ) → IsShape shape → CanProgram shape image at →
    slot_at image at ≡ blank
can_blank shape image at bounds can =
    let per = shape.pages_per_block in
    let least = bounds.pages_least in
    can.blank_on at (omega arith)
    (subst (λ n. at < n) (sym (add_one (at / per) per)) (lt-div-mul-add (omega (arith, least))))

-- the image is as long, and the slots that were not blank are as they were
pub record KeepsFull (a b : List Contents) : Type 0 where
  pub slots : length b ≡ length a
  pub stays : (slot : ℕ) → is_blank_in a slot ≡ false → slot_at b slot ≡ slot_at a slot

pub full_itself : (a b : List Contents) → b ≡ a → KeepsFull a b
full_itself a b same = record { slots = ap length same; stays = λ slot full. ap (λ i. slot_at i slot) same }

pub full_then : (a b c : List Contents) → KeepsFull a b → KeepsFull b c → KeepsFull a c
full_then a b c ab bc = record {
  slots = bc.slots ∙ ab.slots;
  stays = λ slot full.
      let first = ab.stays slot full in
      bc.stays slot (ap is_blank_slot first ∙ full) ∙ first;
}

pub full_set : (a : List Contents) (at : ℕ) (c : Contents) → slot_at a at ≡ blank → KeepsFull a (set a at c)
full_set a at c was = record {
  slots = length-set a at c;
  stays = λ slot full. get_or-set_other a at slot c blank
      (λ same. false≢true (sym full ∙ ap (is_blank_in a) same ∙ ap is_blank_slot was));
}

module _ (shape : Shape) (bounds : IsShape shape) where
  pub programs_full : (list : List Operation) (a b : Moment) → All IsProgram list → Does shape a list b →
      KeepsFull a.image b.image
  programs_full [] a b alone does = full_itself a.image b.image (ap (λ (m : Moment). m.image) does)
  programs_full (program at bytes spare_area ∷ rest) a b alone does =
      let o = program at bytes spare_area in
      full_then a.image (after shape a o).image b.image
      (full_set a.image at (complete bytes spare_area) (can_blank shape a.image at bounds does.0.0))
      (programs_full rest (after shape a o) b (All-tail IsProgram o rest alone) does.1)
  programs_full (erase block ∷ rest) a b alone does = absurd (All-head IsProgram (erase block) rest alone)
  programs_full (fire loads ∷ rest) a b alone does = absurd (All-head IsProgram (fire loads) rest alone)

  pub torn_full : (p : Protocol) (logical : ℕ) (a b : Moment) → ProgramTorn p logical shape a b → KeepsFull a.image b.image
  torn_full p logical a b torn = by torn.breaks.0.left.0 torn.breaks.0.left.1
    where
      was : slot_at a.image torn.at ≡ blank
      was = can_blank shape a.image torn.at bounds torn.can.0

      by : (how : Outcome) → b.image ≡ image_left shape a.image (program torn.at torn.bytes torn.spare_area) how →
          KeepsFull a.image b.image
      by outcome.None is = full_itself a.image b.image is
      by outcome.All is = subst (KeepsFull a.image) (sym is)
          (full_set a.image torn.at (complete torn.bytes torn.spare_area) was)
      by outcome.Bad is = subst (KeepsFull a.image) (sym is) (full_set a.image torn.at damaged was)

module _ (p : Protocol) (loss : LossLaw p) (logical : ℕ) (shape : Shape) where
  -- what is left is sound, with the same array
  pub record IsKept (old left : List Contents) : Type 0 where
    pub sound : IsSoundImage p logical shape left
    pub array : array_in p logical left ≡ array_in p logical old

  pub kept_since : (base image left : List Contents) → IsSoundImage p logical shape base →
      IsSoundImage p logical shape image → array_in p logical image ≡ array_in p logical base →
      IsSinceFlush p logical (is_blank_in base) base image → IsLeftOf (is_blank_in base) image left → IsKept base left
  kept_since base image left sound sound' array since lost =
      let waits = is_blank_in base in
      let removable = sound.written.removable in
      let spared : IsSpared p (records_in p image) logical shape (is_durable waits) = record {
        block = removable.block;
        exists = removable.exists;
        counted = spared_since_flush p logical shape base image waits removable.block sound sound' since
            removable.removable;
      } in
      let is : KeepsLost p logical shape image left =
      waiting_slots_lost p (image_slot_loss p (written_slot_loss p loss)) logical shape image left waits sound' lost
      spared in
      record { sound = is.sound; array = is.array ∙ array }

  pub kept_of : (base image left : List Contents) → IsSoundImage p logical shape base →
      IsSoundImage p logical shape image → KeepsArray p logical base image → KeepsFull base image →
      IsLeftOf (is_blank_in base) image left → IsKept base left
  kept_of base image left sound sound' keeps full lost =
      kept_since base image left sound sound' keeps.array (record {
        slots = full.slots;
        stays = full.stays;
        was_blank = λ slot on. blank_is (slot_at base slot) on;
        versions = keeps.versions;
        held = λ r low held. inl (keeps.held r held);
      }) lost

  -- of what was done since
  module _ (bounds : IsShape shape) (old new : Moment) (broken : Bool)
      (works : WorksSinceErase p logical shape old broken new) (left : List Contents) where
    abbrev base : List Contents
    base = works.base.image

    abbrev between : List Contents
    between = works.between.image

    full : KeepsFull base between
    full = programs_full shape bounds works.programs works.base works.between works.alone works.does

    at_between : IsLeftOf (is_blank_in base) between left → IsKept base left
    at_between = kept_of base between left works.before.sound works.stays.sound works.stays.keeps full

    at_same : new ≡ works.between → IsLeftOf (is_blank_in base) new.image left → IsKept base left
    at_same same lost =
        at_between (subst (λ (m : Moment). IsLeftOf (is_blank_in base) m.image left) same lost)

    kept_by : (b : Bool) (ends : EndsTorn p logical shape works.between b new) →
        MayLeaveOf p logical shape works.base works.between b new ends left → IsKept base left
    kept_by false same lost = at_same same lost
    kept_by true (inl same) lost = at_same same lost
    kept_by true (inr (inl torn)) lost =
        kept_of base new.image left works.before.sound torn.stays.sound
        (keeps_array_then p logical base between new.image works.stays.keeps torn.stays.keeps)
        (full_then base between new.image full (torn_full shape bounds p logical works.between new torn)) lost
    kept_by true (inr (inr torn)) (inl lost) = at_between lost
    kept_by true (inr (inr torn)) (inr lost) =
        let is : KeepsLost p logical shape between left =
        torn_erase p (image_slot_loss p (written_slot_loss p loss)) logical shape between left torn.block
        works.stays.sound torn.exists torn.removable lost in
        record { sound = is.sound; array = is.array ∙ works.stays.keeps.array }

pub room_loss : (p : Protocol) → LossLaw p → RoomLossLaw p
room_loss p loss logical shape c s old new broken works left bounds array lost =
    let kept = kept_by p loss logical shape bounds old new broken works left broken works.ends lost in
    let there = array.0 in
    record {
      sound = kept.sound;
      cut = (
        there,
        subst (TakesOf c (MayComplete c) s.entries (settled there s).pages)
            (sym (kept.array ∙ works.before.keeps.array ∙ array.1))
            (takes_none c (MayComplete c) s.entries (settled there s).pages),
        refl,
      );
    }
