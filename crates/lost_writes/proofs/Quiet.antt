-- Programs that complete no transaction raise no version, and add no record that is held.
use Rattle.lost_writes.proofs.Common.{◌≡◌, ◌≢◌, ℕ, ◌<◌, List, [], ◌∷◌, length, set, refl, sym, ap, ◌∙◌, subst, inl, inr, cases_eq, both_ways, false≢true, length-set, get_or-set_other, Contents, blank, complete, slot_at, records_in, array_in, SameCurrent, Protocol, Shape, damaged, cur, is_held, records_of}
use Rattle.std.proofs.Common.{◌==◌, eqb-true, eq-eqb}
use Rattle.std.proofs.lemmas.Bool.{or_cases, or_parts}
use Rattle.record_list.specs.Changes.{SameHeld}
use Rattle.judged_records.specs.Images.{IsSoundImage}
use Rattle.judged_records.specs.ImageChanges.{KeepsPartial, KeepsCopied, KeepsDamaged, image_with}
use Rattle.judged_records.proofs.OfLaws.ImageLaws.{image_damage_law}
use Rattle.judged_records.specs.ImageLaws.{ImagePartialLaw, ImageCopyLaw}
use Rattle.lost_writes.specs.Waiting.{IsSinceFlush}
use Rattle.lost_writes.specs.Quiet.{IsQuiet, is_one_of, QuietProgramsLaw}

-- what one of them leaves: one slot that was blank is another
record IsOneSlot (p : Protocol) (logical : ℕ) (shape : Shape) (at : ℕ) (image image' : List Contents) : Type 0 where
  sound : IsSoundImage p logical shape image'
  slots : length image' ≡ length image
  others : (slot : ℕ) → slot ≢ at → slot_at image' slot ≡ slot_at image slot
  was_blank : slot_at image at ≡ blank
  versions : SameCurrent p (records_in p image) (records_in p image') logical
  held : SameHeld p (records_in p image) (records_in p image') logical
  array : array_in p logical image' ≡ array_in p logical image

one_slot : (p : Protocol) → ImagePartialLaw p → ImageCopyLaw p → (logical : ℕ) (shape : Shape) (at : ℕ)
    (image image' : List Contents) → IsSoundImage p logical shape image → IsQuiet p logical shape at image image' →
    IsOneSlot p logical shape at image image'
one_slot p partial copy logical shape at image image' sound (inl w) =
    let k : KeepsPartial p logical shape image (image_with p image at w.bytes w.rec) w.names w.rec w.bytes =
    partial logical shape image w.names at w.bytes w.rec w.asks w.absent in
    subst (IsOneSlot p logical shape at image) (sym w.now) (record {
      sound = k.sound;
      slots = length-set image at _;
      others = λ slot other. get_or-set_other image at slot _ blank other;
      was_blank = w.asks.blank;
      versions = k.records.same_current;
      held = k.records.same_held;
      array = k.array;
    })
one_slot p partial copy logical shape at image image' sound (inr (inl w)) =
    let k : KeepsCopied p logical shape image (set image at (complete w.bytes w.spare)) =
    copy logical shape image w.from at w.bytes w.spare sound w.from_within w.within w.source w.was_blank in
    subst (IsOneSlot p logical shape at image) (sym w.now) (record {
      sound = k.sound;
      slots = length-set image at _;
      others = λ slot other. get_or-set_other image at slot _ blank other;
      was_blank = w.was_blank;
      versions = k.records.same_current;
      held = k.records.same_held;
      array = k.array;
    })
one_slot p partial copy logical shape at image image' sound (inr (inr w)) =
    let k : KeepsDamaged p logical shape image (set image at damaged) =
    image_damage_law p logical shape image at sound w.within w.was_blank in
    subst (IsOneSlot p logical shape at image) (sym w.now) (record {
      sound = k.sound;
      slots = length-set image at _;
      others = λ slot other. get_or-set_other image at slot _ blank other;
      was_blank = w.was_blank;
      versions = λ page low. ap (λ l. cur p (records_of l) logical page) k.written;
      held = λ r. ap (λ l. is_held p (records_of l) logical r) k.written;
      array = k.array;
    })

-- nothing was done
none_since : (p : Protocol) (logical : ℕ) (image : List Contents) → IsSinceFlush p logical (is_one_of []) image image
none_since p logical image = record {
  slots = refl;
  stays = λ slot off. refl;
  was_blank = λ slot on. absurd (false≢true on);
  versions = λ page low. refl;
  held = λ r low held. inl held;
}

-- one program, and then others
since_then : (p : Protocol) (logical : ℕ) (shape : Shape) (at : ℕ) (slots : List ℕ)
    (flushed mid image : List Contents) →
    IsOneSlot p logical shape at flushed mid → IsSinceFlush p logical (is_one_of slots) mid image →
    IsSinceFlush p logical (is_one_of (at ∷ slots)) flushed image
since_then p logical shape at slots flushed mid image one rest = record {
  slots = rest.slots ∙ one.slots;
  stays = λ slot off.
      let parts = or_parts (at == slot) (is_one_of slots slot) off in
      rest.stays slot parts.1
      ∙ one.others slot (λ same. both_ways (at == slot) parts.0 (eq-eqb at slot (sym same)));
  was_blank = λ slot on. elim (cases_eq slot at) [
    | inl same ↦ ap (slot_at flushed) same ∙ one.was_blank
    | inr other ↦ elim (or_cases (at == slot) (is_one_of slots slot) on) [
      | inl same ↦ absurd (other (sym (eqb-true at slot same)))
      | inr later ↦ sym (one.others slot other) ∙ rest.was_blank slot later
    ]
  ];
  versions = λ page low. rest.versions page low ∙ one.versions page low;
  held = λ r low h. elim (rest.held r low h) [
    | inl old ↦ inl (sym (one.held r) ∙ old)
    | inr above ↦ inr (subst (λ v. v < r.version) (one.versions r.page low) above)
  ];
}

pub quiet_programs : (p : Protocol) → ImagePartialLaw p → ImageCopyLaw p → QuietProgramsLaw p
quiet_programs p partial copy logical shape [] flushed image sound same = record {
  sound = subst (IsSoundImage p logical shape) (sym same) sound;
  array = ap (array_in p logical) same;
  since = subst (IsSinceFlush p logical (is_one_of []) flushed) (sym same) (none_since p logical flushed);
}
quiet_programs p partial copy logical shape (at ∷ slots) flushed image sound (mid, first, then') =
    let one = one_slot p partial copy logical shape at flushed mid sound first in
    let rest = quiet_programs p partial copy logical shape slots mid image one.sound then' in
    record {
      sound = rest.sound;
      array = rest.array ∙ one.array;
      since = since_then p logical shape at slots flushed mid image one rest.since;
    }
