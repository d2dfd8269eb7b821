-- What is left of an image in which slots wait: each transaction asks for its record yet.
use Rattle.lost_writes.proofs.Common.{◌≡◌, ℕ, ◌⊎◌, Bool, true, false, not, ◌&&◌, List, Contains, refl, sym, ap, ◌∙◌, subst, inl, inr, and_parts, and_from, All-contains, all_from, from_filter, in_filter, Contents, blank, damaged, complete, slot_at, records_in, written_in, LosesSlots, left, KeepsCounted, LossLaw, IsSpared, name_of, is_present, found_of, records_of, is_outside, Found, Protocol, Shape, Link}
use Rattle.std.proofs.Common.{option_and_then}
use Rattle.array_machine.specs.ArrayState.{Entry}
use Rattle.record_list.specs.Written.{value_of}
use Rattle.record_list.proofs.OfChanges.OneMore.{inserted_in, in_inserted, new_in}
use Rattle.record_list.proofs.OfChanges.SlotLosses.{written_slot_loss}
use Rattle.record_list.proofs.OfChanges.Spared.{counted_first, counted_second}
use Rattle.record_list.proofs.OfChanges.WrittenLists.{records_left}
use Rattle.record_list.proofs.OfFacts.Names.{found_named, present_as}
use Rattle.record_list.proofs.OfLosses.LossAmong.{among_of, among_present}
use Rattle.judged_records.specs.ImageChanges.{AsksFor, KeepsLost}
use Rattle.judged_records.proofs.OfLaws.ImageLaws.{writes}
use Rattle.judged_records.proofs.OfLaws.ImageScans.{records_scanned, HasNone, written_lost, written}
use Rattle.judged_records.proofs.OfLaws.SlotLosses.{image_slot_loss, asks_after_loss}
use Rattle.lost_writes.specs.Waiting.{IsLeftOf, is_spared}
use Rattle.lost_writes.specs.Fired.{Fired, with_record, IsFired, IsUnflushed}
use Rattle.lost_writes.proofs.Slots.{IsLossOf, stays, loses, must_stay, counted_weaker, waits_not, none_waits}

-- a slot that waits and is blank afterwards: it was blank, or something was lost
gone_case : (old new : Contents) (W : Type 0) → W → new ≡ blank →
    (new ≡ old) ⊎ ((W × (old ≡ blank → ⊥)) × ((new ≡ blank) ⊎ (new ≡ damaged)))
gone_case blank new W w e = inl e
gone_case damaged new W w e = inr ((w, λ same. cc), inl e)
gone_case (complete bytes spare) new W w e = inr ((w, λ same. cc), inl e)

module _ (p : Protocol) (law : LossLaw p) (logical : ℕ) (shape : Shape) (Q : Entry → Type 0) (block : ℕ)
    (waits : ℕ → Bool) (image : List Contents) (fired : List Fired)
    (u : IsUnflushed p logical shape Q block waits image fired) (image' : List Contents)
    (loss : IsLeftOf waits image image') where
  abbrev out : ℕ → Bool
  out = is_outside shape block

  -- a slot may go that waits and is not blank
  abbrev go : ℕ → Type 0
  go slot = (waits slot ≡ true) × (slot_at image slot ≡ blank → ⊥)

  lost_at : IsLossOf go image image'
  lost_at = record {
    slots = loss.slots;
    each = λ slot within. elim (loss.each slot within) [
      | inl same ↦ inl same
      | inr gone ↦ gone_case (slot_at image slot) (slot_at image' slot) (waits slot ≡ true) gone.0 gone.1
    ];
  }

  abbrev keep : ℕ → Bool
  keep = stays go image image' lost_at

  keeps : LosesSlots keep image image'
  keeps = loses go image image' lost_at

  abbrev l : List Found
  l = records_in p image

  abbrev m : List Found
  m = records_in p image'

  counted : KeepsCounted p l logical (λ slot. keep slot && out slot)
  counted = counted_weaker p l logical (is_spared waits shape block) (λ slot. keep slot && out slot)
      (λ slot h. let k = and_parts (not (waits slot)) (out slot) h in
      and_from (keep slot) (out slot)
      (must_stay go image image' lost_at slot (λ g. waits_not (waits slot) g.0 k.0)) k.1) u.spared

  spared : IsSpared p l logical shape keep
  spared = record { block = block; exists = u.exists; counted = counted }

  kept : KeepsLost p logical shape image image'
  kept = image_slot_loss p (written_slot_loss p law) logical shape image image' keep u.sound keeps spared

  no_record : (slot : ℕ) → keep slot ≡ false → HasNone p (slot_at image' slot)
  no_record slot e = elim (keeps.lost slot e) [
    | inl is ↦ subst (HasNone p) (sym is) (λ k. refl)
    | inr is ↦ subst (HasNone p) (sym is) (λ k. refl)
  ]

  its_left : left keep l ≡ m
  its_left = sym (ap records_of (written_lost p keep image image' keeps.slots keeps.kept no_record)
      ∙ records_left keep (written_in p image))

  -- each record was there
  was_there : (g : Found) → Contains m g → Contains l g
  was_there g i = (from_filter (λ (x : Found). keep x.slot.0) g l (subst (λ xs. Contains xs g) (sym its_left) i)).0

  pub removable : KeepsCounted p m logical out
  removable = subst (λ xs. KeepsCounted p xs logical out) its_left
      (counted_second p l logical keep out counted
      (law l logical keep u.sound.written.records (records_scanned p image)
      (counted_first p l logical keep out counted)))

  pub is_left_sound : KeepsLost p logical shape image image'
  is_left_sound = kept

  -- a record that does not wait is there yet
  still_there : (g : Found) → Contains (left (is_spared waits shape block) l) g →
      Contains (left (is_spared none_waits shape block) m) g
  still_there g i =
      let k = from_filter (λ (x : Found). is_spared waits shape block x.slot.0) g l i in
      let parts = and_parts (not (waits g.slot.0)) (out g.slot.0) k.1 in
      let stays = must_stay go image image' lost_at g.slot.0 (λ w. waits_not (waits g.slot.0) w.0 parts.0) in
      in_filter (λ (x : Found). is_spared none_waits shape block x.slot.0) g m
      (subst (λ xs. Contains xs g) its_left (in_filter (λ (x : Found). keep x.slot.0) g l k.0 stays)) parts.1

  module _ (f : Fired) (is : IsFired p logical shape Q block waits image f) where
    asks : AsksFor p logical shape image' f.names f.at f.rec
    asks = asks_after_loss p law logical shape image image' f.names f.at f.rec keep is.asks keeps spared
        (must_stay go image image' lost_at f.at (λ g. g.1 is.asks.blank))

    -- a name that is there with the record was there with it
    name_was : (name : Link) → is_present (records_in p (with_record p image' f)) name ≡ true →
        is_present (records_in p (with_record p image f)) name ≡ true
    name_was name h =
        let new = found_of (written f.at f.rec f.bytes) in
        let l' = records_in p (with_record p image f) in
        let m' = records_in p (with_record p image' f) in
        let a = (writes p logical shape image f.names f.at f.bytes f.rec is.asks).write.added in
        let b = (writes p logical shape image' f.names f.at f.bytes f.rec asks).write.added in
        let g = found_named m' name h in
        elim (inserted_in m m' new b g.0 g.1) [
          | inl own ↦ present_as l' new name (new_in l l' new a) (ap (λ (x : Found). name_of x.rec) own ∙ g.2)
          | inr old ↦ present_as l' g.0 name (in_inserted l l' new a g.0 (was_there g.0 old)) g.2
        ]

    pub fired_left : IsFired p logical shape Q block none_waits image' f
    fired_left = record {
      asks = asks;
      pages = is.pages;
      says = λ name w i j same h.
          ap (option_and_then value_of) (sym (kept.texts name h))
          ∙ is.says name w i j same (among_present m l (among_of m l was_there) name h);
      says_own = is.says_own;
      outside = all_from (λ (g : Found). Contains f.names (name_of g.rec) →
          (out g.slot.0 ≡ true) ⊎ (is_present (left (is_spared none_waits shape block) m) (name_of g.rec) ≡ true)) m
          (λ g i own.
          elim (All-contains (λ (x : Found). Contains f.names (name_of x.rec) →
          (out x.slot.0 ≡ true) ⊎ (is_present (left (is_spared waits shape block) l) (name_of x.rec) ≡ true)) l g
          is.outside (was_there g i) own) [
            | inl here ↦ inl here
            | inr other ↦ inr (among_present (left (is_spared waits shape block) l)
                (left (is_spared none_waits shape block) m)
                (among_of (left (is_spared waits shape block) l) (left (is_spared none_waits shape block) m)
                still_there) (name_of g.rec) other)
          ]);
      slot = is.slot;
      last = λ all. is.last (all_from (λ name. is_present (records_in p (with_record p image f)) name ≡ true) f.names
          (λ name i. name_was name (All-contains (λ name. is_present (records_in p (with_record p image' f)) name
          ≡ true) f.names name all i)));
    }
