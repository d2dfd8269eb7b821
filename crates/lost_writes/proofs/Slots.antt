-- An image of which each slot is as it was, or one that may go and has no record: it keeps what a loss of slots keeps.
use Rattle.lost_writes.proofs.Common.{◌≡◌, ℕ, ◌<◌, ◌⊎◌, Bool, true, false, not, ◌≤◌, ◌&&◌, List, length, sym, ◌∙◌, subst, inl, inr, cases_lt, cases_Bool, false≢true, and_parts, and_from, get_or_past, all_from, All-contains, from_filter, in_filter, Contents, blank, damaged, slot_at, LosesSlots, ImageSlotLossLaw, left, KeepsCounted, IsCurrent, is_held, IsSpared, name_of, is_present, is_outside, records_in, Found, Protocol, Shape, refl, ⊎_elim, arith, blocks_of}
use Rattle.std.proofs.Common.{◌*◌, ◌+◌}
use Rattle.flash_model.specs.Flash.{IsImage}
use Rattle.flash_model.specs.Operations.{with_block}
use Rattle.flash_model.proofs.ImageLemmas.{block_within}
use Rattle.judged_records.proofs.OfNotes.Blocks.{outside_it, in_it, inside_block, length-with_item, item_in, item_out}
use Rattle.record_list.proofs.OfChanges.Spared.{counted_twice}
use Rattle.record_list.proofs.OfLosses.LossAmong.{among_of, among_present}
use Rattle.lost_writes.specs.Waiting.{IsLeftOf, IsTornIn, is_durable, WaitingLossLaw, TornEraseLaw, EraseIsTorn, BetweenIsTorn}

-- which of two cases it is
abbrev pub is_left : {A B : Type 0} → A ⊎ B → Bool
is_left (inl a) = true
is_left (inr b) = false

left_of : {A B : Type 0} (x : A ⊎ B) → is_left x ≡ true → A
left_of (inl a) e = a
left_of (inr b) e = absurd (false≢true e)

right_of : {A B : Type 0} (x : A ⊎ B) → is_left x ≡ false → B
right_of (inl a) e = absurd (false≢true (sym e))
right_of (inr b) e = b

-- each slot is as it was, or is one that may go, and is blank or damaged
pub record IsLossOf (may_go : ℕ → Type 0) (image left : List Contents) : Type 0 where
  pub slots : length left ≡ length image
  pub each : (slot : ℕ) → slot < length image →
      (slot_at left slot ≡ slot_at image slot)
      ⊎ (may_go slot × ((slot_at left slot ≡ blank) ⊎ (slot_at left slot ≡ damaged)))

module _ (may_go : ℕ → Type 0) (image left : List Contents) (loss : IsLossOf may_go image left) where
  pub slot_case : (slot : ℕ) → (slot_at left slot ≡ slot_at image slot)
      ⊎ (may_go slot × ((slot_at left slot ≡ blank) ⊎ (slot_at left slot ≡ damaged)))
  slot_case slot = elim (cases_lt slot (length image)) [
    | inl within ↦ loss.each slot within
    | inr past ↦ inl (get_or_past left slot blank (subst (λ n. n ≤ slot) (sym loss.slots) past)
        ∙ sym (get_or_past image slot blank past))
  ]

  -- the test that a slot is as it was
  abbrev pub stays : ℕ → Bool
  stays slot = is_left (slot_case slot)

  pub loses : LosesSlots stays image left
  loses = record {
    slots = loss.slots;
    kept = λ slot e. left_of (slot_case slot) e;
    lost = λ slot e. (right_of (slot_case slot) e).1;
  }

  -- a slot that may not go stays
  pub must_stay : (slot : ℕ) → (may_go slot → ⊥) → stays slot ≡ true
  must_stay slot none = elim (cases_Bool (stays slot)) [
    | inl yes' ↦ yes'
    | inr gone ↦ absurd (none (right_of (slot_case slot) gone).0)
  ]

-- what a test keeps a weaker one keeps
pub counted_weaker : (p : Protocol) (l : List Found) (n : ℕ) (a b : ℕ → Bool) →
    ((slot : ℕ) → a slot ≡ true → b slot ≡ true) → KeepsCounted p l n a → KeepsCounted p l n b
counted_weaker p l n a b weaker counted =
    all_from (λ f. IsCurrent p l n f.rec ⊎ (is_held p l n f.rec ≡ true) →
    is_present (left b l) (name_of f.rec) ≡ true) l (λ f i counts.
    among_present (left a l) (left b l) (among_of (left a l) (left b l) (λ g c.
    let k = from_filter (λ (x : Found). a x.slot.0) g l c in
    in_filter (λ (x : Found). b x.slot.0) g l k.0 (weaker g.slot.0 k.1))) (name_of f.rec)
    (All-contains (λ g. IsCurrent p l n g.rec ⊎ (is_held p l n g.rec ≡ true) →
    is_present (left a l) (name_of g.rec) ≡ true) l f counted i counts))

pub spared_weaker : (p : Protocol) (l : List Found) (n : ℕ) (shape : Shape) (a b : ℕ → Bool) →
    ((slot : ℕ) → a slot ≡ true → b slot ≡ true) → IsSpared p l n shape a → IsSpared p l n shape b
spared_weaker p l n shape a b weaker spared =
    let out = is_outside shape spared.block in
    record {
      block = spared.block;
      exists = spared.exists;
      counted = counted_weaker p l n (λ slot. a slot && out slot) (λ slot. b slot && out slot)
          (λ slot h. let k = and_parts (a slot) (out slot) h in and_from (b slot) (out slot) (weaker slot k.0) k.1)
          spared.counted;
    }

-- no slot waits
abbrev pub none_waits : ℕ → Bool
none_waits slot = false

-- a slot waits, and is durable: not both
pub waits_not : (b : Bool) → b ≡ true → not b ≡ true → ⊥
waits_not true e h = false≢true h
waits_not false e h = false≢true e

-- what is left of an image of which some slots wait
pub waiting_loss : (waits : ℕ → Bool) (image left : List Contents) → IsLeftOf waits image left →
    IsLossOf (λ slot. waits slot ≡ true) image left
waiting_loss waits image left loss = record {
  slots = loss.slots;
  each = λ slot within. elim (loss.each slot within) [ inl same ↦ inl same | inr gone ↦ inr (gone.0, inl gone.1) ];
}

pub waiting_slots_lost : (p : Protocol) → ImageSlotLossLaw p → WaitingLossLaw p
waiting_slots_lost p law logical shape image left waits sound loss spared =
    let go : ℕ → Type 0 = λ slot. waits slot ≡ true in
    let is : IsLossOf go image left = waiting_loss waits image left loss in
    law logical shape image left (stays go image left is) sound (loses go image left is)
    (spared_weaker p (records_in p image) logical shape (is_durable waits) (stays go image left is)
    (λ slot durable. must_stay go image left is slot (λ w. waits_not (waits slot) w durable)) spared)

-- and where an erase was torn
pub torn_erase : (p : Protocol) → ImageSlotLossLaw p → TornEraseLaw p
torn_erase p law logical shape image left block sound exists removable torn =
    let out = is_outside shape block in
    let go : ℕ → Type 0 = λ slot. out slot ≡ false in
    let is : IsLossOf go image left = record { slots = torn.slots; each = torn.each } in
    law logical shape image left (stays go image left is) sound (loses go image left is)
    (spared_weaker p (records_in p image) logical shape out (stays go image left is)
    (λ slot here. must_stay go image left is slot (λ gone. false≢true (sym gone ∙ here))) (record {
      block = block;
      exists = exists;
      counted = counted_twice p (records_in p image) logical out removable;
    }))

-- ---- erases

emptied : (shape : Shape) (image : List Contents) (block : ℕ) → IsImage shape image → block < blocks_of shape →
    (contents : Contents) → (contents ≡ blank) ⊎ (contents ≡ damaged) →
    IsTornIn shape block image (with_block shape image block contents)
emptied shape image block whole below contents is =
    let some : 0 < shape.pages_per_block = (let b = whole.bounds.pages_least in omega arith) in
    let fits : block * shape.pages_per_block + shape.pages_per_block ≤ length image =
    omega (arith, whole.slots, block_within shape block below) in
    let left = with_block shape image block contents in
    record {
      slots = length-with_item shape some image block contents blank fits;
      each = λ slot within. elim (cases_Bool (is_outside shape block slot)) [
        | inl out ↦ inl (item_out shape some image block contents blank fits slot (outside_it shape block slot out))
        | inr here ↦ (
            let bounds = inside_block shape.pages_per_block block slot some (in_it shape block slot here) in
            let holds : slot_at left slot ≡ contents =
            item_in shape some image block contents blank fits slot bounds.0 bounds.1 in
            inr (here, ⊎_elim (λ e. inl (holds ∙ e)) (λ e. inr (holds ∙ e)) is))
      ];
    }

pub erase_is_torn : EraseIsTorn
erase_is_torn shape image block whole below = (
  emptied shape image block whole below blank (inl refl),
  emptied shape image block whole below damaged (inr refl),
)

pub between_is_torn : BetweenIsTorn
between_is_torn shape block old new left long torn between = record {
  slots = long;
  each = λ slot within. elim (between slot within) [
    | inl same ↦ inl same
    | inr as_new ↦ elim (torn.each slot within) [
      | inl same ↦ inl (as_new ∙ same)
      | inr gone ↦ inr (gone.0, ⊎_elim (λ e. inl (as_new ∙ e)) (λ e. inr (as_new ∙ e)) gone.1)
    ]
  ];
}
