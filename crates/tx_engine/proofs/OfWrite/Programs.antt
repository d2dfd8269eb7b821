-- A record that a transaction asks for is programmed in a free slot: what is left where the program is done, and where
-- it is broken.
use Rattle.tx_engine.proofs.Common.{◌≡◌, ◌≢◌, ℕ, ◌+◌, ◌*◌, ◌/◌, ◌<◌, ◌≤◌, Bool, true, eq-eqb, List, length, set, refl, sym, ap, ◌∙◌, subst, inl, inr, arith, Contains, get_or-set_same, get_or-set_other, All-contains, all_from, shape_of, slots_of, blocks_of, Protocol, Shape, Slot, Link, Rec, Outcome, FlashState, Contents, IsImage, blank, damaged, complete, slot_at, program, image_left, CanBeSpelled, spelling, Found, name_of, is_present, is_outside, text_at, InProgress, found_named, IsSoundImage, written_in, records_in, TextsStay, ImagePartialLaw, ImageCompletingLaw, found_in, IndexState, written, BlocksState, IsBlocksState, IsFree, Matches, CanTakeOwn}
use Rattle.std.proofs.Common.{◌%◌}
use Rattle.std.proofs.Math.Nat.{mod-add-div', div-eq_of_lt-le}
use Rattle.list_lemmas.proofs.Membership.{in_filter, from_filter}
use Rattle.flash_model.specs.declared.outcome.Outcome.TheVariants as outcome
use Rattle.flash_model.specs.Operations.{CanProgram, block_end}
use Rattle.flash_model.proofs.ImageLemmas.{block_within}
use Rattle.page_record.proofs.Spellings.{record_of-spelling}
use Rattle.record_list.specs.Changes.{IsInserted, left}
use Rattle.record_list.specs.Written.{found_of}
use Rattle.record_list.specs.WrittenChanges.{HasRoomAround}
use Rattle.record_list.specs.Transaction.{IsAsked}
use Rattle.record_list.specs.Changes.{NothingMustGo}
use Rattle.record_list.proofs.OfFacts.Names.{present_as}
use Rattle.record_list.proofs.OfChanges.OneMore.{inserted_in, in_inserted, new_in}
use Rattle.record_list.proofs.OfChanges.WrittenLists.{inserted_records}
use Rattle.judged_records.specs.ImageChanges.{image_with, AsksFor, TextsCome}
use Rattle.judged_records.specs.Notes.{note_of}
use Rattle.judged_records.proofs.OfLaws.ImageLaws.{image_damage_law}
use Rattle.judged_records.proofs.OfLaws.ImageScans.{written_inserted}
use Rattle.die_alloc.specs.BlocksState.{HasRoom, used_of}
use Rattle.die_alloc.proofs.Changes.{block_within as block_in}
use Rattle.collector.specs.declared.unsure.Unsure.TheVariants as unsure
use Rattle.collector.specs.Matches.{IsProgramming, SpellsRecord}
use Rattle.collector.proofs.OfNotes.Calm.{same_records, image_can_lose}
use Rattle.collector.proofs.OfSettle.OwnExits.{free_out}
use Rattle.collector.proofs.OfSettle.Programming.{all, missing, are_there}
use Rattle.collector.proofs.OfCopies.CopyExits.{blank_noted}

-- the slots of a block after a free one are free
later_free : (t : BlocksState) → IsBlocksState t → (at : ℕ) → IsFree t at → (k : ℕ) → at ≤ k →
    k < block_end t.shape at → IsFree t k
later_free t h at free k low high =
    let per = t.shape.pages_per_block in
    let fits = block_within t.shape (at / per) (block_in t h at free.within) in
    let whole = mod-add-div' at per in
    let same : k / per ≡ at / per = div-eq_of_lt-le per (omega (arith, whole, low)) high in
    let whole_k = mod-add-div' k per in
    let more : k % per + at / per * per ≡ k = subst (λ q. k % per + q * per ≡ k) same whole_k in
    let rest : at % per ≤ k % per = omega (arith, whole, more, low) in
    record {
      within = omega (arith, fits, high);
      room = subst (HasRoom t) (sym same) free.room;
      unused = (let u = free.unused in subst (λ b. used_of t b ≤ k % per) (sym same) (omega (arith, u, rest)));
    }

-- a free slot may be programmed
pub free_program : (s : FlashState) (n : IndexState) (t : BlocksState) → Matches s n t unsure.Nothing → (at : ℕ) →
    IsFree t at → CanProgram s.shape s.image at
free_program s n t m at free = record {
  in_range = (let w = free.within in omega (arith, w, ap slots_of m.blocks));
  blank_on = λ k low high.
      let f = later_free t m.table at free k low (subst (λ (sh : Shape). k < block_end sh at) (sym m.blocks) high) in
      let within : k < slots_of s.shape = (let w = f.within in omega (arith, w, ap slots_of m.blocks)) in
      blank_noted n.config.protocol (slot_at s.image k) (sym (m.sure k within refl) ∙ m.free k f);
}

module _ (s : FlashState) (n : IndexState) (t : BlocksState) (m : Matches s n t unsure.Nothing) (at : Slot) (rec : Rec)
    (free : IsFree t at.0)
    (take : CanTakeOwn n t rec) (spelled : CanBeSpelled n.config.protocol rec) (bytes : List ℕ) where
  abbrev p : Protocol
  p = n.config.protocol

  abbrev image' : List Contents
  image' = image_with p s.image at.0 bytes rec

  abbrev old : List Found
  old = records_in p s.image

  abbrev new : List Found
  new = records_in p image'

  abbrev names : List Link
  names = take.next.names

  within : at.0 < length s.image
  within = (let w = free.within in omega (arith, w, ap slots_of m.blocks, m.flash.slots))

  blank_slot : slot_at s.image at.0 ≡ blank
  blank_slot = blank_noted p (slot_at s.image at.0)
      (sym (m.sure at.0 (let w = free.within in omega (arith, w, ap slots_of m.blocks)) refl) ∙ m.free at.0 free)

  same : found_in n.notes ≡ old
  same = same_records s n t m

  pub asks : AsksFor p n.config.logical s.shape s.image names at.0 rec
  asks = record {
    sound = m.sound;
    within = within;
    blank = blank_slot;
    spelled = spelled;
    in_progress = subst (λ l. InProgress p l n.config.logical names) same take.next.in_progress;
    named = take.next.named;
    fresh = ap (λ l. is_present l (name_of rec)) (sym same) ∙ take.next.fresh;
    asked = subst (λ l. IsAsked p l n.config.logical names rec) same take.next.asked;
    clear = subst (λ l. NothingMustGo p l n.config.logical rec) same take.next.clear;
  }

  pub added : IsInserted old (found_of (written at.0 rec bytes)) new
  added =
      inserted_records (written_in p s.image) (written_in p image') (written at.0 rec bytes)
      (written_inserted p s.image at.0 bytes (spelling p rec) rec within blank_slot (record_of-spelling p rec spelled))

  abbrev keep : ℕ → Bool
  keep = is_outside s.shape t.spare

  -- each name that is there has a slot outside the spare
  name_outside : (name : Link) → Contains names name → is_present new name ≡ true →
      is_present (left keep new) name ≡ true
  name_outside name i here =
      let f = found_named new name here in
      elim (inserted_in old new (found_of (written at.0 rec bytes)) added f.0 f.1) [
        | inl is ↦
            (let out : keep at.0 ≡ true = subst (λ (sh : Shape). is_outside sh t.spare at.0 ≡ true) (sym m.shape)
            (free_out s n t unsure.Nothing m at.0 free) in
            present_as (left keep new) (found_of (written at.0 rec bytes)) name
            (in_filter (λ f. keep f.slot.0) (found_of (written at.0 rec bytes)) new
            (new_in old new (found_of (written at.0 rec bytes)) added) out)
            (ap (λ (g : Found). name_of g.rec) is ∙ f.2))
        | inr j ↦
            (let was : is_present (found_in n.notes) name ≡ true = ap (λ l. is_present l name) same
            ∙ present_as old f.0 name j f.2 in
            let outside = All-contains (λ name. is_present (found_in n.notes) name ≡ true →
            is_present (left (is_outside (shape_of n.config) t.spare) (found_in n.notes)) name ≡ true) names name
            take.outside i was in
            let outside' : is_present (left keep old) name ≡ true =
            subst (λ l. is_present (left keep l) name ≡ true) same
            (subst (λ (sh : Shape). is_present (left (is_outside sh t.spare) (found_in n.notes)) name ≡ true)
            (sym m.shape) outside) in
            let g = found_named (left keep old) name outside' in
            let parts = from_filter (λ f. keep f.slot.0) g.0 old g.1 in
            present_as (left keep new) g.0 name
            (in_filter (λ f. keep f.slot.0) g.0 new (in_inserted old new (found_of (written at.0 rec bytes)) added g.0
            parts.0) parts.1) g.2)
      ]

  room : ((name : Link) → Contains names name → is_present new name ≡ true) →
      HasRoomAround p old new n.config.logical s.shape names
  room each = record {
    block = t.spare;
    exists = (let w = m.table.spare_within in omega (arith, w, ap blocks_of m.blocks));
    removable = image_can_lose s n t m t.spare m.spared;
    outside = all_from (λ name. is_present (left keep new) name ≡ true) names
        (λ name i. name_outside name i (each name i));
  }

  pub record IsWritten : Type 0 where
    pub sound : IsSoundImage p n.config.logical s.shape image'
    pub stay : TextsStay p s.image image'
    pub come : TextsCome p image' rec bytes

  -- the image with the record is sound, and keeps the text of each name
  pub is_written : ImagePartialLaw p → ImageCompletingLaw p → IsWritten
  is_written partial completing = elim (are_there new names) [
    | all each ↦
        (let kept = completing n.config.logical s.shape s.image names at.0 bytes rec asks
        (all_from (λ name. is_present new name ≡ true) names each)
        (room each) in
        record { sound = kept.sound; stay = kept.old_texts; come = kept.new_text })
    | missing name i absent ↦
        (let kept = partial n.config.logical s.shape s.image names at.0 bytes rec asks (i.0, name, i.1, i.2, absent) in
        record { sound = kept.sound; stay = kept.old_texts; come = kept.new_text })
  ]

  -- what is left of the image where the program was asked for
  pub record IsLeft (left_image : List Contents) : Type 0 where
    pub sound : IsSoundImage p n.config.logical s.shape left_image
    pub place : IsProgramming left_image at.0 (SpellsRecord n rec)
    pub slot : (its spare : List ℕ) → slot_at left_image at.0 ≡ complete its spare → its ≡ bytes
    pub stay : TextsStay p s.image left_image
    pub others : (k : ℕ) → k ≢ at.0 → slot_at left_image k ≡ slot_at s.image k

  same_bytes : (its spare its' spare' : List ℕ) → complete its spare ≡ complete its' spare' → its' ≡ its
  same_bytes its spare its' spare' e = sym (ap page e)
    where
      page : Contents → List ℕ
      page blank = its
      page damaged = its
      page (complete b x) = b

  pub is_left : ImagePartialLaw p → ImageCompletingLaw p → (how : Outcome) →
      IsLeft (image_left s.shape s.image (program at.0 bytes (spelling p rec)) how)
  is_left partial completing outcome.None = record {
    sound = m.sound;
    place = inl blank_slot;
    slot = λ its spare e. (let no : blank ≡ complete its spare = sym blank_slot ∙ e in cc);
    stay = λ name h. refl;
    others = λ k other. refl;
  }
  is_left partial completing outcome.All =
      let w = is_written partial completing in
      let here : slot_at image' at.0 ≡ complete bytes (spelling p rec) =
      get_or-set_same s.image at.0 (complete bytes (spelling p rec)) blank within in
      record {
        sound = w.sound;
        place = inr (inr (bytes, here));
        slot = λ its spare e. same_bytes bytes (spelling p rec) its spare (sym here ∙ e);
        stay = w.stay;
        others = λ k other. get_or-set_other s.image at.0 k (complete bytes (spelling p rec)) blank other;
      }
  is_left partial completing outcome.Bad =
      let kept = image_damage_law p n.config.logical s.shape s.image at.0 m.sound within blank_slot in
      let here : slot_at (set s.image at.0 damaged) at.0 ≡ damaged =
      get_or-set_same s.image at.0 damaged blank within in
      record {
        sound = kept.sound;
        place = inr (inl here);
        slot = λ its spare e. (let no : damaged ≡ complete its spare = sym here ∙ e in cc);
        stay = λ name h. ap (λ l. text_at l name) kept.written;
        others = λ k other. get_or-set_other s.image at.0 k damaged blank other;
      }

  -- then the slot is unsure
  pub left_unsure : (s' : FlashState) → s'.shape ≡ s.shape → IsImage s.shape s'.image → IsLeft s'.image →
      Matches s' n t (unsure.Own at rec)
  left_unsure s' shape whole l = record {
    shape = shape ∙ m.shape;
    flash = subst (λ sh. IsImage sh s'.image) (sym shape) whole;
    sound = subst (λ sh. IsSoundImage p n.config.logical sh s'.image) (sym shape) l.sound;
    noted = m.noted;
    counts = m.counts;
    table = m.table;
    blocks = m.blocks ∙ sym shape;
    spare = m.spare;
    sure = λ slot low sure.
        m.sure slot (omega (arith, low, ap slots_of shape)) refl
        ∙ ap (note_of p) (sym (l.others slot (λ e. let yes = eq-eqb slot at.0 e in cc)));
    place = (free, m.free at.0 free, spelled, l.place);
    spared = m.spared;
    victim = tt;
    free = m.free;
    shut = m.shut;
  }
