-- What is known of the image while programs are done that wait: since when, and which block they spare.
use Rattle.lost_writes.proofs.Common.{◌≡◌, ℕ, ◌<◌, ◌⊎◌, Bool, true, false, not, List, Contains, refl, sym, ap, ◌∙◌, subst, inl, inr, cases_Bool, and_from, both_ways, all_from, from_filter, in_filter, in_map, Contents, slot_at, records_in, written_in, array_in, left, SameCurrent, PartialWriteLaw, is_held, name_of, is_present, found_of, is_outside, blocks_of, Found, Protocol, Shape, Link, Rec, KeepsCounted, IsCurrent, [], ◌∷◌, ◌++◌, All-cons, All-head, All-tail, All}
use Rattle.tx_types.specs.Config.{IsShape}
use Rattle.std.proofs.lemmas.List.Elements.{All-nil, All-append}
use Rattle.flash_model.specs.Moves.{Does, Moves}
use Rattle.flash_model.specs.Operations.{Operation, program, erase, fire, Moment}
use Rattle.flash_model.proofs.MoveLemmas.{Does-append, Moves-nothing, Moves-then}
use Rattle.page_record.specs.Spelling.{spelling}
use Rattle.record_list.proofs.OfChanges.OneMore.{inserted_in}
use Rattle.record_list.proofs.OfChanges.WrittenChange.{written_partial_write}
use Rattle.record_list.proofs.OfFacts.Names.{cases_present, found_named, present_as}
use Rattle.judged_records.specs.Images.{IsSoundImage}
use Rattle.judged_records.specs.ImageChanges.{image_with, KeepsPartial}
use Rattle.judged_records.proofs.OfLaws.ImageLaws.{Writes, writes, image_partial_law}
use Rattle.judged_records.proofs.OfLaws.ImageScans.{IsRead, is_read, written}
use Rattle.array_machine.specs.ArrayState.{Entry}
use Rattle.array_machine.specs.Step.{IsAtLast}
use Rattle.collector.specs.Collecting.{is_blank_slot}
use Rattle.collector.specs.SinceErase.{IsProgram, EndsInErase, StaysSound, WorksSinceErase}
use Rattle.tx_engine.specs.LastWrite.{IsBlankIn, LeavesBlock, WritesLast}
use Rattle.lost_writes.specs.Fired.{AreOutside}
use Rattle.lost_writes.specs.Room.{is_blank_in}
use Rattle.lost_writes.specs.UnderOneFlush.{IsNoErase}
use Rattle.lost_writes.specs.Waiting.{IsSinceFlush, is_spared}
use Rattle.lost_writes.proofs.Room.{KeepsFull, blank_is, full_set, programs_full}

-- a slot with a record is not blank
full_slot : (p : Protocol) (image : List Contents) (g : Found) → Contains (records_in p image) g →
    is_blank_in image g.slot.0 ≡ false
full_slot p image g i =
    let w = in_map found_of (written_in p image) g i in
    let r : IsRead p image w.0 = is_read p image w.0 w.1 in
    let slot : w.0.slot.0 ≡ g.slot.0 = ap (λ (x : Found). x.slot.0) w.2 in
    ap (is_blank_in image) (sym slot) ∙ ap is_blank_slot r.reads.is

module _ (p : Protocol) (logical : ℕ) (shape : Shape) where
  -- since nothing waited, programs were done that complete no transaction
  pub record IsResting (base image : List Contents) : Type 0 where
    pub sound_base : IsSoundImage p logical shape base
    pub sound : IsSoundImage p logical shape image
    pub array : array_in p logical image ≡ array_in p logical base
    pub since : IsSinceFlush p logical (is_blank_in base) base image

  rests_itself : (a : List Contents) → IsSoundImage p logical shape a → IsResting a a
  rests_itself a sound = record {
    sound_base = sound;
    sound = sound;
    array = refl;
    since = record {
      slots = refl;
      stays = λ slot off. refl;
      was_blank = λ slot on. blank_is (slot_at a slot) on;
      versions = λ page low. refl;
      held = λ r low h. inl h;
    };
  }

  pub rests_then : (base mid image : List Contents) → IsResting base mid → IsSoundImage p logical shape image →
      KeepsFull mid image → array_in p logical image ≡ array_in p logical mid →
      SameCurrent p (records_in p mid) (records_in p image) logical →
      ((r : Rec) → is_held p (records_in p image) logical r ≡ true → is_held p (records_in p mid) logical r ≡ true) →
      IsResting base image
  rests_then base mid image rests sound full array versions held = record {
    sound_base = rests.sound_base;
    sound = sound;
    array = array ∙ rests.array;
    since = record {
      slots = full.slots ∙ rests.since.slots;
      stays = λ slot off.
          let first = rests.since.stays slot off in
          full.stays slot (ap is_blank_slot first ∙ off) ∙ first;
      was_blank = rests.since.was_blank;
      versions = λ page low. versions page low ∙ rests.since.versions page low;
      held = λ r low h. rests.since.held r low (held r h);
    };
  }

  pub rests_stays : (base mid image : List Contents) → IsResting base mid → KeepsFull mid image →
      StaysSound p logical shape mid image → IsResting base image
  rests_stays base mid image rests full stays =
      rests_then base mid image rests stays.sound full stays.keeps.array stays.keeps.versions stays.keeps.held

  -- Outside a block each record that counted then has a slot. Where a record lies in it, none of its name waits.
  pub record IsSparing (base image : List Contents) (block : ℕ) : Type 0 where
    pub exists : block < blocks_of shape
    pub removable : KeepsCounted p (records_in p base) logical (is_outside shape block)
    pub twins : (g h : Found) → Contains (records_in p image) g → Contains (records_in p image) h →
        name_of h.rec ≡ name_of g.rec → is_outside shape block g.slot.0 ≡ false → is_blank_in base h.slot.0 ≡ false

  -- a block that is all blank
  sparing_blank : (base image : List Contents) (block : ℕ) → IsResting base image → block < blocks_of shape →
      IsBlankIn shape image block → IsSparing base image block
  sparing_blank base image block rests exists all_blank = record {
    exists = exists;
    removable = all_from (λ f. IsCurrent p (records_in p base) logical f.rec
        ⊎ (is_held p (records_in p base) logical f.rec ≡ true) →
        is_present (left (is_outside shape block) (records_in p base)) (name_of f.rec) ≡ true) (records_in p base)
        (λ f i counts.
        present_as (left (is_outside shape block) (records_in p base)) f (name_of f.rec)
        (in_filter (λ (x : Found). is_outside shape block x.slot.0) f (records_in p base) i (lies f i)) refl);
    twins = λ g h i j same off. absurd (both_ways (is_blank_in image g.slot.0) (full_slot p image g i)
        (ap is_blank_slot (all_blank g.slot.0 off)));
  }
    where
      lies : (f : Found) → Contains (records_in p base) f → is_outside shape block f.slot.0 ≡ true
      lies f i = elim (cases_Bool (is_outside shape block f.slot.0)) [
        | inl here ↦ here
        | inr off ↦ (
            let full = full_slot p base f i in
            absurd (both_ways (is_blank_in image f.slot.0) (ap is_blank_slot (rests.since.stays f.slot.0 full) ∙ full)
            (ap is_blank_slot (all_blank f.slot.0 off))))
      ]

  -- nothing waits yet
  sparing_first : (image : List Contents) (names : List Link) (at block : ℕ) →
      LeavesBlock p logical shape image names at block → IsSparing image image block
  sparing_first image names at block leaves = record {
    exists = leaves.exists;
    removable = leaves.removable;
    twins = λ g h i j same off. full_slot p image h j;
  }

  -- so each name of a transaction has a slot there that does not wait, or lies outside
  pub outside_of : (base image : List Contents) (names : List Link) (at block : ℕ) → IsSparing base image block →
      LeavesBlock p logical shape image names at block → AreOutside p shape block (is_blank_in base) image names
  outside_of base image names at block spares leaves =
      let l = records_in p image in
      let out : ℕ → Bool = is_outside shape block in
      let waits : ℕ → Bool = is_blank_in base in
      all_from (λ g. Contains names (name_of g.rec) → (is_outside shape block g.slot.0 ≡ true)
      ⊎ (is_present (left (is_spared (is_blank_in base) shape block) (records_in p image)) (name_of g.rec) ≡ true))
      (records_in p image) (λ g i own.
      elim (cases_Bool (out g.slot.0)) [
        | inl here ↦ inl here
        | inr off ↦ inr (
            let there = leaves.outside (name_of g.rec) own (present_as l g (name_of g.rec) i refl) in
            let h = found_named (left out l) (name_of g.rec) there in
            let parts = from_filter (λ (x : Found). out x.slot.0) h.0 l h.1 in
            let durable = spares.twins g h.0 i parts.0 h.2 off in
            present_as (left (is_spared waits shape block) l) h.0 (name_of g.rec)
            (in_filter (λ (x : Found). is_spared waits shape block x.slot.0) h.0 l parts.0
            (and_from (not (waits h.0.slot.0)) (out h.0.slot.0) (ap not durable) parts.1)) h.2)
      ])

  -- ---- from the begin of a command on

  -- from one moment to another nothing is erased
  pub record IsAlone (base now : Moment) : Type 0 where
    pub programs : List Operation
    pub alone : All IsNoErase programs
    pub does : Does shape base programs now

  alone_nothing : (m : Moment) → IsAlone m m
  alone_nothing m = record { programs = []; alone = All-nil IsNoErase; does = refl }

  pub alone_then : (a b c : Moment) → IsAlone a b → IsAlone b c → IsAlone a c
  alone_then a b c first second = record {
    programs = first.programs ++ second.programs;
    alone = All-append IsNoErase first.programs second.programs first.alone second.alone;
    does = Does-append shape a b c first.programs second.programs first.does second.does;
  }

  -- a program erases nothing
  alone_programs : (list : List Operation) → All IsProgram list → All IsNoErase list
  alone_programs [] all_programs = All-nil IsNoErase
  alone_programs (program at bytes spare_area ∷ rest) all_programs =
      All-cons IsNoErase (program at bytes spare_area) rest tt
      (alone_programs rest (All-tail IsProgram (program at bytes spare_area) rest all_programs))
  alone_programs (erase block ∷ rest) all_programs = absurd (All-head IsProgram (erase block) rest all_programs)
  alone_programs (fire loads ∷ rest) all_programs = absurd (All-head IsProgram (fire loads) rest all_programs)

  -- what is known at a moment of a command: since when programs are done that wait, and the block that they spare
  pub record IsCarried (start now : Moment) (spare : ℕ) : Type 0 where
    pub moves : Moves shape start false now
    pub base : Moment
    pub durable : EndsInErase shape start base
    pub alone : IsAlone base now
    pub array : array_in p logical base.image ≡ array_in p logical start.image
    pub rests : IsResting base.image now.image
    pub spares : (now.image ≡ base.image) ⊎ IsSparing base.image now.image spare

  pub carried_start : (start : Moment) (spare : ℕ) → IsSoundImage p logical shape start.image →
      IsCarried start start spare
  carried_start start spare sound = record {
    moves = Moves-nothing shape start false;
    base = start;
    durable = inl refl;
    alone = alone_nothing start;
    array = refl;
    rests = rests_itself start.image sound;
    spares = inl refl;
  }

  -- and before the program that a step ends in
  pub record IsReady (start before : Moment) (spare : ℕ) : Type 0 where
    pub base : Moment
    pub durable : EndsInErase shape start base
    pub alone : IsAlone base before
    pub array : array_in p logical base.image ≡ array_in p logical start.image
    pub rests : IsResting base.image before.image
    pub spares : IsSparing base.image before.image spare

  module _ (bounds : IsShape shape) (start old new : Moment) (broken : Bool)
      (works : WorksSinceErase p logical shape old broken new) where
    abbrev base : List Contents
    base = works.base.image

    abbrev between : List Contents
    between = works.between.image

    full : KeepsFull base between
    full = programs_full shape bounds works.programs works.base works.between works.alone works.does

    its_alone : IsAlone works.base works.between
    its_alone = record {
      programs = works.programs;
      alone = alone_programs works.programs works.alone;
      does = works.does;
    }

    -- what a call did that completes no transaction, up to what was torn
    pub record IsWorking : Type 0 where
      pub since : Moment
      pub durable : EndsInErase shape start since
      pub alone : IsAlone since works.between
      pub array : array_in p logical since.image ≡ array_in p logical start.image
      pub rests : IsResting since.image between

    pub works_on : (spare : ℕ) → IsCarried start old spare → IsWorking
    works_on spare c = elim works.durable [
      | inl same ↦ record {
        since = c.base;
        durable = c.durable;
        alone = alone_then c.base old works.between c.alone
            (subst (λ (m : Moment). IsAlone m works.between) same its_alone);
        array = c.array;
        rests = rests_stays c.base.image base between
            (subst (λ (m : Moment). IsResting c.base.image m.image) (sym same) c.rests) full works.stays;
      }
      | inr erased ↦ record {
        since = works.base;
        durable = inr (
          erased.0,
          Moves-then shape start old erased.0 false c.moves erased.1,
          erased.2,
          erased.3,
          erased.4,
        );
        alone = its_alone;
        array = works.before.keeps.array ∙ c.rests.array ∙ c.array;
        rests = rests_stays base base between (rests_itself base works.before.sound) full works.stays;
      }
    ]

  module _ (bounds : IsShape shape) (start old : Moment) (old_spare : ℕ) (e : Entry) (names : List Link)
      (broken : Bool) (new : Moment) (new_spare : ℕ)
      (w : WritesLast p logical shape old old_spare e names broken new new_spare)
      (c : IsCarried start old old_spare) where
    abbrev before : List Contents
    before = w.before.image

    -- nothing was done before the program
    at_once : (w.before ≡ old) → new_spare ≡ old_spare → IsReady start w.before new_spare
    at_once none same = record {
      base = c.base;
      durable = c.durable;
      alone = subst (IsAlone c.base) (sym none) c.alone;
      array = c.array;
      rests = subst (λ (m : Moment). IsResting c.base.image m.image) (sym none) c.rests;
      spares = elim c.spares [
        | inl first ↦ subst (λ b. IsSparing b before new_spare) (ap (λ (m : Moment). m.image) none ∙ first)
            (sparing_first before names w.at new_spare w.leaves)
        | inr spares ↦ subst (IsSparing c.base.image before) (sym same)
            (subst (λ (m : Moment). IsSparing c.base.image m.image old_spare) (sym none) spares)
      ];
    }

    pub ready_last : IsReady start w.before new_spare
    ready_last = elim w.room [
      | inl none ↦ at_once none.0 none.2
      | inr all_blank ↦ (
          let on : IsWorking bounds start old w.before false w.works =
          works_on bounds start old w.before false w.works old_spare c in
          let rests : IsResting on.since.image before =
          subst (λ (m : Moment). IsResting on.since.image m.image) (sym w.works.ends) on.rests in
          record {
            base = on.since;
            durable = on.durable;
            alone = subst (IsAlone on.since) (sym w.works.ends) on.alone;
            array = on.array;
            rests = rests;
            spares = sparing_blank on.since.image before new_spare rests w.leaves.exists all_blank;
          })
    ]

  -- ---- the program was done, and leaves the transaction open

  module _ (partial : PartialWriteLaw p) (bounds : IsShape shape) (start old : Moment) (old_spare : ℕ) (e : Entry)
      (names : List Link) (new : Moment) (new_spare : ℕ)
      (w : WritesLast p logical shape old old_spare e names false new new_spare)
      (c : IsCarried start old old_spare) (moves : Moves shape old false new) (open' : IsAtLast e → ⊥) where
    abbrev prior : List Contents
    prior = w.before.image

    abbrev after : List Contents
    after = image_with p prior w.at w.bytes w.rec

    how : Writes p logical prior names w.at w.bytes w.rec
    how = writes p logical shape prior names w.at w.bytes w.rec w.next.asks

    keeps : KeepsPartial p logical shape prior after names w.rec w.bytes
    keeps = elim (cases_present (records_in p after) names) [
      | inl some ↦ image_partial_law p (written_partial_write p partial) logical shape prior names w.at w.bytes w.rec
          w.next.asks some
      | inr all ↦ absurd (open' (w.next.last all))
    ]

    new_or_old : (g : Found) → Contains (records_in p after) g →
        (found_of (written w.at w.rec w.bytes) ≡ g) ⊎ Contains (records_in p prior) g
    new_or_old g i = inserted_in (records_in p prior) (records_in p after) (found_of (written w.at w.rec w.bytes))
        how.write.added g i

    ready : IsReady start w.before new_spare
    ready = ready_last bounds start old old_spare e names false new new_spare w c

    twins : (g h : Found) → Contains (records_in p after) g → Contains (records_in p after) h →
        name_of h.rec ≡ name_of g.rec → is_outside shape new_spare g.slot.0 ≡ false →
        is_blank_in ready.base.image h.slot.0 ≡ false
    twins g h i j same off = elim (new_or_old g i) [
      | inl own ↦ absurd (both_ways (is_outside shape new_spare g.slot.0) off
          (subst (λ (x : Found). is_outside shape new_spare x.slot.0 ≡ true) own w.leaves.slot))
      | inr was ↦ elim (new_or_old h j) [
        | inl own ↦ absurd (both_ways (is_present (records_in p prior) (name_of w.rec)) w.next.asks.fresh
            (present_as (records_in p prior) g (name_of w.rec) was
            (sym same ∙ ap (λ (x : Found). name_of x.rec) (sym own))))
        | inr there ↦ ready.spares.twins g h was there same off
      ]
    ]

    is_after : new.image ≡ after
    is_after = ap (λ (m : Moment). m.image) w.ends

    pub carried_on : IsCarried start new new_spare
    carried_on = record {
      moves = Moves-then shape start old new false c.moves moves;
      base = ready.base;
      durable = ready.durable;
      alone = alone_then ready.base w.before new ready.alone (record {
        programs = program w.at w.bytes (spelling p w.rec) ∷ [];
        alone = All-cons IsNoErase (program w.at w.bytes (spelling p w.rec)) [] tt (All-nil IsNoErase);
        does = (w.can, w.ends);
      });
      array = ready.array;
      rests = subst (IsResting ready.base.image) (sym is_after)
          (rests_then ready.base.image prior after ready.rests keeps.sound
          (full_set prior w.at _ w.next.asks.blank) keeps.array keeps.records.same_current
          (λ r h. sym (keeps.records.same_held r) ∙ h));
      spares = inr (subst (λ i. IsSparing ready.base.image i new_spare) (sym is_after) (record {
        exists = ready.spares.exists;
        removable = ready.spares.removable;
        twins = twins;
      }));
    }

  -- nothing was done
  pub carried_still : (start old new : Moment) (old_spare new_spare : ℕ) → IsCarried start old old_spare →
      new ≡ old → new_spare ≡ old_spare → IsCarried start new new_spare
  carried_still start old new old_spare new_spare c moment spare =
      subst (IsCarried start new) (sym spare) (subst (λ (m : Moment). IsCarried start m old_spare) (sym moment) c)
