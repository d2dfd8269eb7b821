-- What a loss leaves of a command whose programs wait: of its end, by what is known of the image before.
use Rattle.lost_writes.proofs.Common.{◌≡◌, ℕ, Bool, true, false, List, [], ◌∷◌, map, set, All-cons, Contains, refl, sym, ap, ◌∙◌, subst, inl, inr, arith, Contents, damaged, array_in, LossLaw, PartialWriteLaw, CompletingWriteLaw, cur, is_held, records_of, Protocol, Shape, Link}
use Rattle.std.proofs.Common.{◌==◌, ◌||◌}
use Rattle.std.proofs.lemmas.List.Elements.{All-nil}
use Rattle.std.specs.List.{list_any}
use Rattle.tx_types.specs.Batch.{PageWrite}
use Rattle.tx_types.specs.Config.{IsShape}
use Rattle.flash_model.specs.declared.outcome.Outcome.{Outcome}
use Rattle.flash_model.specs.declared.outcome.Outcome.TheVariants as outcome
use Rattle.flash_model.specs.Operations.{program, Moment, image_left}
use Rattle.page_record.specs.Spelling.{spelling}
use Rattle.judged_records.specs.ImageChanges.{KeepsLost, KeepsDamaged}
use Rattle.judged_records.proofs.OfLaws.ImageLaws.{image_damage_law}
use Rattle.judged_records.proofs.OfLaws.SlotLosses.{image_slot_loss}
use Rattle.record_list.proofs.OfChanges.SlotLosses.{written_slot_loss}
use Rattle.array_machine.specs.ArrayState.{ArrayState, Entry}
use Rattle.array_machine.specs.Step.{settled, IsAtLast}
use Rattle.array_runs.specs.Run.{TakesOf, MayComplete}
use Rattle.array_runs.proofs.Each.{takes_none}
use Rattle.host_protocol.specs.declared.command.Command.{Command}
use Rattle.collector.specs.SinceErase.{EndsTorn, WorksSinceErase}
use Rattle.tx_engine.specs.LastWrite.{EndsProgram, WritesLast}
use Rattle.lost_writes.specs.AfterLoss.{AfterLoss, AreSome, IsArrayOf, IsWriting, MayStart}
use Rattle.lost_writes.specs.Fired.{Fired, with_record, waits_too, IsFired}
use Rattle.lost_writes.specs.Room.{is_blank_in}
use Rattle.lost_writes.specs.UnderOneFlush.{IsCutByLoss, EndsAlone, IsNoErase, LeavesAsCut, LeftIsCut, MayLeave}
use Rattle.lost_writes.specs.Waiting.{IsLeftOf}
use Rattle.lost_writes.proofs.Carried.{IsAlone, IsCarried, IsReady, IsResting, IsWorking, alone_then, works_on, ready_last, rests_then, rests_stays, outside_of}
use Rattle.lost_writes.proofs.Commands.{loss_is_cut, writing_loss}
use Rattle.lost_writes.proofs.Room.{IsKept, kept_since, full_set, torn_full}
use Rattle.lost_writes.proofs.Slots.{torn_erase}
use Rattle.lost_writes.proofs.Spared.{spared_since_flush}

-- more slots may wait
waits_more : (waits : ℕ → Bool) (fs : List Fired) (image left : List Contents) → IsLeftOf waits image left →
    IsLeftOf (waits_too waits fs) image left
waits_more waits fs image left lost = record {
  slots = lost.slots;
  each = λ slot within. elim (lost.each slot within) [
    | inl same ↦ inl same
    | inr gone ↦ inr (ap (λ b. b || list_any (λ (f : Fired). f.at == slot) fs) gone.0, gone.1)
  ];
}

module _ (p : Protocol) (loss : LossLaw p) (partial : PartialWriteLaw p) (completing : CompletingWriteLaw p)
    (logical : ℕ) (shape : Shape) (bounds : IsShape shape) (c : Command) (s : ArrayState) (start : Moment)
    (array : IsArrayOf p logical s start.image) where
  abbrev Loses : List Contents → Type 0
  Loses left = AfterLoss p logical shape c s left

  -- the array is that of the begin
  after_kept : (base left : List Contents) → array_in p logical base ≡ array_in p logical start.image →
      IsKept p loss logical shape base left → Loses left
  after_kept base left same kept =
      let there = array.0 in
      record {
        sound = kept.sound;
        cut = (
          there,
          subst (TakesOf c (MayComplete c) s.entries (settled there s).pages) (sym (kept.array ∙ same ∙ array.1))
              (takes_none c (MayComplete c) s.entries (settled there s).pages),
          refl,
        );
      }

  -- of an image since which nothing waited
  after_rest : (base image left : List Contents) → array_in p logical base ≡ array_in p logical start.image →
      IsResting p logical shape base image → IsLeftOf (is_blank_in base) image left → Loses left
  after_rest base image left same rests lost =
      after_kept base left same
      (kept_since p loss logical shape base image left rests.sound_base rests.sound rests.array rests.since lost)

  -- ---- a call that completes no transaction

  module _ (old new : Moment) (spare : ℕ) (carried : IsCarried p logical shape start old spare) (broken : Bool)
      (works : WorksSinceErase p logical shape old broken new) where
    on : IsWorking p logical shape bounds start old new broken works
    on = works_on p logical shape bounds start old new broken works spare carried

    at_between : new ≡ works.between → IsCutByLoss p logical shape c s start new
    at_between same = record {
      base = on.since;
      durable = on.durable;
      array = on.array;
      programs = on.alone.programs;
      alone = on.alone.alone;
      between = works.between;
      does = on.alone.does;
      left = inl (
        inl same,
        λ left lost. after_rest on.since.image works.between.image left on.array on.rests
            (subst (λ (m : Moment). IsLeftOf (is_blank_in on.since.image) m.image left) same lost),
      );
    }

    by_end : (b : Bool) → EndsTorn p logical shape works.between b new → IsCutByLoss p logical shape c s start new
    by_end false same = at_between same
    by_end true (inl same) = at_between same
    by_end true (inr (inl torn)) = record {
      base = on.since;
      durable = on.durable;
      array = on.array;
      programs = on.alone.programs;
      alone = on.alone.alone;
      between = works.between;
      does = on.alone.does;
      left = inl (
        inr (program torn.at torn.bytes torn.spare_area, tt, torn.breaks),
        λ left lost. after_rest on.since.image new.image left on.array
            (rests_stays p logical shape on.since.image works.between.image new.image on.rests
            (torn_full shape bounds p logical works.between new torn) torn.stays) lost,
      );
    }
    by_end true (inr (inr torn)) = record {
      base = on.since;
      durable = on.durable;
      array = on.array;
      programs = on.alone.programs;
      alone = on.alone.alone;
      between = works.between;
      does = on.alone.does;
      left = inr (record {
        block = torn.block;
        exists = torn.exists;
        breaks = torn.breaks;
        flushed = λ left lost. after_rest on.since.image works.between.image left on.array on.rests lost;
        erased = λ left lost.
            let is : KeepsLost p logical shape works.between.image left =
            torn_erase p (image_slot_loss p (written_slot_loss p loss)) logical shape works.between.image left
            torn.block works.stays.sound torn.exists torn.removable lost in
            after_kept on.since.image left on.array (record {
              sound = is.sound;
              array = is.array ∙ on.rests.array;
            });
      });
    }

    pub works_cut : IsCutByLoss p logical shape c s start new
    works_cut = by_end broken works.ends

  -- nothing was done
  pub still_cut : (now new : Moment) (spare : ℕ) → IsCarried p logical shape start now spare → new ≡ now →
      IsCutByLoss p logical shape c s start new
  still_cut now new spare carried same = record {
    base = carried.base;
    durable = carried.durable;
    array = carried.array;
    programs = carried.alone.programs;
    alone = carried.alone.alone;
    between = now;
    does = carried.alone.does;
    left = inl (
      inl same,
      λ left lost. after_rest carried.base.image now.image left carried.array carried.rests
          (subst (λ (m : Moment). IsLeftOf (is_blank_in carried.base.image) m.image left) same lost),
    );
  }

  -- ---- a step that ends in a program

  module _ (old : Moment) (old_spare : ℕ) (e : Entry) (names : List Link) (broken : Bool) (new : Moment)
      (new_spare : ℕ) (w : WritesLast p logical shape old old_spare e names broken new new_spare)
      (carried : IsCarried p logical shape start old old_spare) (own : Entry) (writes : own.writes ≡ e.writes)
      (one : AreSome (own ∷ []) s.entries) (few : MayStart c 1) (may : IsAtLast e → MayComplete c own) where
    abbrev before : List Contents
    before = w.before.image

    ready : IsReady p logical shape start w.before new_spare
    ready = ready_last p logical shape bounds start old old_spare e names broken new new_spare w carried

    abbrev base : List Contents
    base = ready.base.image

    abbrev waits : ℕ → Bool
    waits = is_blank_in base

    abbrev f : Fired
    f = record { entry = own; names = names; at = w.at; bytes = w.bytes; rec = w.rec }

    is_fired : IsFired p logical shape (MayComplete c) new_spare waits before f
    is_fired = record {
      asks = w.next.asks;
      pages = w.next.pages ∙ ap (map (λ (v : PageWrite). v.page)) (sym writes);
      says = λ name v i j same here.
          w.next.says name v i (subst (λ (ws : List PageWrite). Contains ws v) writes j) same here;
      says_own = λ v i same. w.next.says_own v (subst (λ (ws : List PageWrite). Contains ws v) writes i) same;
      outside = outside_of p logical shape base before names w.at new_spare ready.spares w.leaves;
      slot = w.leaves.slot;
      last = λ every. may (w.next.last every);
    }

    writing : IsWriting p logical shape c s waits before (f ∷ [])
    writing = record {
      block = new_spare;
      unflushed = record {
        sound = ready.rests.sound;
        exists = ready.spares.exists;
        spared = spared_since_flush p logical shape base before waits new_spare ready.rests.sound_base
            ready.rests.sound ready.rests.since ready.spares.removable;
        each = All-cons (IsFired p logical shape (MayComplete c) new_spare waits before) f [] is_fired
            (All-nil (IsFired p logical shape (MayComplete c) new_spare waits before));
        apart = λ i j d less within. absurd (omega arith);
      };
      array = (array.0, ready.rests.array ∙ ready.array ∙ array.1);
      open_entries = one;
      few = few;
    }

    -- the record was programmed
    with_it : (left : List Contents) → IsLeftOf waits (with_record p before f) left → Loses left
    with_it left lost = writing_loss p loss partial completing logical shape c s waits before (f ∷ []) left writing
        (waits_more waits (f ∷ []) (with_record p before f) left lost)

    -- it was not
    without_it : (left : List Contents) → IsLeftOf waits before left → Loses left
    without_it left lost = after_rest base before left ready.array ready.rests lost

    -- its slot is damaged
    damaged_rests : IsResting p logical shape base (set before w.at damaged)
    damaged_rests =
        let k : KeepsDamaged p logical shape before (set before w.at damaged) =
        image_damage_law p logical shape before w.at w.next.asks.sound w.next.asks.within w.next.asks.blank in
        rests_then p logical shape base before (set before w.at damaged) ready.rests k.sound
        (full_set before w.at damaged w.next.asks.blank) k.array
        (λ page low. ap (λ l. cur p (records_of l) logical page) k.written)
        (λ r h. sym (ap (λ l. is_held p (records_of l) logical r) k.written) ∙ h)

    by_outcome : (how : Outcome) →
        new.image ≡ image_left shape before (program w.at w.bytes (spelling p w.rec)) how →
        (left : List Contents) → IsLeftOf waits new.image left → Loses left
    by_outcome outcome.None is left lost = without_it left (subst (λ i. IsLeftOf waits i left) is lost)
    by_outcome outcome.All is left lost = with_it left (subst (λ i. IsLeftOf waits i left) is lost)
    by_outcome outcome.Bad is left lost = after_rest base (set before w.at damaged) left ready.array damaged_rests
        (subst (λ i. IsLeftOf waits i left) is lost)

    by_program : (b : Bool) → EndsProgram shape w.before (program w.at w.bytes (spelling p w.rec)) b new →
        (left : List Contents) → IsLeftOf waits new.image left → Loses left
    by_program false done = by_outcome outcome.All (ap (λ (m : Moment). m.image) done)
    by_program true (inl none) = by_outcome outcome.None (ap (λ (m : Moment). m.image) none)
    by_program true (inr breaks) = by_outcome breaks.0.left.0 breaks.0.left.1

    -- the program is done, or is what comes last
    record IsLast (b : Bool) : Type 0 where
      between : Moment
      more : IsAlone p logical shape w.before between
      ends : EndsAlone shape between new

    ends_alone : (b : Bool) → EndsProgram shape w.before (program w.at w.bytes (spelling p w.rec)) b new →
        IsLast b
    ends_alone false done = record {
      between = new;
      more = record {
        programs = program w.at w.bytes (spelling p w.rec) ∷ [];
        alone = All-cons IsNoErase (program w.at w.bytes (spelling p w.rec)) [] tt (All-nil IsNoErase);
        does = (w.can, done);
      };
      ends = inl refl;
    }
    ends_alone true (inl none) = record {
      between = w.before;
      more = record { programs = []; alone = All-nil IsNoErase; does = refl };
      ends = inl none;
    }
    ends_alone true (inr breaks) = record {
      between = w.before;
      more = record { programs = []; alone = All-nil IsNoErase; does = refl };
      ends = inr (program w.at w.bytes (spelling p w.rec), tt, breaks);
    }

    its_end : IsLast broken
    its_end = ends_alone broken w.ends

    its_alone : IsAlone p logical shape ready.base its_end.between
    its_alone = alone_then p logical shape ready.base w.before its_end.between ready.alone its_end.more

    pub last_cut : IsCutByLoss p logical shape c s start new
    last_cut = record {
      base = ready.base;
      durable = ready.durable;
      array = ready.array;
      programs = its_alone.programs;
      alone = its_alone.alone;
      between = its_end.between;
      does = its_alone.does;
      left = inl (its_end.ends, by_program broken w.ends);
    }

-- ---- as a step of a run

after_left : (p : Protocol) (logical : ℕ) (shape : Shape) (c : Command) (s : ArrayState) (base between new : Moment)
    (how : LeavesAsCut p logical shape c s base between new) (left : List Contents) →
    MayLeave p logical shape c s base between new how left → AfterLoss p logical shape c s left
after_left p logical shape c s base between new (inl alone) left lost = alone.1 left lost
after_left p logical shape c s base between new (inr torn) left (inl lost) = torn.flushed left lost
after_left p logical shape c s base between new (inr torn) left (inr lost) = torn.erased left lost

pub left_is_cut : (p : Protocol) → LeftIsCut p
left_is_cut p logical shape c s next old new left h lost is =
    loss_is_cut p logical shape c s next left
    (after_left p logical shape c s.machine h.base h.between new h.left left lost) is
