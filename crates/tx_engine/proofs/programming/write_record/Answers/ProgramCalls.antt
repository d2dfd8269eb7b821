-- The program of a record as a call: what it leaves where it is done, and where it is broken.
use Rattle.tx_engine.proofs.Common.{◌≡◌, ◌⊎◌, ℕ, eqb-true, List, [], ◌∷◌, length, Ok, Err, refl, sym, ap, ◌∙◌, subst, arith, get_or-set_same, slots_of, Protocol, Shape, Slot, Rec, Broken, FlashState, IsImage, blank, complete, slot_at, Does, CanDo, moment_of, program, image_left, CanBeSpelled, spelling, TextsStay, ImagePartialLaw, ImageCompletingLaw, IndexState, programmed, BlocksState, IsBlocksState, IsFree, with_slot, Matches, CanTakeOwn, StoreParts, CanWrite, WritesOwn}
use Rattle.flash_model.specs.declared.outcome.Outcome.TheVariants as outcome
use Rattle.flash_model.specs.Calls.{Programs}
use Rattle.flash_model.proofs.ImageLemmas.{IsImage-left}
use Rattle.flash_model.specs.Operations.{BreaksIn}
use Rattle.flash_model.proofs.MoveLemmas.{FlashMoves-operates, same_done, same_or_broken}
use Rattle.page_record.proofs.Spellings.{length-spelling}
use Rattle.record_list.specs.Changes.{PartialWriteLaw, CompletingWriteLaw}
use Rattle.record_list.specs.WrittenChanges.{WrittenPartialWriteLaw, WrittenCompletingWriteLaw}
use Rattle.judged_records.specs.ImageChanges.{image_with, TextsCome}
use Rattle.judged_records.proofs.OfLaws.ImageLaws.{image_partial_law, image_completing_law}
use Rattle.judged_records.proofs.OfChanges.NotedChanges.{programmed_noted}
use Rattle.collector.specs.declared.unsure.Unsure.TheVariants as unsure
use Rattle.collector.proofs.OfSettle.OwnExits.{own_there}
use Rattle.collector.specs.StoreParts.{store_parts, IsSure}
use Rattle.tx_engine.proofs.OfWrite.Programs.{free_program, IsWritten, is_written, IsLeft, is_left, left_unsure}

module _ (q : Protocol) (partial : PartialWriteLaw q) (completing : CompletingWriteLaw q)
    (written_partial : WrittenPartialWriteLaw q)
    (written_completing : WrittenCompletingWriteLaw q)
    (a : StoreParts) (k : IsSure q a) (at : Slot) (rec : Rec) (bytes : List ℕ) (asks : CanWrite a at rec bytes)
    (spare : List ℕ)
    (spells : spare ≡ spelling a.noted.config.protocol rec)
    (s' : FlashState) where
  abbrev s : FlashState
  s = a.flash

  abbrev n : IndexState
  n = a.noted

  abbrev t : BlocksState
  t = a.table

  abbrev free : IsFree t at.0
  free = asks.free.free

  abbrev take : CanTakeOwn n t rec
  take = asks.own

  abbrev spelled : CanBeSpelled n.config.protocol rec
  spelled = asks.spelled

  m : Matches s n t unsure.Nothing
  m = subst (Matches s n t) k.nothing k.matches

  image_partial : ImagePartialLaw n.config.protocol
  image_partial = image_partial_law n.config.protocol (subst WrittenPartialWriteLaw (sym k.rule) written_partial)

  image_completing : ImageCompletingLaw n.config.protocol
  image_completing = image_completing_law n.config.protocol
      (subst WrittenCompletingWriteLaw (sym k.rule) written_completing)

  can : CanDo s.shape s.image (program at.0 bytes spare)
  can = (
    free_program s n t m at.0 free,
    asks.page ∙ ap (λ (sh : Shape). sh.page_bytes) (sym m.shape),
    ap length spells
        ∙ length-spelling n.config.protocol rec,
  )

  written_now : IsWritten s n t m at rec free take spelled bytes
  written_now = is_written s n t m at rec free take spelled bytes image_partial image_completing

  module _ (x : Broken) (broken : Programs s s' at.0 bytes spare (Err x)) where
    torn_image : s'.image ≡ image_left s.shape s.image (program at.0 bytes (spelling n.config.protocol rec))
        broken.torn.left.0
    torn_image = broken.torn.left.1 ∙ ap (λ sp. image_left s.shape s.image (program at.0 bytes sp) broken.torn.left.0)
        spells

    torn_left : IsLeft s n t m at rec free take spelled bytes s'.image
    torn_left =
        subst (IsLeft s n t m at rec free take spelled bytes) (sym torn_image)
        (is_left s n t m at rec free take spelled bytes image_partial image_completing broken.torn.left.0)

    -- it is not known what the slot holds
    pub write_torn : WritesOwn a (store_parts s' n t (unsure.Own at rec)) at rec bytes (Err x)
    write_torn = record {
      matches = left_unsure s n t m at rec free take spelled bytes s' broken.carries.shape
          (subst (IsImage s.shape) (sym broken.torn.left.1)
          (IsImage-left s.shape s.image (program at.0 bytes spare) broken.torn.left.0 m.flash can)) torn_left;
      config = refl;
      written = tt;
      broken = record {
        noted = refl;
        table = refl;
        unsure = refl;
        slot = torn_left.slot;
        can = subst (λ sp. CanDo s.shape s.image (program at.0 bytes sp)) spells can;
        torn = subst (λ sp. (moment_of s' ≡ moment_of s)
            ⊎ BreaksIn s.shape (moment_of s) (program at.0 bytes sp) (moment_of s')) spells
            (same_or_broken s s' (program at.0 bytes spare) x broken);
        stay = torn_left.stay;
      };
      moves = FlashMoves-operates s s' (program at.0 bytes spare) (Err x) tt can broken;
      carries = broken.carries;
      costs = (omega (arith, broken.torn.programs), broken.torn.erases);
    }

  module _ (x : Unit {0}) (done : Programs s s' at.0 bytes spare (Ok x)) where
    done_image : s'.image ≡ image_with n.config.protocol s.image at.0 bytes rec
    done_image = done.done.image ∙ ap (λ sp. image_left s.shape s.image (program at.0 bytes sp) outcome.All) spells

    done_does : Does s.shape (moment_of s) (program at.0 bytes (spelling n.config.protocol rec) ∷ []) (moment_of s')
    done_does =
        subst (λ sp. Does s.shape (moment_of s) (program at.0 bytes sp ∷ []) (moment_of s')) spells (
          can,
          same_done s s' (program at.0 bytes spare) x done,
        )

    done_stay : TextsStay n.config.protocol s.image s'.image
    done_stay = subst (TextsStay n.config.protocol s.image) (sym done_image) written_now.stay

    done_come : TextsCome n.config.protocol s'.image rec bytes
    done_come = subst (λ i. TextsCome n.config.protocol i rec bytes) (sym done_image) written_now.come

    done_slot : slot_at s'.image at.0 ≡ complete bytes (spelling n.config.protocol rec)
    done_slot =
        ap (λ i. slot_at i at.0) done_image
        ∙ get_or-set_same s.image at.0 (complete bytes (spelling n.config.protocol rec)) blank
        (let w = free.within in omega (
          arith,
          w,
          ap slots_of m.blocks,
          m.flash.slots,
        ))

    as_unsure : Matches s' n t (unsure.Own at rec)
    as_unsure =
        left_unsure s n t m at rec free take spelled bytes s' done.carries.shape
        (subst (IsImage s.shape) (sym done.done.image) (IsImage-left s.shape s.image (program at.0 bytes spare)
        outcome.All m.flash can))
        (subst (IsLeft s n t m at rec free take spelled bytes) (sym done_image)
        (is_left s n t m at rec free take spelled bytes image_partial image_completing outcome.All))

    -- the tables have the record
    pub write_done : IsBlocksState (with_slot t at.0) →
        WritesOwn a (store_parts s' (programmed n at.0 rec) (with_slot t at.0) a.unsure) at rec bytes (Ok tt)
    write_done good = record {
      matches = subst (Matches s' (programmed n at.0 rec) (with_slot t at.0)) (sym k.nothing)
          (own_there s' n t (unsure.Own at rec) as_unsure at.0 free (m.free at.0 free)
          (λ slot e. eqb-true slot at.0 e) good
          (subst PartialWriteLaw (sym k.rule) partial) (subst CompletingWriteLaw (sym k.rule) completing) rec take
          spelled bytes done_slot
          (programmed_noted n.config.protocol n m.noted (subst PartialWriteLaw (sym k.rule) partial)
          (subst CompletingWriteLaw (sym k.rule) completing) at.0 rec
          (let w = free.within in omega (arith, w, ap slots_of m.blocks, ap slots_of m.shape))
          (m.free at.0 free) take.next));
      config = refl;
      written = record {
        noted = refl;
        table = refl;
        unsure = k.nothing;
        image = done_image;
        does = done_does;
        stay = done_stay;
        come = done_come;
      };
      broken = tt;
      moves = FlashMoves-operates s s' (program at.0 bytes spare) (Ok x) tt can done;
      carries = done.carries;
      costs = (omega (arith, done.done.programs), done.done.erases);
    }
