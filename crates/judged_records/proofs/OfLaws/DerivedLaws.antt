-- The laws of what is derived from the noted records, from the commit laws.
use Rattle.judged_records.proofs.Common.{◌≡◌, false, None, refl, sym, all_from, Protocol, name_of, is_present, PartialWriteLaw, CompletingWriteLaw, CopyLaw, LossLaw, present_in, shape_of, Note, Blank, Damaged, rec_of, found_in, with_block_noted, programmed}
use Rattle.judged_records.specs.DerivedLaws.{NextRecordLaw, CompletesLaw, RoundLaw, OpenWriteLaw, WholeWriteLaw, CopyMovesLaw, DamageMovesLaw, LossMovesLaw}
use Rattle.judged_records.specs.DerivedLaws.{PinMovesLaw, SpareMovesLaw, IsGone, IsLossDerived, HeldReading, WantedReading, NeededReading, GoingReading}
use Rattle.judged_records.specs.DerivedLaws.{LowestReading, GarbageReading}
use Rattle.judged_records.proofs.OfCommit.Closing.{completes_whole, whole_completes, open_absent, round_of}
use Rattle.judged_records.proofs.OfChanges.Copies.{copy_moves_nothing, damage_moves_nothing, pin_moves_nothing, spare_moves_nothing}
use Rattle.judged_records.proofs.OfReadings.GarbageReadings.{garbage_shut, garbage_part}
use Rattle.judged_records.proofs.OfChanges.Losses.{loss_moves_nothing, lost_answers_none, lost_not_current}
use Rattle.judged_records.proofs.OfReadings.LowestSlots.{home_outside, home_inside, off_lowest, off_none, lowest_to_go, none_to_go}
use Rattle.judged_records.proofs.OfChanges.PartialWrites.{open_write, next_newly_loose, next_newest}
use Rattle.judged_records.proofs.OfReadings.Readings.{held_reading, wanted_reading, needed_reading, unneeded_reading, going_reading, none_goes}
use Rattle.judged_records.proofs.OfCommit.RoundSteps.{round_by_index}
use Rattle.judged_records.proofs.OfCommit.WholeCycles.{whole_write}
use Rattle.judged_records.proofs.OfChanges.WholeDerived.{derived_whole}

pub next_record_law : (protocol : Protocol) → NextRecordLaw protocol
next_record_law protocol n rec k next = (next_newest protocol n k rec next, next_newly_loose protocol n k rec next)

pub completes_law : (protocol : Protocol) → CompletesLaw protocol
completes_law protocol n at rec next k exists was = (
  completes_whole protocol n k at rec exists was next,
  whole_completes protocol n k at rec exists was next,
)

pub open_write_law : (protocol : Protocol) → PartialWriteLaw protocol → OpenWriteLaw protocol
open_write_law protocol partial n at rec next k exists was open' =
    open_write protocol n k partial at rec exists was next (open_absent protocol n k at rec exists was next open')

pub whole_write_law : (protocol : Protocol) → CompletingWriteLaw protocol → WholeWriteLaw protocol
whole_write_law protocol completing n at rec next k exists was closed =
    let m = programmed n at rec in
    let whole = whole_write protocol n k completing at rec exists was next
    (completes_whole protocol n k at rec exists was next closed) in
    let round = round_of protocol n k at rec exists was next closed in
    record {
      whole = whole;
      round = round.0;
      is_round = round.1;
      judged = derived_whole n m next.names whole round.0 round.1.apart round.1.same refl n.config.protocol refl;
    }

pub round_law : RoundLaw
round_law = round_by_index

pub copy_moves_law : (protocol : Protocol) → CopyLaw protocol → CopyMovesLaw protocol
copy_moves_law protocol copy n from to k some exists was = copy_moves_nothing protocol n k copy from to some exists was

pub damage_moves_law : (protocol : Protocol) → DamageMovesLaw protocol
damage_moves_law protocol n at k exists was = damage_moves_nothing protocol n k at exists was

pub loss_moves_law : (protocol : Protocol) → LossLaw protocol → LossMovesLaw protocol
loss_moves_law protocol loss n block k exists lose =
    let l = found_in n.notes in
    let of : (note : Note) → (none : rec_of note ≡ None) → IsLossDerived n
    (record n { notes = with_block_noted (shape_of n.config) n.notes block note }) =
    λ note none. record {
      nothing_moves = loss_moves_nothing protocol n k block note none exists lose loss;
      gone = all_from (λ f. is_present (found_in (with_block_noted (shape_of n.config) n.notes block note))
          (name_of f.rec) ≡ false →
          IsGone n (name_of f.rec)) l (λ f i gone.
          record {
            stale = λ e. lost_not_current protocol n k block note none exists lose (name_of f.rec)
                (present_in l f i) gone (sym e);
            free = lost_answers_none protocol n k block note none exists lose (name_of f.rec) gone;
          });
    } in
    (of Blank refl, of Damaged refl)

pub pin_moves_law : PinMovesLaw
pin_moves_law = pin_moves_nothing

pub spare_moves_law : SpareMovesLaw
spare_moves_law = spare_moves_nothing

pub held_law : (protocol : Protocol) → HeldReading protocol
held_law protocol n k = held_reading protocol n k

pub wanted_law : (protocol : Protocol) → WantedReading protocol
wanted_law protocol n k = wanted_reading protocol n k

pub needed_law : NeededReading
needed_law n = record { held = needed_reading n; bare = unneeded_reading n }

pub going_law : (protocol : Protocol) → GoingReading protocol
going_law protocol n page below k = record {
  scc = λ e. going_reading protocol n k e page below;
  bpcc = λ e r. none_goes protocol n k e page below r;
}

pub lowest_law : LowestReading
lowest_law n = record {
  home_outside = home_outside n;
  home_inside = home_inside n;
  off = off_lowest n;
  off_none = off_none n;
  to_go = lowest_to_go n;
  none_to_go = none_to_go n;
}

pub garbage_law : GarbageReading
garbage_law n block other = record { shut = garbage_shut n block other; part = garbage_part n block other }
