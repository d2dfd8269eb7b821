-- What a loss in the middle of a command leaves, from what it leaves of the records that the command started.
use Rattle.lost_writes.proofs.Common.{◌≤◌, List, [], ◌∷◌, length, map, Contains, refl, sym, ◌∙◌, subst, inl, inr, arith, Contains-first, Contains-rest, array_in, LossLaw, PartialWriteLaw, CompletingWriteLaw, Protocol}
use Rattle.std.proofs.lemmas.List.{length-map}
use Rattle.array_machine.specs.ArrayState.{Entry, Pages, put}
use Rattle.array_machine.specs.Batches.{MayTakeEach}
use Rattle.array_machine.specs.Step.{MayTake, settled}
use Rattle.host_protocol.specs.declared.command.Command.{Command}
use Rattle.host_protocol.specs.declared.command.Command.TheVariants as command
use Rattle.host_protocol.specs.declared.reply.Reply.TheVariants as reply
use Rattle.array_runs.specs.Run.{RunState, TakesOf, CutLeavesOf, LosesOpen, MayComplete}
use Rattle.array_runs.proofs.Each.{takes_none}
use Rattle.judged_records.specs.ImageChanges.{KeepsLost}
use Rattle.judged_records.proofs.OfLaws.SlotLosses.{image_slot_loss}
use Rattle.record_list.proofs.OfChanges.SlotLosses.{written_slot_loss}
use Rattle.lost_writes.specs.AfterLoss.{AreSome, MayStart, WritingLossLaw, ProgrammingLossLaw, ErasingLossLaw}
use Rattle.lost_writes.specs.Fired.{Fired, IsLeftWhole}
use Rattle.lost_writes.specs.Sessions.{broken_by, LossIsCut}
use Rattle.lost_writes.proofs.Folds.{lost_writes}
use Rattle.lost_writes.specs.Quiet.{is_one_of, QuietProgramsLaw}
use Rattle.lost_writes.proofs.Slots.{torn_erase}
use Rattle.lost_writes.proofs.Spared.{spared_since_flush}

-- each of some transactions was taken or not: so it is of all
some_taken : (Q : Entry → Type 0) (es all : List Entry) (old new : Pages) → AreSome es all → MayTakeEach old Q es new →
    MayTakeEach old Q all new
some_taken Q [] all old new some same = subst (λ pages. MayTakeEach old Q all pages) (sym same)
    (takes_none command.StepAll Q all old)
some_taken Q (e ∷ es) [] old new some h = absurd some
some_taken Q (e ∷ es) (x ∷ xs) old new (inr rest) h = inl (some_taken Q (e ∷ es) xs old new rest h)
some_taken Q (e ∷ es) (x ∷ xs) old new (inl first) (inl h) = inl (some_taken Q es xs old new first.1 h)
some_taken Q (e ∷ es) (x ∷ xs) old new (inl first) (inr h) = inr (
  subst Q first.0 h.0,
  some_taken Q es xs (put old x.writes) new first.1 (subst (λ (y : Entry). MayTakeEach (put old y.writes) Q es new)
      first.0 h.1),
)

some_in : (e : Entry) (es all : List Entry) → AreSome (e ∷ es) all → Contains all e
some_in e es [] some = absurd some
some_in e es (x ∷ xs) (inl first) = subst (Contains (x ∷ xs)) (sym first.0) (Contains-first x xs)
some_in e es (x ∷ xs) (inr rest) = Contains-rest x xs e (some_in e es xs rest)

-- of one at most
one_taken : (Q : Entry → Type 0) (es all : List Entry) (old new : Pages) → length es ≤ 1 → AreSome es all →
    MayTakeEach old Q es new → MayTake old (λ e. Contains all e × Q e) new
one_taken Q [] all old new few some same = inl same
one_taken Q (e ∷ []) all old new few some (inl same) = inl same
one_taken Q (e ∷ []) all old new few some (inr took) = inr (e, (some_in e [] all some, took.0), took.1)
one_taken Q (e ∷ x ∷ es) all old new few some h = absurd (omega arith)

takes : (c : Command) (Q : Entry → Type 0) (es all : List Entry) (old new : Pages) → MayStart c (length es) →
    AreSome es all → MayTakeEach old Q es new → TakesOf c Q all old new
takes command.StepAll Q es all old new few some h = some_taken Q es all old new some h
takes c Q es all old new few some h = one_taken Q es all old new few some h

pub writing_loss : (p : Protocol) → LossLaw p → PartialWriteLaw p → CompletingWriteLaw p → WritingLossLaw p
writing_loss p loss partial completing logical shape c old waits image fired left writing lost =
    let es = map (λ (f : Fired). f.entry) fired in
    let whole : IsLeftWhole p logical shape (MayComplete c) image es left =
    lost_writes p loss partial completing logical shape c writing.block waits image fired left writing.unflushed lost in
    let there = writing.array.0 in
    record {
      sound = whole.sound;
      cut = (
        there,
        takes c (MayComplete c) es old.entries (settled there old).pages (array_in p logical left)
            (subst (MayStart c) (sym (length-map fired (λ (f : Fired). f.entry))) writing.few) writing.open_entries
            (subst (λ pages. MayTakeEach pages (MayComplete c) es (array_in p logical left)) writing.array.1
            whole.array),
        refl,
      );
    }

pub programming_loss : (p : Protocol) → LossLaw p → PartialWriteLaw p → CompletingWriteLaw p → QuietProgramsLaw p →
    ProgrammingLossLaw p
programming_loss p loss partial completing quiet logical shape c old flushed slots image fired left is lost =
    let done = quiet logical shape slots flushed image is.sound is.quiet in
    writing_loss p loss partial completing logical shape c old (is_one_of slots) image fired left (record {
      block = is.block;
      unflushed = record {
        sound = done.sound;
        exists = is.exists;
        spared = spared_since_flush p logical shape flushed image (is_one_of slots) is.block is.sound done.sound
            done.since is.removable;
        each = is.each;
        apart = is.apart;
      };
      array = (is.array.0, done.array ∙ is.array.1);
      open_entries = is.open_entries;
      few = is.few;
    }) lost

pub erasing_loss : (p : Protocol) → LossLaw p → ErasingLossLaw p
erasing_loss p loss logical shape c old block image left erasing torn =
    let kept : KeepsLost p logical shape image left =
    torn_erase p (image_slot_loss p (written_slot_loss p loss)) logical shape image left block erasing.sound
    erasing.exists erasing.removable torn in
    let there = erasing.array.0 in
    record {
      sound = kept.sound;
      cut = (
        there,
        subst (TakesOf c (MayComplete c) old.entries (settled there old).pages) (sym (kept.array ∙ erasing.array.1))
            (takes_none c (MayComplete c) old.entries (settled there old).pages),
        refl,
      );
    }

-- ---- as a step of a run

loses_as : (c : Command) (old new : RunState) → CutLeavesOf c old.machine new.machine →
    LosesOpen (broken_by c) old reply.Cut new
loses_as (command.Step tag) old new cut = (inl (refl, tt), cut)
loses_as (command.Finish tag) old new cut = (inl (refl, tt), cut)
loses_as (command.Abort tag) old new cut = (inl (refl, tt), cut)
loses_as command.StepAll old new cut = (inl (refl, tt), cut)
loses_as c old new cut = (inl (refl, tt), cut)

pub loss_is_cut : (p : Protocol) → LossIsCut p
loss_is_cut p logical shape c old new left after is =
    loses_as c old new (subst (CutLeavesOf c old.machine) (sym is) after.cut)
