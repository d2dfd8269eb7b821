-- What a list of commands does on the array machine, and the replies that it may give.
use Rattle.std.specs.Prelude.{◌≡◌, ◌≢◌, ◌⊎◌, ℕ, ◌+◌, ◌-◌, ◌<◌, ◌≤◌, Bool, true, false, List, [], ◌∷◌, length, count_by, All, AllPairs, Contains, Option, None}
use Rattle.std.specs.Prelude.{Some, IsSome, Result, Ok, Err, MatchBool, take, zip, if◌then◌else◌}
use Rattle.tx_types.specs.Batch.{PageWrite}
use Rattle.tx_types.specs.Limits.{max_version}
use Rattle.tx_types.specs.declared.stats.Stats.{Stats}
use Rattle.array_machine.specs.ArrayState.{ArrayState, Entry, Pages, entry_of, page_at}
use Rattle.array_machine.specs.Collect.{Collects, TellsStats}
use Rattle.array_machine.specs.Read.{ReadsPage}
use Rattle.array_machine.specs.Submit.{Limits, Submits, is_of}
use Rattle.array_machine.specs.Step.{Steps, Aborts, IsAtLast, MayTake, settled}
use Rattle.array_machine.specs.Batches.{StepsAll, MayTakeEach}
use Rattle.array_machine.specs.declared.mark.Mark.TheVariants.{Whole}
use Rattle.array_machine.specs.declared.answers.ReadAnswer.{ReadAnswer}
use Rattle.array_machine.specs.declared.answers.ReadAnswer.TheVariants as answer
use Rattle.array_machine.specs.declared.answers.ReadError.{ReadError}
use Rattle.array_machine.specs.declared.answers.ReadError.TheVariants as unread
use Rattle.array_machine.specs.declared.answers.SubmitError.{SubmitError}
use Rattle.array_machine.specs.declared.answers.SubmitError.TheVariants as refused
use Rattle.array_machine.specs.declared.answers.Progress.{Progress}
use Rattle.array_machine.specs.declared.answers.Progress.TheVariants as progress
use Rattle.array_machine.specs.declared.answers.StepError.{StepError}
use Rattle.array_machine.specs.declared.answers.StepError.TheVariants as failed
use Rattle.array_machine.specs.declared.answers.Aborted.{Aborted}
use Rattle.array_machine.specs.declared.answers.Aborted.TheVariants as aborted
use Rattle.array_machine.specs.declared.answers.Collected.{Collected}
use Rattle.array_machine.specs.declared.answers.Collected.TheVariants as collected
use Rattle.array_machine.specs.declared.answers.Fault.{Fault}
use Rattle.array_machine.specs.declared.answers.Moved.{Moved}
use Rattle.host_protocol.specs.declared.command.Command.{Command}
use Rattle.host_protocol.specs.declared.command.Command.TheVariants as command
use Rattle.host_protocol.specs.declared.reply.Reply.{Reply}
use Rattle.host_protocol.specs.declared.reply.Reply.TheVariants as reply

-- the reply of a read
abbrev pub read_reply : ℕ → List ℕ → Result ReadAnswer ReadError → Reply
read_reply page bytes (Ok answer.Blank) = reply.Blank page
read_reply page bytes (Ok answer.Page) = reply.Page page bytes
read_reply page bytes (Err unread.Range) = reply.RefusedRange page
read_reply page bytes (Err unread.Fault) = reply.Fault

-- the reply of a write of this many pages
abbrev pub submit_reply : ℕ → ℕ → Result (Unit {0}) SubmitError → Reply
submit_reply tag pages (Ok u) = reply.Opened tag pages
submit_reply tag pages (Err refused.Empty) = reply.RefusedEmpty
submit_reply tag pages (Err (refused.Range page)) = reply.RefusedRange page
submit_reply tag pages (Err (refused.Repeated page)) = reply.RefusedRepeated page
submit_reply tag pages (Err refused.Tag) = reply.RefusedTag tag
submit_reply tag pages (Err (refused.Overlap page owner)) = reply.RefusedOverlap page owner
submit_reply tag pages (Err (refused.Full free)) = reply.RefusedFull free
submit_reply tag pages (Err (refused.Spent page)) = reply.RefusedSpent page

-- the reply of a step
abbrev pub step_reply : ℕ → Result Progress StepError → Reply
step_reply tag (Ok (progress.Wrote done all)) = reply.Wrote tag done all
step_reply tag (Ok progress.Done) = reply.Done tag
step_reply tag (Err failed.Unknown) = reply.Unknown tag
step_reply tag (Err failed.Fault) = reply.Fault

-- the reply of an abort
abbrev pub abort_reply : ℕ → Result Aborted StepError → Reply
abort_reply tag (Ok aborted.Gone) = reply.Aborted tag
abort_reply tag (Ok aborted.Late) = reply.Late tag
abort_reply tag (Err failed.Unknown) = reply.Unknown tag
abort_reply tag (Err failed.Fault) = reply.Fault

-- Steps of one transaction through these states, up to the first answer that is no `Wrote`.
abbrev pub Finishes : ArrayState → List ArrayState → ArrayState → ℕ → Result Progress StepError →
    Type 0
Finishes old [] new tag (Ok (progress.Wrote done all)) = ⊥
Finishes old [] new tag (Ok progress.Done) = Steps old new tag (Ok progress.Done)
Finishes old [] new tag (Err e) = Steps old new tag (Err e)
Finishes old (mid ∷ mids) new tag result =
    (done : ℕ) × (all : ℕ) × Steps old mid tag (Ok (progress.Wrote done all))
    × Finishes mid mids new tag result

-- how many pages the transaction with a tag has still to write
abbrev pub left_of : Option Entry → ℕ
left_of None = 0
left_of (Some e) = length e.writes - e.done

abbrev pub pages_left : ℕ → ArrayState → ℕ
pages_left tag s = left_of (entry_of tag s.entries)

-- A page has no version left only where it may have been mentioned at the last one. A run has no tables: it adds to the
-- mention of the page on the first flash one for each entry that named the page in a write opened since.
abbrev pub MayBeSpent : (ℕ → ℕ) → (ℕ → Bool) → Type 0
MayBeSpent seen spent = (page : ℕ) → spent page ≡ true → max_version ≤ seen page

-- the reply of a collection
abbrev pub collect_reply : Result Collected Fault → Reply
collect_reply (Ok collected.One) = reply.Collected
collect_reply (Ok collected.Nothing) = reply.Nothing
collect_reply (Err fault) = reply.Fault

-- the reply of going on with several transactions at once
abbrev pub moved_reply : Moved → Reply
moved_reply answer = reply.Moved answer.moved answer.finished

abbrev pub TellsReport : Reply → Type 0
TellsReport r = (text : List ℕ) × (r ≡ reply.Report text)

-- A command is done on a mounted device, whose power is not cut: its reply, and the state that it
-- leaves.
abbrev pub DoesCommand : Limits → (ℕ → Bool) → Command → ArrayState → Reply → ArrayState → Type 0
DoesCommand limits spent (command.Read page) old r new =
    (bytes : List ℕ) × (result : Result ReadAnswer ReadError)
    × ReadsPage limits.logical old.pages page bytes result × (r ≡ read_reply page bytes result)
    × (new ≡ old)
DoesCommand limits spent (command.Write tag batch) old r new =
    (result : Result (Unit {0}) SubmitError)
    × Submits limits spent old new tag batch.entries result
    × (r ≡ submit_reply tag (length batch.entries) result)
DoesCommand limits spent (command.Step tag) old r new =
    (result : Result Progress StepError) × Steps old new tag result × (r ≡ step_reply tag result)
DoesCommand limits spent (command.Finish tag) old r new =
    (mids : List ArrayState) × (result : Result Progress StepError)
    × Finishes old mids new tag result × (r ≡ step_reply tag result)
DoesCommand limits spent (command.Abort tag) old r new =
    (result : Result Aborted StepError) × Aborts old new tag result × (r ≡ abort_reply tag result)
DoesCommand limits spent command.StepAll old r new =
    (answer : Moved) × StepsAll old new answer × (r ≡ moved_reply answer)
DoesCommand limits spent command.Collect old r new =
    (result : Result Collected Fault) × Collects old new result × (r ≡ collect_reply result)
DoesCommand limits spent command.Stats old r new =
    (told : Stats) × TellsStats old told × (r ≡ reply.Stats told) × (new ≡ old)
DoesCommand limits spent command.Explain old r new = TellsReport r × (new ≡ old)
DoesCommand limits spent (command.Cut count what) old r new = ⊥
DoesCommand limits spent (command.Fault count what) old r new = ⊥
DoesCommand limits spent (command.BadRead count) old r new = ⊥

-- power may be cut while the command is done
abbrev pub MayBeCut : Pages → Command → Type 0
MayBeCut pages (command.Read page) = IsSome (page_at pages page)
MayBeCut pages (command.Write tag batch) = ⊥
MayBeCut pages (command.Step tag) = Unit {0}
MayBeCut pages (command.Finish tag) = Unit {0}
MayBeCut pages (command.Abort tag) = Unit {0}
MayBeCut pages command.StepAll = Unit {0}
MayBeCut pages command.Collect = Unit {0}
MayBeCut pages command.Stats = ⊥
MayBeCut pages command.Explain = ⊥
MayBeCut pages (command.Cut count what) = ⊥
MayBeCut pages (command.Fault count what) = ⊥
MayBeCut pages (command.BadRead count) = ⊥

-- the command may write the last page of this transaction
abbrev pub MayComplete : Command → Entry → Type 0
MayComplete (command.Step tag) e = (e.tag ≡ tag) × IsAtLast e
MayComplete (command.Finish tag) e = e.tag ≡ tag
MayComplete command.StepAll e = IsAtLast e
MayComplete _ e = ⊥

-- an arm is set for a break to come
abbrev pub is_arm : Command → Bool
is_arm (command.Cut count what) = true
is_arm (command.Fault count what) = true
is_arm (command.BadRead count) = true
is_arm _ = false

-- the state of a run: that of the array machine, and whether the device is mounted
pub record RunState : Type 0 where
  pub machine : ArrayState
  pub up : Bool

-- nothing is open while no device is mounted
abbrev pub IsClosedUnmounted : RunState → Type 0
IsClosedUnmounted s = s.up ≡ false → s.machine.entries ≡ []

-- the device could not be mounted, and the command was not done
abbrev pub NotDone : RunState → Reply → RunState → Type 0
NotDone old r new = (old.up ≡ false) × ((r ≡ reply.Fault) ⊎ (r ≡ reply.Cut)) × (new ≡ old)

-- the array with the pages of one of these transactions that is of this kind, or of none; of several at once each is
-- taken or not, by itself
abbrev pub TakesOf : Command → (Entry → Type 0) → List Entry → Pages → Pages → Type 0
TakesOf command.StepAll Q es old new = MayTakeEach old Q es new
TakesOf c Q es old new = MayTake old (λ e. Contains es e × Q e) new

-- What is left where power was cut while the command was done, or it dropped its transactions: no
-- transaction is open. What was in doubt was there or not, and then the array took what the command
-- may complete, or not.
abbrev pub CutLeavesOf : Command → ArrayState → ArrayState → Type 0
CutLeavesOf c old new =
    (there : Bool)
    × TakesOf c (MayComplete c) old.entries (settled there old).pages new.pages
    × (new.entries ≡ [])

-- power was cut while the command was done, or several transactions went on at once and met a fault
abbrev pub MayLose : Command → Pages → Reply → Type 0
MayLose c pages r =
    ((r ≡ reply.Cut) × MayBeCut pages c) ⊎ ((r ≡ reply.Dropped) × (c ≡ command.StepAll))

abbrev pub LosesOpen : Command → RunState → Reply → RunState → Type 0
LosesOpen c old r new = MayLose c old.machine.pages r × CutLeavesOf c old.machine new.machine

-- a command, its reply, and the state that it leaves
abbrev pub Serves : Limits → (ℕ → Bool) → Command → RunState → Reply → RunState → Type 0
Serves limits spent c old r new =
    MatchBool (is_arm c) ((r ≡ reply.Armed) × (new ≡ old))
    (NotDone old r new
    ⊎ ((DoesCommand limits spent c old.machine r new.machine × (new.up ≡ true))
    ⊎ LosesOpen c old r new))

abbrev pub is_opened : Reply → Bool
is_opened (reply.Opened tag pages) = true
is_opened _ = false

abbrev pub writes_in : Command → List PageWrite
writes_in (command.Write tag batch) = batch.entries
writes_in _ = []

-- the pages of a write that was opened
abbrev pub opened_by : Command → Reply → List PageWrite
opened_by c r = if is_opened r then writes_in c else []

-- none of these writes is of this page
abbrev pub Avoid : ℕ → List PageWrite → Type 0
Avoid page writes = All (λ w. w.page ≢ page) writes

-- none of these transactions writes this page
abbrev pub AllAvoid : ℕ → List Entry → Type 0
AllAvoid page entries = All (λ e. Avoid page e.writes) entries

-- of these commands, by their replies, none opened a write of this page
abbrev pub NoneOpens : ℕ → List Command → List Reply → Type 0
NoneOpens page cs rs = All (λ (x : Command × Reply). Avoid page (opened_by x.0 x.1)) (zip cs rs)

-- no page is written by both of these transactions
abbrev pub EntriesAreApart : Entry → Entry → Type 0
EntriesAreApart a b = All (λ w. Avoid w.page b.writes) a.writes

-- the array has all that a transaction writes
abbrev pub HasWhole : Pages → Entry → Type 0
HasWhole pages e = All (λ w. page_at pages w.page ≡ w.value) e.writes

-- an array has at each page of a transaction what another one has
abbrev pub HasSame : Pages → Pages → Entry → Type 0
HasSame old new e = All (λ w. page_at new w.page ≡ page_at old w.page) e.writes

-- The open transactions write no page twice, and only pages of the array, which has all that a
-- whole one writes.
pub record IsConsistent (s : ArrayState) : Type 0 where
  pub distinct : All (λ e. AllPairs (λ v w. v.page ≢ w.page) e.writes) s.entries
  pub apart : AllPairs EntriesAreApart s.entries
  pub within : All (λ e. All (λ w. w.page < length s.pages) e.writes) s.entries
  pub whole : All (λ e. e.mark ≡ Whole → HasWhole s.pages e) s.entries

-- of the transactions that went on, this one was at its last page or whole
abbrev pub IsFinishedBy : ArrayState → Reply → Entry → Type 0
IsFinishedBy old (reply.Moved moved finished) e =
    Contains (take moved old.entries) e × (IsAtLast e ⊎ (e.mark ≡ Whole))
IsFinishedBy old _ e = ⊥

-- the reply acknowledges this open transaction
abbrev pub Acknowledges : Command → ArrayState → Reply → Entry → Type 0
Acknowledges (command.Step own) old r e =
    (entry_of own old.entries ≡ Some e) × (r ≡ reply.Done own)
Acknowledges (command.Finish own) old r e =
    (entry_of own old.entries ≡ Some e) × (r ≡ reply.Done own)
Acknowledges (command.Abort own) old r e =
    (entry_of own old.entries ≡ Some e) × (r ≡ reply.Late own)
Acknowledges command.StepAll old r e = IsFinishedBy old r e
Acknowledges _ old r e = ⊥

-- By its reply the command completed this transaction, or may have: the one that is answered as done;
-- one of those that went on at once; and where nothing is open any more each one that it may complete.
abbrev pub Completes : Command → ArrayState → Reply → Entry → Type 0
Completes c old (reply.Done tag) e = MayComplete c e × (e.tag ≡ tag)
Completes c old (reply.Moved moved finished) e =
    MayComplete c e × Contains (take moved old.entries) e
Completes c old reply.Cut e = MayComplete c e
Completes c old reply.Dropped e = MayComplete c e
Completes c old _ e = ⊥

-- The array after a command is the settled one, or that with all pages of an open transaction more:
-- of one that the command completed or may have. Of several that went on at once each is taken or
-- not, by itself.
abbrev pub ChangesAtOnce : Command → Reply → ArrayState → ArrayState → Type 0
ChangesAtOnce c r old new =
    (there : Bool)
    × TakesOf c (Completes c old r) old.entries (settled there old).pages new.pages

-- the pages of a write that was opened may be mentioned once more
abbrev pub seen_after : (ℕ → ℕ) → Command → Reply → ℕ → ℕ
seen_after seen c r page =
    if is_opened r then seen page + count_by (is_of page) (writes_in c) else seen page

-- A run over a list of commands: one reply for each, from this state to that. `seen` is at least
-- the greatest mention of each page on the flash.
abbrev pub Run : Limits → (ℕ → ℕ) → RunState → List Command → List Reply → RunState → Type 0
Run limits seen old [] [] new = new ≡ old
Run limits seen old (c ∷ cs) (r ∷ rs) new =
    (mid : RunState) × (spent : ℕ → Bool) × MayBeSpent seen spent × Serves limits spent c old r mid
    × Run limits (seen_after seen c r) mid cs rs new
Run limits seen old [] (r ∷ rs) new = ⊥
Run limits seen old (c ∷ cs) [] new = ⊥

-- power was cut, or the flash met a fault
abbrev pub is_break : Reply → Bool
is_break reply.Cut = true
is_break reply.Fault = true
is_break reply.Dropped = true
is_break _ = false
