-- Sessions that were broken off by a loss of power, one after the other.
use Rattle.std.specs.Prelude.{◌≡◌, ◌⊎◌, ℕ, ◌≤◌, Bool, false, List, [], ◌∷◌, ◌++◌, Contains, All}
use Rattle.tx_types.specs.Batch.{PageWrite}
use Rattle.tx_types.specs.declared.config.Protocol.{Protocol}
use Rattle.tx_types.specs.declared.config.Shape.{Shape}
use Rattle.flash_model.specs.Flash.{Contents}
use Rattle.record_list.specs.Records.{mention}
use Rattle.judged_records.specs.Images.{records_in, array_in}
use Rattle.array_machine.specs.ArrayState.{Entry, Pages, idle, is_doubted, page_at, Represents}
use Rattle.array_machine.specs.Submit.{Limits}
use Rattle.array_machine.specs.declared.mark.Mark.TheVariants.{Whole}
use Rattle.host_protocol.specs.declared.command.Command.{Command}
use Rattle.host_protocol.specs.declared.command.Command.TheVariants as command
use Rattle.host_protocol.specs.declared.reply.Reply.{Reply}
use Rattle.host_protocol.specs.declared.reply.Reply.TheVariants as reply
use Rattle.array_runs.specs.Run.{Run, RunState, Serves, LosesOpen, Acknowledges, NoneOpens, HasWhole, HasSame, IsConsistent, MayComplete, seen_after}
use Rattle.lost_writes.specs.Waiting.{IsLeftOf}
use Rattle.lost_writes.specs.AfterLoss.{AfterLoss}

-- The command that a run has for one that a loss broke off. A command that asks for no program and no erase was not
-- begun: power was lost between two commands, as in a collection.
abbrev pub broken_by : Command → Command
broken_by (command.Step tag) = command.Step tag
broken_by (command.Finish tag) = command.Finish tag
broken_by (command.Abort tag) = command.Abort tag
broken_by command.StepAll = command.StepAll
broken_by c = command.Collect

-- what is left is where a run goes on in which the command in hand was answered `cut`
abbrev pub LossIsCut : Protocol → Type 0
LossIsCut protocol =
    (logical : ℕ) (shape : Shape) (c : Command) (old new : RunState) (left : List Contents) →
    AfterLoss protocol logical shape c old.machine left →
    new.machine ≡ idle (array_in protocol logical left) →
    LosesOpen (broken_by c) old reply.Cut new

-- no page is mentioned at more in what is left than in the image
abbrev pub MentionsFall : Protocol → Type 0
MentionsFall protocol =
    (image left : List Contents) (waits : ℕ → Bool) (page : ℕ) →
    IsLeftOf waits image left →
    mention (records_in protocol left) page ≤ mention (records_in protocol image) page

-- A session that a loss broke off: the commands that were answered, their replies, and the command in hand.
pub record Session : Type 0 where
  pub commands : List Command
  pub replies : List Reply
  pub broken : Command

-- the greatest mentions of the pages after these commands
abbrev pub seen_over : (ℕ → ℕ) → List Command → List Reply → ℕ → ℕ
seen_over seen (c ∷ cs) (r ∷ rs) = seen_over (seen_after seen c r) cs rs
seen_over seen _ _ = seen

-- A session runs from this state, and the loss leaves that one. `own` is at least the greatest mention of each page on
-- the flash when the session begins, and not more than `seen`.
pub record BreaksOff (limits : Limits) (seen : ℕ → ℕ) (old : RunState) (s : Session) (new : RunState) : Type 0 where
  pub own : ℕ → ℕ
  pub own_least : (page : ℕ) → own page ≤ seen page
  pub last : RunState
  pub run : Run limits own old s.commands s.replies last
  pub lost : LosesOpen (broken_by s.broken) last reply.Cut new

-- sessions one after the other, each from the state that the loss before it left
abbrev pub BreakOff : Limits → (ℕ → ℕ) → RunState → List Session → RunState → Type 0
BreakOff limits seen old [] new = new ≡ old
BreakOff limits seen old (s ∷ ss) new =
    (mid : RunState) × BreaksOff limits seen old s mid
    × BreakOff limits (seen_over seen s.commands s.replies) mid ss new

-- their commands and replies, as of one run in which each command in hand was answered `cut`
abbrev pub commands_of : List Session → List Command
commands_of [] = []
commands_of (s ∷ ss) = s.commands ++ broken_by s.broken ∷ commands_of ss

abbrev pub replies_of : List Session → List Reply
replies_of [] = []
replies_of (s ∷ ss) = s.replies ++ reply.Cut ∷ replies_of ss

-- and the session that goes on now
pub record RunsOverLosses (limits : Limits) (seen : ℕ → ℕ) (old : RunState) (ss : List Session) (cs : List Command)
    (rs : List Reply) (new : RunState) : Type 0 where
  pub begins : RunState
  pub broken : BreakOff limits seen old ss begins
  pub own : ℕ → ℕ
  pub own_least : (page : ℕ) → own page ≤ seen_over seen (commands_of ss) (replies_of ss) page
  pub run : Run limits own begins cs rs new

-- sessions are one run
abbrev pub SessionsAreOneRun : Type 0
SessionsAreOneRun =
    (limits : Limits) (seen : ℕ → ℕ) (old : RunState) (ss : List Session) (cs : List Command) (rs : List Reply)
    (new : RunState) →
    RunsOverLosses limits seen old ss cs rs new →
    Run limits seen old (commands_of ss ++ cs) (replies_of ss ++ rs) new

-- a transaction that was acknowledged is in the array over any number of losses, until a write of its page is opened
abbrev pub AcknowledgedSurvives : Type 0
AcknowledgedSurvives =
    (limits : Limits) (spent : ℕ → Bool) (c : Command) (old : RunState) (r : Reply) (mid : RunState) (e : Entry)
    (seen : ℕ → ℕ) (ss : List Session) (cs : List Command) (rs : List Reply) (new : RunState) (pages : Pages)
    (w : PageWrite) →
    IsConsistent old.machine →
    Serves limits spent c old r mid → Acknowledges c old.machine r e →
    RunsOverLosses limits seen mid ss cs rs new → Represents new.machine pages →
    Contains e.writes w → NoneOpens w.page (commands_of ss ++ cs) (replies_of ss ++ rs) →
    page_at pages w.page ≡ w.value

-- and any other is whole or absent
abbrev pub OthersAreWholeOrAbsent : Type 0
OthersAreWholeOrAbsent =
    (limits : Limits) (seen : ℕ → ℕ) (old : RunState) (ss : List Session) (cs : List Command) (rs : List Reply)
    (new : RunState) (pages : Pages) (e : Entry) →
    IsConsistent old.machine → Contains old.machine.entries e →
    RunsOverLosses limits seen old ss cs rs new → Represents new.machine pages →
    All (λ w. NoneOpens w.page (commands_of ss ++ cs) (replies_of ss ++ rs)) e.writes →
    HasWhole pages e ⊎ HasSame old.machine.pages pages e

-- What a loss leaves of the transactions that were open in the session: none is open, each is there wholly or not at
-- all, a whole one stays, and one that the command in hand could not complete is absent, where it was not in doubt.
pub record LeavesTransactions (limits : Limits) (seen : ℕ → ℕ) (s : Session) (old new : RunState)
    (b : BreaksOff limits seen old s new) : Type 0 where
  pub none_open : new.machine.entries ≡ []
  pub atomic : (e : Entry) → Contains b.last.machine.entries e →
      HasWhole new.machine.pages e ⊎ HasSame b.last.machine.pages new.machine.pages e
  pub whole : (e : Entry) → Contains b.last.machine.entries e → e.mark ≡ Whole → HasWhole new.machine.pages e
  pub others : (e : Entry) → Contains b.last.machine.entries e → is_doubted e.mark ≡ false →
      (MayComplete (broken_by s.broken) e → ⊥) → HasSame b.last.machine.pages new.machine.pages e

abbrev pub LossLeavesTransactions : Type 0
LossLeavesTransactions =
    (limits : Limits) (seen : ℕ → ℕ) (s : Session) (old new : RunState) (b : BreaksOff limits seen old s new) →
    IsConsistent b.last.machine → LeavesTransactions limits seen s old new b
