-- A run in which power is not cut and nothing fails: its states, and its replies but for what
-- `collect`, `stats` and `explain` tell of the flash, are functions of the commands and of the
-- pages that are spent at each, and of how many transactions go on at once.
use Rattle.std.specs.Prelude.{◌≡◌, ◌⊎◌, ◌↔◌, ℕ, ◌+◌, ◌<◌, ◌≤◌, Bool, List, [], ◌∷◌, length, take, count_by, sum_by, nat_lt, Option, None, Some, IsSome}
use Rattle.std.specs.Prelude.{if◌then◌else◌}
use Rattle.tx_types.specs.Limits.{max_version}
use Rattle.tx_types.specs.declared.stats.Stats.{Stats}
use Rattle.array_machine.specs.ArrayState.{ArrayState, entry_of, page_at}
use Rattle.array_machine.specs.Collect.{TellsStats}
use Rattle.array_machine.specs.Submit.{Limits, answer, opened, refusal, is_of}
use Rattle.array_machine.specs.UnbrokenCalls.{step_answer, stepped, stepped_each, is_ending, finish_answer, finished, abort_answer, aborted_from}
use Rattle.host_protocol.specs.declared.command.Command.{Command}
use Rattle.host_protocol.specs.declared.command.Command.TheVariants as command
use Rattle.host_protocol.specs.declared.reply.Reply.{Reply}
use Rattle.host_protocol.specs.declared.reply.Reply.TheVariants as reply
use Rattle.array_runs.specs.Run.{MayBeSpent, TellsReport, submit_reply, step_reply, abort_reply, seen_after, writes_in}

-- What the flash hands in at a command: the pages that are spent, and how many transactions go on
-- where several do at once.
pub record Handed : Type 0 where
  pub spent : ℕ → Bool
  pub moved : ℕ

-- the reply to a read of a page with these contents
abbrev pub page_reply : ℕ → Option (List ℕ) → Reply
page_reply page None = reply.Blank page
page_reply page (Some bytes) = reply.Page page bytes

-- The reply to a command. Whether a block was collected, some of the numbers of the device and the
-- report are not functions of the array; all else is.
abbrev pub IsReply : Limits → Handed → Command → ArrayState → Reply → Type 0
IsReply limits handed (command.Read page) s r =
    r ≡ (if nat_lt page limits.logical then page_reply page (page_at s.pages page)
    else reply.RefusedRange page)
IsReply limits handed (command.Write tag batch) s r =
    r ≡ submit_reply tag (length batch.entries)
    (answer (refusal limits handed.spent s.entries tag batch.entries))
IsReply limits handed (command.Step tag) s r =
    r ≡ step_reply tag (step_answer (entry_of tag s.entries))
IsReply limits handed (command.Finish tag) s r =
    r ≡ step_reply tag (finish_answer (entry_of tag s.entries))
IsReply limits handed (command.Abort tag) s r =
    r ≡ abort_reply tag (abort_answer (entry_of tag s.entries))
IsReply limits handed command.StepAll s r =
    (r ≡ reply.Moved handed.moved (count_by is_ending (take handed.moved s.entries)))
    × (handed.moved ≤ length s.entries) × ((handed.moved ≡ 0) ↔ (s.entries ≡ []))
IsReply limits handed command.Collect s r = (r ≡ reply.Collected) ⊎ (r ≡ reply.Nothing)
IsReply limits handed command.Stats s r = (told : Stats) × TellsStats s told × (r ≡ reply.Stats told)
IsReply limits handed command.Explain s r = TellsReport r
IsReply limits handed (command.Cut count what) s r = r ≡ reply.Armed
IsReply limits handed (command.Fault count what) s r = r ≡ reply.Armed
IsReply limits handed (command.BadRead count) s r = r ≡ reply.Armed

-- the state that a command leaves
abbrev pub state_after : Limits → Handed → Command → ArrayState → ArrayState
state_after limits handed (command.Write tag batch) s =
    opened (refusal limits handed.spent s.entries tag batch.entries) tag batch.entries s
state_after limits handed (command.Step tag) s = stepped (entry_of tag s.entries) tag s
state_after limits handed (command.Finish tag) s = finished (entry_of tag s.entries) tag s
state_after limits handed (command.Abort tag) s = aborted_from (entry_of tag s.entries) tag s
state_after limits handed command.StepAll s = stepped_each (take handed.moved s.entries) s
state_after limits handed _ s = s

-- the commands on this state, with what is handed in at each and their replies, leave that state
abbrev pub UnbrokenRun : Limits → List Handed → ArrayState → List Command → List Reply →
    ArrayState → Type 0
UnbrokenRun limits [] old [] [] new = new ≡ old
UnbrokenRun limits (handed ∷ hands) old (c ∷ cs) (r ∷ rs) new =
    IsReply limits handed c old r
    × UnbrokenRun limits hands (state_after limits handed c old) cs rs new
UnbrokenRun limits _ old _ _ new = ⊥

-- each of these may be the pages that are spent at its command, where `seen` is at least the
-- greatest mention of each page
abbrev pub AreMaybeSpent : (ℕ → ℕ) → List Command → List Reply → List Handed → Type 0
AreMaybeSpent seen [] [] [] = Unit {0}
AreMaybeSpent seen (c ∷ cs) (r ∷ rs) (handed ∷ hands) =
    MayBeSpent seen handed.spent × AreMaybeSpent (seen_after seen c r) cs rs hands
AreMaybeSpent seen _ _ _ = ⊥

-- in how many entries of the writes among these commands a page stands
abbrev pub times_written : ℕ → List Command → ℕ
times_written page cs = sum_by (λ c. count_by (is_of page) (writes_in c)) cs

-- no page comes to its last version by these commands
abbrev pub VersionsSuffice : (ℕ → ℕ) → List Command → Type 0
VersionsSuffice seen cs = (page : ℕ) → seen page + times_written page cs < max_version

-- a finish of an open transaction replies that it is done
abbrev pub FinishIsDone : Command → ArrayState → Reply → Type 0
FinishIsDone (command.Finish tag) s r = IsSome (entry_of tag s.entries) → r ≡ reply.Done tag
FinishIsDone _ s r = Unit {0}

-- each finish among the commands on this state does
abbrev pub FinishesAreDone : Limits → List Handed → ArrayState → List Command → List Reply →
    Type 0
FinishesAreDone limits (handed ∷ hands) s (c ∷ cs) (r ∷ rs) =
    FinishIsDone c s r × FinishesAreDone limits hands (state_after limits handed c s) cs rs
FinishesAreDone limits _ s _ _ = Unit {0}
