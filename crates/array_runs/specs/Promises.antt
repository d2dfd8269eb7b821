-- What a command promises of the array and of the open transactions.
use Rattle.std.specs.Prelude.{◌≡◌, ◌≢◌, ℕ, ◌≤◌, ◌==◌, Bool, false, count_by}
use Rattle.array_machine.specs.ArrayState.{ArrayState, has_tag, is_doubted}
use Rattle.host_protocol.specs.declared.command.Command.{Command}
use Rattle.host_protocol.specs.declared.command.Command.TheVariants as command
use Rattle.host_protocol.specs.declared.reply.Reply.{Reply}
use Rattle.host_protocol.specs.declared.reply.Reply.TheVariants as reply

-- at most one open transaction is in doubt
abbrev pub HasOneDoubt : ArrayState → Type 0
HasOneDoubt s = count_by (λ e. is_doubted e.mark) s.entries ≤ 1

-- at most one open transaction has this tag
abbrev pub HasOneOf : ℕ → ArrayState → Type 0
HasOneOf tag s = count_by (has_tag tag) s.entries ≤ 1

-- the command writes pages of the transaction with this tag
abbrev pub WritesOf : Command → ℕ → Type 0
WritesOf (command.Step own) tag = own ≡ tag
WritesOf (command.Finish own) tag = own ≡ tag
WritesOf _ tag = ⊥

-- the reply says that a transaction with this tag was opened
abbrev pub opens_tag : ℕ → Reply → Bool
opens_tag tag (reply.Opened own pages) = own == tag
opens_tag tag _ = false

-- The command leaves the array: it opens a transaction, tells something of the device, sets an arm,
-- or reads, and power was not cut in the read.
abbrev pub LeavesArray : Command → Reply → Type 0
LeavesArray (command.Read page) r = r ≢ reply.Cut
LeavesArray (command.Write tag batch) r = Unit {0}
LeavesArray (command.Step tag) r = ⊥
LeavesArray (command.Finish tag) r = ⊥
LeavesArray (command.Abort tag) r = ⊥
LeavesArray command.StepAll r = ⊥
LeavesArray command.Collect r = ⊥
LeavesArray command.Stats r = Unit {0}
LeavesArray command.Explain r = Unit {0}
LeavesArray (command.Cut count what) r = Unit {0}
LeavesArray (command.Fault count what) r = Unit {0}
LeavesArray (command.BadRead count) r = Unit {0}

-- and the open transactions too, where it opens none
abbrev pub LeavesState : Command → Reply → Type 0
LeavesState (command.Write tag batch) r = ⊥
LeavesState c r = LeavesArray c r
