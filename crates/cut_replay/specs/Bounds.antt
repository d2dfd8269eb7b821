-- How many cuts and faults a run has: no more than were to come and were armed, and no more than
-- the flash counts. A fault by which transactions were dropped is one of them.
use Rattle.std.specs.Prelude.{◌≡◌, ◌⊎◌, ℕ, ◌+◌, ◌≤◌, false, List, [], ◌∷◌, count_by, All, Option, Some, MatchBool, if◌then◌else◌}
use Rattle.flash_model.specs.Flash.{FlashState, Told, IsSteady, counted_by}
use Rattle.flash_model.specs.Calls.{BothTell, Rose}
use Rattle.host_protocol.specs.declared.command.Command.{Command}
use Rattle.host_protocol.specs.declared.command.Command.TheVariants as command
use Rattle.host_protocol.specs.declared.reply.Reply.{Reply}
use Rattle.array_runs.specs.Run.{is_break}
use Rattle.mounted_session.specs.Spending.{IsSpent}
use Rattle.array_runs.specs.Breaks.{is_cut, is_fault, arms_cut, arms_fault, AreFew}

-- how many cuts and faults a command arms
abbrev pub cuts_armed : Command → ℕ
cuts_armed c = if arms_cut c then 1 else 0

abbrev pub faults_armed : Command → ℕ
faults_armed c = if arms_fault c then 1 else 0

-- the command and its reply use up a cut or a fault, or an arm brings one
abbrev pub IsSpentBy : Command → Reply → Told → Told → Type 0
IsSpentBy c r old new = IsSpent (is_cut r) (is_fault r) (cuts_armed c) (faults_armed c) old new

-- and with what is to come still, of all commands
pub record AreSpent (cs : List Command) (rs : List Reply) (old new : Told) : Type 0 where
  pub few : AreFew old.cuts old.breaks cs rs
  pub cuts : count_by is_cut rs + new.cuts ≤ old.cuts + count_by arms_cut cs
  pub breaks : count_by is_fault rs + new.breaks ≤ old.breaks + count_by arms_fault cs

-- where a flash tells what is to come, this many cuts and faults were met
abbrev pub SpendsTold : List Command → List Reply → Option Told → Option Told → Type 0
SpendsTold cs rs old new = BothTell (AreSpent cs rs) old new

-- the count of faults rose, or stood at its end, where a break is told, and else is as it was
abbrev pub CountsBreak : Reply → ℕ → ℕ → Type 0
CountsBreak r before now = MatchBool (is_break r) (Rose before now) (now ≡ before)

-- nothing breaks before the first command: power is off, so that nothing is mounted before it, or
-- the flash is live and tells that no break is to come
abbrev pub BeginsUnbroken : FlashState → Type 0
BeginsUnbroken s = (s.live ≡ false) ⊎ IsSteady s

-- The count of faults rose at least by the number of breaks among the replies, up to the end of its
-- type. Where none is a break, and nothing breaks before the first command, it is as it was.
pub record CountsBreaks (rs : List Reply) (old new : FlashState) : Type 0 where
  pub least : counted_by (count_by is_break rs) old.faults ≤ new.faults
  pub quiet : BeginsUnbroken old → All (λ r. is_break r ≡ false) rs → new.faults ≡ old.faults

-- where the last command is an arm, a flash that tells its arms has it set
abbrev pub IsSet : Command → Told → Type 0
IsSet (command.Cut count what) told = told.cut ≡ Some (record { count = count; outcome = what })
IsSet (command.Fault count what) told = told.fault ≡ Some (record { count = count; outcome = what })
IsSet (command.BadRead count) told = told.bad_read ≡ Some count
IsSet _ told = Unit {0}

abbrev pub LastIsSet : List Command → Told → Type 0
LastIsSet [] told = Unit {0}
LastIsSet (c ∷ []) told = IsSet c told
LastIsSet (c ∷ cs) told = LastIsSet cs told
