-- Which replies tell of a cut or a fault, after which nothing is open, and which commands arm one.
use Rattle.std.specs.Prelude.{ℕ, ◌+◌, ◌≤◌, Bool, true, false, List, take, count_by}
use Rattle.host_protocol.specs.declared.command.Command.{Command}
use Rattle.host_protocol.specs.declared.command.Command.TheVariants as command
use Rattle.host_protocol.specs.declared.reply.Reply.{Reply}
use Rattle.host_protocol.specs.declared.reply.Reply.TheVariants as reply

abbrev pub is_cut : Reply → Bool
is_cut reply.Cut = true
is_cut _ = false

abbrev pub is_fault : Reply → Bool
is_fault reply.Fault = true
is_fault reply.Dropped = true
is_fault _ = false

-- nothing is open any more
abbrev pub is_lost : Reply → Bool
is_lost reply.Cut = true
is_lost reply.Dropped = true
is_lost _ = false

abbrev pub arms_cut : Command → Bool
arms_cut (command.Cut count what) = true
arms_cut _ = false

abbrev pub arms_fault : Command → Bool
arms_fault (command.Fault count what) = true
arms_fault (command.BadRead count) = true
arms_fault _ = false

-- among the replies to the first `j` commands there are at most as many cuts and faults as were to come and were armed
-- among these
abbrev pub AreFew : ℕ → ℕ → List Command → List Reply → Type 0
AreFew cuts breaks cs rs =
    (j : ℕ) →
    (count_by is_cut (take j rs) ≤ cuts + count_by arms_cut (take j cs))
    × (count_by is_fault (take j rs) ≤ breaks + count_by arms_fault (take j cs))
