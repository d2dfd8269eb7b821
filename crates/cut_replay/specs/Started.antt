-- The operations of a command: those that it did, and the one that was broken.
use Rattle.std.specs.Prelude.{Bool, true, false, List, [], ◌∷◌, ◌++◌}
use mathlib.Core.Logic.{inl, inr}
use Rattle.tx_types.specs.declared.config.Config.{Config}
use Rattle.tx_types.specs.declared.config.Shape.{Shape}
use Rattle.tx_types.specs.Config.{shape_of}
use Rattle.flash_model.specs.Operations.{Operation, Moment, fire}
use Rattle.flash_model.specs.Moves.{Ends, Moves, MovesTogether}
use Rattle.host_protocol.specs.declared.command.Command.{Command}
use Rattle.host_protocol.specs.declared.reply.Reply.{Reply}
use Rattle.array_runs.specs.Run.{is_break}
use Rattle.cut_replay.specs.FlashRun.{MovesBy, is_together}

-- the one that was broken, if there is one
abbrev pub broken_in : (shape : Shape) (old : Moment) (broken : Bool) (new : Moment) → Ends shape old broken new →
    List Operation
broken_in shape old false new ends = []
broken_in shape old true new (inl same) = []
broken_in shape old true new (inr torn) = torn.0 ∷ []

-- programs and erases, the last of them broken or not
abbrev pub operations_of : (shape : Shape) (old : Moment) (broken : Bool) (new : Moment) → Moves shape old broken new →
    List Operation
operations_of shape old broken new moves = moves.done ++ broken_in shape moves.between broken new moves.ends

-- or behind them several programs that are started together
abbrev pub operations_by : (together : Bool) (shape : Shape) (old : Moment) (broken : Bool) (new : Moment) →
    MovesTogether together shape old broken new → List Operation
operations_by false shape old broken new moves = operations_of shape old broken new moves
operations_by true shape old broken new (inl moves) = operations_of shape old broken new moves
operations_by true shape old broken new (inr fires) =
    operations_of shape old false fires.between fires.moves ++ fire fires.loads ∷ []

-- those of a command
abbrev pub operations_in : (its : Config) (c : Command) (r : Reply) (old new : Moment) → MovesBy its c r old new →
    List Operation
operations_in its c r old new by = operations_by (is_together c) (shape_of its) old (is_break r) new by.moves
