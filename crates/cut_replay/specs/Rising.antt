-- That the pages of a transaction which is answered as done are at later versions.
use Rattle.std.specs.Prelude.{◌≡◌, ◌<◌, All, IfSome, take}
use Rattle.tx_types.specs.declared.config.Config.{Config}
use Rattle.flash_model.specs.Operations.{Moment}
use Rattle.judged_records.specs.Images.{current_in}
use Rattle.array_machine.specs.ArrayState.{ArrayState, Entry, entry_of}
use Rattle.array_machine.specs.Step.{IsAtLast}
use Rattle.array_machine.specs.declared.mark.Mark.TheVariants.{Plain}
use Rattle.host_protocol.specs.declared.command.Command.{Command}
use Rattle.host_protocol.specs.declared.command.Command.TheVariants as command
use Rattle.host_protocol.specs.declared.reply.Reply.{Reply}
use Rattle.host_protocol.specs.declared.reply.Reply.TheVariants as reply

-- the current version of each page of a transaction rose, if it was neither whole before nor in doubt
abbrev pub RaisesPages : Config → Moment → Moment → Entry → Type 0
RaisesPages its old new e =
    e.mark ≡ Plain → All (λ w. w.page < its.logical →
    current_in its.protocol its.logical old.image w.page < current_in its.protocol its.logical new.image w.page)
    e.writes

-- so did those of each that went on and was at its last page
abbrev pub RaisesMoved : Config → ArrayState → Reply → Moment → Moment → Type 0
RaisesMoved its s (reply.Moved moved finished) old new =
    All (λ e. IsAtLast e → RaisesPages its old new e) (take moved s.entries)
RaisesMoved its s _ old new = Unit {0}

-- A transaction that is answered as done, or was finished with others, has each of its pages at a later version in the
-- image, also where none of its bytes changed.
abbrev pub RaisesCommand : Config → Command → ArrayState → Reply → Moment → Moment → Type 0
RaisesCommand its (command.Step tag) s r old new =
    r ≡ reply.Done tag → IfSome (entry_of tag s.entries) (RaisesPages its old new)
RaisesCommand its (command.Finish tag) s r old new =
    r ≡ reply.Done tag → IfSome (entry_of tag s.entries) (RaisesPages its old new)
RaisesCommand its command.StepAll s r old new = RaisesMoved its s r old new
RaisesCommand its _ s r old new = Unit {0}
