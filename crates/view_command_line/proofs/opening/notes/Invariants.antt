use Rattle.std.proofs.Common.{◌≡◌, map, take}
use Rattle.judged_records.specs.Notes.{note_of}
use Rattle.view_command_line.proofs.opening.notes.Given as goal

abbrev pub invariant-loop-slot : goal.invariant-loop-slot
invariant-loop-slot l = l.notes.items ≡ map (note_of l.protocol) (take l.slot l.flash.image)
