use Rattle.std.proofs.Common.{refl}
use Rattle.judged_records.specs.Notes.{notes_of}
use Rattle.flash_picture.proofs.SelectionTells.{selection_tells}
use Rattle.view_command_line.proofs.theorems.selections_tell.Goals as goal

pub returns-clause-text : goal.returns-clause-text
returns-clause-text c = λ its image marks selection. refl

pub returns-clause-lines : goal.returns-clause-lines
returns-clause-lines c = λ its image marks selection.
    selection_tells its (notes_of its.protocol image) marks selection
