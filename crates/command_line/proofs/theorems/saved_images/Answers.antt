use Rattle.std.proofs.Common.{sym, ◌∙◌}
use Rattle.command_line.proofs.ArrayRuns.{left_sound, left_stands, left_array, begins_again}
use Rattle.command_line.proofs.theorems.saved_images.Goals as goal

pub returns-clause-sound : goal.returns-clause-sound
returns-clause-sound c = left_sound

pub returns-clause-stands : goal.returns-clause-stands
returns-clause-stands c = left_stands

pub returns-clause-array : goal.returns-clause-array
returns-clause-array c = left_array

pub returns-clause-read : goal.returns-clause-read
returns-clause-read c = λ its left extras bytes read fits spells reads. sym reads.0
    ∙ (c.spelled_images.ensures bytes its left extras fits).1 spells

pub returns-clause-again : goal.returns-clause-again
returns-clause-again c = begins_again
