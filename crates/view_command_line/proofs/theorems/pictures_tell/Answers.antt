mod Pictures
use Rattle.std.proofs.Common.{◌∙◌, ◌++◌, false, ap}
use Rattle.std.proofs.lemmas.Bool.{cond-false, le-ltb}
use Rattle.tx_types.specs.Config.{shape_of, slots_of}
use Rattle.judged_records.specs.Images.{records_in}
use Rattle.judged_records.specs.Notes.{notes_of}
use Rattle.judged_records.proofs.OfLaws.NotedImages.{found_in_notes}
use Rattle.flash_picture.specs.Map.{map_text}
use Rattle.flash_picture.specs.OverviewSvg.{overview}
use Rattle.flash_picture.specs.Picture.{breach_line, cells_of, heading, picture}
use Rattle.flash_picture.specs.Walks.{walks_text}
use Rattle.flash_picture.proofs.PlaceTells.{place_tells}
use Rattle.flash_picture.proofs.WalkTells.{walk_says, walk_tells}
use Rattle.view_command_line.specs.Ending.{is_large}
use Rattle.view_command_line.proofs.theorems.pictures_tell.Answers.Pictures.{bare_tells, breach_tells, rows_tell, slots_tell}
use Rattle.view_command_line.proofs.theorems.pictures_tell.Goals as goal

pub returns-clause-rows : goal.returns-clause-rows
returns-clause-rows c = rows_tell

pub returns-clause-unsound : goal.returns-clause-unsound
returns-clause-unsound c = breach_tells

pub returns-clause-cells : goal.returns-clause-cells
returns-clause-cells c = slots_tell

pub returns-clause-bare : goal.returns-clause-bare
returns-clause-bare c = bare_tells

pub returns-clause-places : goal.returns-clause-places
returns-clause-places c = λ its image marks. place_tells its (notes_of its.protocol image) marks

pub returns-clause-walks : goal.returns-clause-walks
returns-clause-walks c = λ its image page. walk_tells its.protocol (records_in its.protocol image) its.logical page

pub returns-clause-lines : goal.returns-clause-lines
returns-clause-lines c = λ its image page. walk_says its.protocol (records_in its.protocol image) its.logical page

pub returns-clause-text : goal.returns-clause-text
unfolding picture
returns-clause-text c = λ its image marks few.
    cond-false (is_large its) (overview false its (notes_of its.protocol image) marks)
    (picture its (notes_of its.protocol image) marks) (le-ltb 512 (slots_of (shape_of its)) few)
    ∙ ap (λ list. heading its ++ map_text (shape_of its) (cells_of its (notes_of its.protocol image)) marks
    ++ walks_text its.protocol list its.logical
    ++ breach_line marks.breach) (found_in_notes its.protocol image)
