use Rattle.std.proofs.Common.{◌∙◌, ◌++◌, true, false, ap, lt-ltb}
use Rattle.std.proofs.lemmas.Bool.{cond-true}
use Rattle.tx_types.specs.Config.{shape_of, slots_of}
use Rattle.judged_records.specs.Notes.{notes_of}
use Rattle.judged_records.proofs.OfLaws.NotedImages.{found_in_notes}
use Rattle.flash_picture.specs.Overview.{counts_text, rows_text}
use Rattle.flash_picture.specs.OverviewSvg.{overview}
use Rattle.flash_picture.specs.Picture.{breach_line, cells_of, heading, picture}
use Rattle.flash_picture.specs.Svg.{svg}
use Rattle.flash_picture.specs.Walks.{walks_text}
use Rattle.flash_picture.proofs.OverviewTells.{sign_tells, square_tells}
use Rattle.view_command_line.specs.Ending.{is_large}
use Rattle.view_command_line.proofs.theorems.overviews_tell.Goals as goal

pub returns-clause-text : goal.returns-clause-text
unfolding overview
returns-clause-text c = λ its image marks many.
    let cells = cells_of its (notes_of its.protocol image) in
    cond-true (is_large its) (overview false its (notes_of its.protocol image) marks)
    (picture its (notes_of its.protocol image) marks) (lt-ltb 512 (slots_of (shape_of its)) many)
    ∙ ap (λ list. heading its ++ rows_text (shape_of its) cells marks ++ counts_text (shape_of its) cells
    ++ walks_text its.protocol list its.logical ++ breach_line marks.breach) (found_in_notes its.protocol image)

pub returns-clause-svg : goal.returns-clause-svg
returns-clause-svg c = λ its image marks many.
    cond-true (is_large its) (overview true its (notes_of its.protocol image) marks)
    (svg its (notes_of its.protocol image) marks) (lt-ltb 512 (slots_of (shape_of its)) many)

pub returns-clause-signs : goal.returns-clause-signs
returns-clause-signs c = λ its image marks. sign_tells its (notes_of its.protocol image) marks

pub returns-clause-squares : goal.returns-clause-squares
returns-clause-squares c = λ its image marks. square_tells its (notes_of its.protocol image) marks
