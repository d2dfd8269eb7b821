use Rattle.std.proofs.Common.{true}
use Rattle.std.proofs.lemmas.Bool.{cond-false, le-ltb}
use Rattle.tx_types.specs.Config.{shape_of, slots_of}
use Rattle.judged_records.specs.Notes.{notes_of}
use Rattle.flash_picture.specs.OverviewSvg.{overview}
use Rattle.flash_picture.specs.Svg.{svg}
use Rattle.view_command_line.specs.Ending.{is_large}
use Rattle.flash_picture.proofs.SvgTells.{arrow_tells, svg_cell_tells, svg_label_tells, svg_walk_tells}
use Rattle.view_command_line.proofs.theorems.svgs_tell.Goals as goal

pub returns-clause-text : goal.returns-clause-text
returns-clause-text c = λ its image marks few.
    cond-false (is_large its) (overview true its (notes_of its.protocol image) marks)
    (svg its (notes_of its.protocol image) marks) (le-ltb 512 (slots_of (shape_of its)) few)

pub returns-clause-cells : goal.returns-clause-cells
returns-clause-cells c = λ its image marks. svg_cell_tells its (notes_of its.protocol image) marks

pub returns-clause-labels : goal.returns-clause-labels
returns-clause-labels c = λ its image marks. svg_label_tells its (notes_of its.protocol image) marks

pub returns-clause-walks : goal.returns-clause-walks
returns-clause-walks c = λ its image marks. svg_walk_tells its (notes_of its.protocol image) marks

pub returns-clause-arrows : goal.returns-clause-arrows
returns-clause-arrows c = λ its image marks. arrow_tells its (notes_of its.protocol image) marks
