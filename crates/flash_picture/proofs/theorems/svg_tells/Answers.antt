use Rattle.flash_picture.proofs.SvgTells.{arrow_tells, svg_cell_tells, svg_label_tells, svg_walk_tells}
use Rattle.flash_picture.proofs.theorems.svg_tells.Goals as goal

pub returns : goal.returns
returns c = record { cells = svg_cell_tells; labels = svg_label_tells; walks = svg_walk_tells; arrows = arrow_tells }
