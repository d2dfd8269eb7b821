-- The overview of records in order of their names is that of the list.
use Rattle.flash_picture.proofs.Common.{◌≡◌, ℕ, Bool, true, false, List, ◌++◌, map, refl, ap, ap₂, ◌∙◌, codes, Config, shape_of, Found, Sorts, Note, found_in, Cell, Marks, cell_of}
use Rattle.tx_types.specs.declared.config.Shape.{Shape}
use Rattle.flash_picture.specs.Overview.{counts_text, rows_text}
use Rattle.flash_picture.specs.OverviewSvg.{overview, overview_above, overview_bottom, overview_by, squares}
use Rattle.flash_picture.specs.Picture.{breach_line, heading}
use Rattle.flash_picture.specs.Svg.{lines_at}
use Rattle.flash_picture.proofs.Alike.{cells_alike, walks_alike}
use Rattle.flash_picture.proofs.SvgWalks.{svg_walks_alike, take_alike}

module _ (list sorted : List Found) (is : Sorts list sorted) where
  overview_alike : (in_svg : Bool) (its : Config) (shape : Shape) (cells : List Cell) (marks : Marks) →
      overview_by in_svg its shape sorted cells marks ≡ overview_by in_svg its shape list cells marks
  overview_alike true its shape cells marks =
      ap₂ (λ n w. overview_above its shape cells n ++ squares shape cells marks
      ++ lines_at (overview_bottom shape) w marks.breach ++ codes "</svg>\n")
      (take_alike list sorted is its.protocol its.logical its.logical)
      (svg_walks_alike list sorted is its.protocol its.logical)
  overview_alike false its shape cells marks =
      ap (λ w. heading its ++ rows_text shape cells marks ++ counts_text shape cells ++ w ++ breach_line marks.breach)
      (walks_alike list sorted is its.protocol its.logical)

pub overview_drawn : (its : Config) (notes : List Note) (marks : Marks) (in_svg : Bool) (sorted : List Found)
    (cells : List Cell) (old new : List ℕ) →
    Sorts (found_in notes) sorted → cells ≡ map (cell_of its.protocol sorted its.logical) notes →
    new ≡ old ++ overview_by in_svg its (shape_of its) sorted cells marks →
    new ≡ old ++ overview in_svg its notes marks
unfolding overview
overview_drawn its notes marks in_svg sorted cells old new is cells_are drawn =
    let list = found_in notes in
    drawn ∙ ap (λ t. old ++ t)
    (overview_alike list sorted is in_svg its (shape_of its) cells marks
    ∙ ap (λ cs. overview_by in_svg its (shape_of its) list cs marks) (cells_are
    ∙ cells_alike list sorted is its notes refl))
