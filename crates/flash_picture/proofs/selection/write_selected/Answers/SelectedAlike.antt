-- What is said of records in order of their names is that of the list.
use Rattle.flash_picture.proofs.Common.{◌≡◌, ℕ, List, ◌++◌, map, refl, ap, ◌∙◌, Config, Protocol, shape_of, Found, Sorts, Note, found_in, Cell, Marks, cell_of, end_of, walk_line}
use Rattle.flash_picture.specs.declared.selection.Selection.{Selection}
use Rattle.flash_picture.specs.declared.selection.Selection.TheVariants as chosen
use Rattle.flash_picture.specs.Picture.{breach_line, heading}
use Rattle.flash_picture.specs.Selection.{selected, selected_lines, selected_parts, selected_walks}
use Rattle.flash_picture.proofs.Alike.{cells_alike, walks_alike}
use Rattle.flash_picture.proofs.Shown.{end_alike, line_alike}

module _ (list sorted : List Found) (is : Sorts list sorted) where
  selected_alike : (protocol : Protocol) (logical : ℕ) (selection : Selection) →
      selected_walks protocol sorted logical selection ≡ selected_walks protocol list logical selection
  selected_alike protocol logical (chosen.Block block) = refl
  selected_alike protocol logical (chosen.Page page) =
      line_alike list sorted is logical page (end_of protocol sorted logical page)
      ∙ ap (walk_line list logical page) (end_alike list sorted is protocol logical page)
  selected_alike protocol logical chosen.Loose = walks_alike list sorted is protocol logical

pub selected_drawn : (its : Config) (notes : List Note) (marks : Marks) (selection : Selection) (sorted : List Found)
    (cells : List Cell) (old new : List ℕ) →
    Sorts (found_in notes) sorted → cells ≡ map (cell_of its.protocol sorted its.logical) notes →
    new ≡ old ++ selected_parts its (shape_of its) sorted cells marks selection →
    new ≡ old ++ selected its notes marks selection
unfolding selected
selected_drawn its notes marks selection sorted cells old new is cells_are drawn =
    let list = found_in notes in
    drawn ∙ ap (λ t. old ++ t)
    (ap (λ w. heading its ++ selected_lines (shape_of its) cells marks selection ++ w ++ breach_line marks.breach)
    (selected_alike list sorted is its.protocol its.logical selection)
    ∙ ap (λ cs. selected_parts its (shape_of its) list cs marks selection) (cells_are
    ∙ cells_alike list sorted is its notes refl))
