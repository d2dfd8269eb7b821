-- The picture in SVG of records in order of their names is that of the list.
use Rattle.flash_picture.proofs.Common.{◌≡◌, ℕ, None, List, ◌++◌, map, cond, codes, refl, ap, ap₂, ◌∙◌, flat_map, range_with_len, Config, shape_of, Found, Sorts, Note, found_in, Cell, Blank, Damaged, Holds, Marks, cell_at, cell_of, slot_text, height, above, arrow_svg, cells_svg, die_heading, drawing, grid_of, label_svg, lines_svg, visible_arrows_svg, walks_svg, walks_take}
use mathlib.Core.Path.{fun_ext}
use Rattle.tx_types.specs.Config.{blocks_of, slots_of}
use Rattle.flash_picture.specs.declared.grid.Grid.{Grid}
use Rattle.flash_picture.specs.Grid.{cell_width, spot_of, width}
use Rattle.flash_picture.specs.Pieces.{beside, group, rectangle, title, words_at}
use Rattle.flash_picture.specs.Svg.{arrow_to, first_slot, is_in_view, map_svg, slot_title, svg, target, visible_arrow_to}
use Rattle.flash_picture.proofs.Alike.{cells_alike}
use Rattle.flash_picture.proofs.SvgWalks.{svg_walks_alike, take_alike}

module _ (list sorted : List Found) (is : Sorts list sorted) where
  target_alike : (cell : Cell) → target sorted cell ≡ target list cell
  target_alike Blank = refl
  target_alike Damaged = refl
  target_alike (Holds rec rank held) = ap first_slot (is.stable rec.next)

  arrow_alike : (grid : Grid) (cells : List Cell) (slot : ℕ) →
      arrow_svg grid sorted cells slot ≡ arrow_svg grid list cells slot
  arrow_alike grid cells slot = ap (arrow_to grid slot) (target_alike (cell_at cells slot))

  views_alike : (grid : Grid) (cells : List Cell) (marks : Marks) →
      visible_arrows_svg grid sorted cells marks ≡ visible_arrows_svg grid list cells marks
  views_alike grid cells marks =
      ap (λ f. flat_map f (range_with_len 0 (slots_of grid.shape)))
      (fun_ext (λ slot. ap (λ to. visible_arrow_to grid (slot_text cells marks slot) slot
      (cond (is_in_view (cell_at cells slot)) to None))
      (target_alike (cell_at cells slot))))

  drawn_alike : (grid : Grid) (cells : List Cell) (marks : Marks) →
      cells_svg grid sorted cells marks ≡ cells_svg grid list cells marks
  drawn_alike grid cells marks =
      ap (λ f. flat_map f (range_with_len 0 (slots_of grid.shape)))
      (fun_ext (λ slot. ap (λ arrow. group (slot_text cells marks slot)
      (title (slot_title cells marks slot) ++ arrow ++ rectangle (beside (spot_of grid slot) 0 10) (cell_width grid) 24
      ++ words_at (beside (spot_of grid slot) 8 26) (slot_text cells marks slot)))
      (arrow_alike grid cells slot)))

  map_alike : (grid : Grid) (cells : List Cell) (marks : Marks) →
      map_svg grid sorted cells marks ≡ map_svg grid list cells marks
  map_alike grid cells marks =
      ap₂ (λ views drawn. flat_map (die_heading grid) (range_with_len 0 grid.shape.dies)
      ++ flat_map (label_svg grid marks) (range_with_len 0 (blocks_of grid.shape)) ++ views ++ drawn)
      (views_alike grid cells marks) (drawn_alike grid cells marks)

  pub drawing_alike : (its : Config) (grid : Grid) (cells : List Cell) (marks : Marks) →
      drawing its grid sorted cells marks ≡ drawing its grid list cells marks
  drawing_alike its grid cells marks =
      let lines = lines_svg grid (walks_svg its.protocol sorted its.logical) marks.breach in
      ap (λ n. above its (width grid) (height grid n) ++ map_svg grid sorted cells marks ++ lines ++ codes "</svg>\n")
      (take_alike list sorted is its.protocol its.logical its.logical)
      ∙ ap₂ (λ m w. above its (width grid) (height grid (walks_take its.protocol list its.logical its.logical))
      ++ m ++ lines_svg grid w marks.breach ++ codes "</svg>\n")
      (map_alike grid cells marks) (svg_walks_alike list sorted is its.protocol its.logical)

-- a picture that is drawn of the records in order of their names
pub svg_drawn : (its : Config) (notes : List Note) (marks : Marks) (sorted : List Found) (cells : List Cell)
    (old new : List ℕ) →
    Sorts (found_in notes) sorted → cells ≡ map (cell_of its.protocol sorted its.logical) notes →
    new ≡ old ++ drawing its (grid_of (shape_of its) cells marks) sorted cells marks → new ≡ old ++ svg its notes marks
unfolding svg
svg_drawn its notes marks sorted cells old new is cells_are drawn =
    let list = found_in notes in
    drawn ∙ ap (λ t. old ++ t)
    (drawing_alike list sorted is its (grid_of (shape_of its) cells marks) cells marks
    ∙ ap (λ cs. drawing its (grid_of (shape_of its) cs marks) list cs marks) (cells_are
    ∙ cells_alike list sorted is its notes refl))
