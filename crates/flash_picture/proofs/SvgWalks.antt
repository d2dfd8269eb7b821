-- The lines of walks in SVG of records in order of their names are those of the list.
use Rattle.flash_picture.proofs.Common.{◌≡◌, ℕ, zero, suc, ◌+◌, List, refl, ap, ap₂, ◌∙◌, flat_map, range_with_len, Protocol, Found, Sorts, walk_rows, walk_takes, walks_svg, walks_take, line_end}
use mathlib.Core.Path.{fun_ext}
use Rattle.flash_picture.proofs.Shown.{line_end_alike, rows_alike, takes_alike}

module _ (list sorted : List Found) (is : Sorts list sorted) where
  pub take_alike : (protocol : Protocol) (logical pages : ℕ) → walks_take protocol sorted logical pages
      ≡ walks_take protocol list logical pages
  take_alike protocol logical zero = refl
  take_alike protocol logical (suc pages) =
      ap₂ (λ a b. a + b) (take_alike protocol logical pages)
      (takes_alike list sorted is logical pages (line_end protocol sorted logical pages) ∙
      ap (walk_takes list logical pages) (line_end_alike list sorted is protocol logical pages))

  pub svg_walks_alike : (protocol : Protocol) (logical : ℕ) → walks_svg protocol sorted logical
      ≡ walks_svg protocol list logical
  svg_walks_alike protocol logical =
      ap (λ f. flat_map f (range_with_len 0 logical))
      (fun_ext (λ page. rows_alike list sorted is logical page (line_end protocol sorted logical page)
      ∙ ap (walk_rows list logical page) (line_end_alike list sorted is protocol logical page)))
