-- Where the cells of a picture stand.
use Rattle.flash_picture.proofs.Common.{◌≡◌, ℕ, zero, suc, ◌+◌, ◌<◌, ◌≤◌, List, ◌∷◌, ◌++◌, arith, codes, Config, shape_of, Note, found_in, Marks, slot_text, cells_of, grid_of}
use Rattle.std.proofs.Common.{◌*◌, ◌/◌, ◌%◌, subst}
use Rattle.std.proofs.lemmas.Grind.{div_ceil_times}
use Rattle.std.proofs.lemmas.Nat.{div-add-mod', div_below, le-div, mod_below, mul-le, row-Below}
use Rattle.std.proofs.Math.Nat.{le-max_left, suc-mul}
use Rattle.tx_types.specs.Config.{blocks_of, slots_of}
use Rattle.flash_picture.specs.declared.cell.Cell.{Cell}
use Rattle.flash_picture.specs.declared.grid.Grid.{Grid}
use Rattle.flash_picture.specs.Grid.{cells_in_row, rows_of_block, spot_of, top_of_block}
use Rattle.flash_picture.specs.Laws.{PlaceTells, Shows, cell_in_row}
use Rattle.flash_picture.specs.Map.{before_cell, block_text, cell_text, cells_text, die_text, map_text, padded, widest}
use Rattle.flash_picture.specs.Picture.{breach_line, heading, picture}
use Rattle.flash_picture.specs.Walks.{walks_text}
use Rattle.flash_picture.proofs.SvgTells.{shows_left, shows_piece, shows_right, shows_self, shows_through}

-- a product above a number has no factor 0
pub first_some : (a b n : ℕ) → n < a * b → 0 < a
first_some zero b n less = absurd (omega arith)
first_some (suc a) b n less = omega arith

pub second_some : (a b n : ℕ) → n < a * b → 0 < b
second_some a zero n less = absurd (omega arith)
second_some a (suc b) n less = omega arith

-- a number divided by a smaller one is no less than another one that is no greater
div-le : (m n k : ℕ) → 0 < k → m ≤ n → m / k ≤ n / k
div-le m n k some low = le-div (m / k) n k some (let whole = div-add-mod' m k in omega arith)

-- ---- in SVG

-- the lines of cells of a block end where those of the next one begin, or above
block_ends : (rows before block other dies dies_other line : ℕ) → line < rows → block < other → dies ≤ dies_other →
    before + 32 * dies + 36 * (block * rows) + 36 * line + 36 ≤ before + 32 * dies_other + 36 * (other * rows)
block_ends rows before block other dies dies_other line within later low =
    let most = mul-le (suc block) rows other rows (omega arith) (omega arith) in
    let one = suc-mul block rows in
    omega arith

lines_end : (top top_other line line_other : ℕ) → top + 36 * line + 36 ≤ top_other →
    top + 32 + 36 * line + 36 ≤ top_other + 32 + 36 * line_other
lines_end top top_other line line_other end = omega arith

less_than : (a b c : ℕ) → a < b → b ≤ c → a < c
less_than a b c less most = omega arith

module _ (grid : Grid) (slot other : ℕ) (pages : 0 < grid.shape.pages_per_block) (dies : 0 < grid.shape.blocks_per_die)
  where
    abbrev block : ℕ → ℕ
    block at = at / grid.shape.pages_per_block

    abbrev place : ℕ → ℕ
    place at = at % grid.shape.pages_per_block

    below : block slot < block other → (spot_of grid slot).top + 36 ≤ (spot_of grid other).top
    below later =
        let count = cells_in_row grid in
        let rows = rows_of_block grid in
        let some : 0 < count = omega (arith, le-max_left 1 (160 / (grid.columns + 4))) in
        let inside = less_than (place slot) grid.shape.pages_per_block (rows * count)
        (mod_below slot grid.shape.pages_per_block pages) (div_ceil_times grid.shape.pages_per_block count some).0 in
        let line = div_below (place slot) count rows some inside in
        lines_end (top_of_block grid (block slot)) (top_of_block grid (block other)) (place slot / count)
        (place other / count)
        (block_ends rows 132 (block slot) (block other) (block slot / grid.shape.blocks_per_die)
        (block other / grid.shape.blocks_per_die) (place slot / count) line later
        (div-le (block slot) (block other) grid.shape.blocks_per_die dies (omega arith)))

-- ---- as text

module _ (its : Config) (notes : List Note) (marks : Marks) (slot : ℕ) (there : slot < slots_of (shape_of its)) where
  abbrev cells : List Cell
  cells = cells_of its notes

  abbrev width : ℕ
  width = widest cells marks (slots_of (shape_of its))

  abbrev pages : ℕ
  pages = its.pages_per_block

  abbrev row : ℕ → List ℕ
  row = block_text (shape_of its) cells marks width

  some_pages : 0 < pages
  some_pages = first_some pages (blocks_of (shape_of its)) slot there

  some_blocks : 0 < its.blocks_per_die
  some_blocks = first_some its.blocks_per_die its.dies 0
      (second_some pages (blocks_of (shape_of its)) slot there)

  within : slot / pages < blocks_of (shape_of its)
  within = (row-Below slot pages pages (blocks_of (shape_of its)) there (omega arith)).1

  shows_row : Shows (picture its notes marks) (row (slot / pages))
  unfolding picture
  shows_row =
      let part = row (slot / pages) in
      let map = map_text (shape_of its) cells marks in
      let walks = walks_text its.protocol (found_in notes) its.logical in
      shows_left (heading its ++ map ++ walks) (breach_line marks.breach) part
      (shows_left (heading its ++ map) walks part
      (shows_right (heading its) map part
      (shows_piece row 0 (blocks_of (shape_of its)) (slot / pages) (omega arith) (omega (arith, within)))))

  shows_cell : Shows (row (slot / pages)) (cell_in_row its notes marks slot)
  shows_cell =
      let block = slot / pages in
      let at = slot % pages in
      let die = die_text (shape_of its) block in
      let all = cells_text (shape_of its) cells marks width block in
      let one = cell_text (shape_of its) cells marks width block at in
      let begun = before_cell marks width block at in
      let inside = mod_below slot pages some_pages in
      let same : block * pages + at ≡ slot = div-add-mod' slot pages in
      let cell = cell_in_row its notes marks slot in
      let own : Shows one cell = subst (λ k. Shows one (124 ∷ padded width (slot_text cells marks k))) same
      (shows_right begun (124 ∷ padded width (slot_text cells marks (block * pages + at)))
      (124 ∷ padded width (slot_text cells marks (block * pages + at)))
      (shows_self (124 ∷ padded width (slot_text cells marks (block * pages + at))))) in
      shows_left (die ++ all) (codes "|\n") cell
      (shows_right die all cell
      (shows_through all one cell
      (shows_piece (cell_text (shape_of its) cells marks width block) 0 pages at (omega arith) (omega arith)) own))

  pub place_tells : PlaceTells its notes marks slot
  place_tells = record {
    row = shows_row;
    cell = shows_cell;
    below = λ other later. below (grid_of (shape_of its) cells marks) slot other some_pages some_blocks later;
  }
