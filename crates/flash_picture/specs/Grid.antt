-- Where the cells of a picture stand: numbers of pixels, from the left edge and from the top.
use Rattle.std.specs.Prelude.{ℕ, ◌+◌, ◌*◌, ◌/◌, ◌%◌, ◌≤◌, max, min}
use Rattle.std.specs.Int.{div_ceil}
use Rattle.tx_types.specs.Config.{IsShape, blocks_of}
use Rattle.flash_picture.specs.declared.grid.Grid.{Grid}
use Rattle.flash_picture.specs.declared.grid.Spot.{Spot}

-- a cell is drawn as wide as this many columns of text at most: the longest text of a slot of an image has no more
abbrev pub most_columns : ℕ
most_columns = 53

-- the grid of a flash
pub record IsGrid (grid : Grid) : Type 0 where
  pub shape : IsShape grid.shape
  pub columns : grid.columns ≤ most_columns

-- from a cell to the next one in its line: eight for each column, and for four more between the two
abbrev pub pitch : Grid → ℕ
pitch grid = 8 * (grid.columns + 4)

-- the width of a cell: eight for each column, and for two more
abbrev pub cell_width : Grid → ℕ
cell_width grid = 8 * (grid.columns + 2)

-- how many cells stand in a line: as many as have room in 160 columns, and one at least
abbrev pub cells_in_row : Grid → ℕ
cells_in_row grid = max 1 (160 / (grid.columns + 4))

-- how many lines the cells of a block take
abbrev pub rows_of_block : Grid → ℕ
rows_of_block grid = div_ceil grid.shape.pages_per_block (cells_in_row grid)

-- where a block begins: below the legend, the headings of the dies before, and the lines of the blocks before
abbrev pub top_of_block : Grid → ℕ → ℕ
top_of_block grid block =
    132 + 32 * (block / grid.shape.blocks_per_die) + 36 * (block * rows_of_block grid)

-- where the cell of this number in a block stands, below the heading of its die
abbrev pub spot_in : Grid → ℕ → ℕ → Spot
spot_in grid block at = record {
  left = 104 + pitch grid * (at % cells_in_row grid);
  top = top_of_block grid block + 32 + 36 * (at / cells_in_row grid);
}

-- where the cell of a slot stands
abbrev pub spot_of : Grid → ℕ → Spot
spot_of grid slot =
    spot_in grid (slot / grid.shape.pages_per_block) (slot % grid.shape.pages_per_block)

-- the width of a picture: that of its lines of cells, and of the legend at least
abbrev pub width : Grid → ℕ
width grid = max 800 (104 + pitch grid * min (cells_in_row grid) grid.shape.pages_per_block)

-- the bottom of the map
abbrev pub bottom : Grid → ℕ
bottom grid = top_of_block grid (blocks_of grid.shape)

-- the height of a picture with this many lines of walks
abbrev pub height : Grid → ℕ → ℕ
height grid lines = bottom grid + 20 * (lines + 2)
