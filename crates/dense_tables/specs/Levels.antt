-- How the numbers stand in the fields of `MaxTree`.
use Rattle.std.specs.Prelude.{◌≡◌, ◌⊎◌, ℕ, zero, suc, ◌+◌, ◌*◌, ◌<◌, ◌≤◌, ◌^◌, List, length, take, drop, slice_index}
use Rattle.dense_tables.specs.Greatest.{greatest}
use Rattle.dense_tables.specs.declared.max_tree.MaxTree.TheInside.{Inside}

-- where a level begins that has this many levels above it, each of sixteen times as many cells as the one above it
abbrev pub level_start : ℕ → ℕ
level_start zero = 0
level_start (suc level) = 16 * level_start level + 1

-- the cells under a cell, sixteen at most
unfoldable pub under : List ℕ → ℕ → List ℕ
under cells cell = take 16 (drop (16 * cell + 1) cells)

-- the cell over the first `top` ones is not kept: the first one, or none
abbrev pub IsTop : ℕ → Type 0
IsTop top = (top ≡ 0) ⊎ (top ≡ 16)

-- each of these cells that is kept is the greatest of the cells under it
abbrev pub ArePeaks : List ℕ → ℕ → ℕ → Type 0
ArePeaks cells top count =
    (cell : ℕ) → top ≤ 16 * cell → cell < count → slice_index cells cell ≡ greatest (under cells cell)

-- this many levels stand above the numbers, which begin here, and each number or zero behind them is under a cell
pub record IsShape (levels start count : ℕ) : Type 0 where
  pub levels_least : 0 < levels
  pub begins : start ≡ level_start levels
  pub least : start ≤ count
  pub most : count ≤ 16 * start + 1
  pub small : count < 2 ^ 40

-- there are cells up to this one at least, and from it on each is 0
pub record IsFilled (cells : List ℕ) (end : ℕ) : Type 0 where
  pub within : end ≤ length cells
  pub zeros : (cell : ℕ) → end ≤ cell → slice_index cells cell ≡ 0

-- each cell above the numbers that is kept is the greatest of those under it, and behind the numbers all are 0
pub record MaxTreeInvariant (p : Inside) : Type 0 where
  pub shape : IsShape p.levels p.start (length p.cells.items)
  pub top : IsTop p.top
  pub peaks : ArePeaks p.cells.items p.top p.start
  pub filled : IsFilled p.cells.items (p.start + p.count)

-- the numbers
abbrev pub numbers_of : Inside → List ℕ
numbers_of p = take p.count (drop p.start p.cells.items)
