-- The map of a flash: a row for each block, under a heading for each die, and a cell for each slot.
use Rattle.std.specs.Prelude.{ℕ, zero, suc, ◌+◌, ◌-◌, ◌*◌, ◌/◌, ◌%◌, ◌==◌, max, Bool, false, if◌then◌else◌, Option, Some, None, List, [], ◌∷◌, ◌++◌, length}
use Rattle.std.specs.Prelude.{replicate, codes}
use Rattle.std.specs.List.{flat_map, join_with_byte, range_with_len}
use Rattle.std.specs.Fmt.{decimal}
use Rattle.tx_types.specs.declared.config.Block.{Block}
use Rattle.tx_types.specs.declared.config.Shape.{Shape}
use Rattle.tx_types.specs.Config.{blocks_of, slots_of}
use Rattle.flash_picture.specs.declared.cell.Cell.{Cell}
use Rattle.flash_picture.specs.declared.marks.Marks.{Marks}
use Rattle.flash_picture.specs.Cells.{slot_text}

-- the columns of a line, and those of the label before a row
abbrev pub columns : ℕ
columns = 80

abbrev pub label_columns : ℕ
label_columns = 11

-- a text with spaces behind it, up to a width
abbrev pub padded : ℕ → List ℕ → List ℕ
padded width text = text ++ replicate (width - length text) 32

-- the greatest length of the texts of the first slots
abbrev pub widest : List Cell → Marks → ℕ → ℕ
widest cells marks zero = 0
widest cells marks (suc slots) = max (widest cells marks slots) (length (slot_text cells marks slots))

-- how many cells of a width stand in a line: as many as have room, each with a bar before it, and one at least
abbrev pub cells_in_line : ℕ → ℕ
cells_in_line width = max 1 ((columns - 1 - label_columns) / (width + 1))

-- whether a block is the spare
abbrev pub is_spare : Option Block → ℕ → Bool
is_spare None block = false
is_spare (Some spare) block = spare.0 == block

abbrev pub label_word : Bool → List ℕ
label_word spare = if spare then codes "spare" else codes "block"

-- the words of the label of a block
abbrev pub label_words : Marks → ℕ → List (List ℕ)
label_words marks block = label_word (is_spare marks.spare block) ∷ decimal block ∷ []

-- what stands before the cell of this number in its block: before the first one the label; before any other
-- one that begins a line the end of the line before it
abbrev pub before_cell : Marks → ℕ → ℕ → ℕ → List ℕ
before_cell marks width block at =
    if at == 0 then padded label_columns (join_with_byte 32 (label_words marks block))
    else if at % cells_in_line width == 0 then codes "|\n" ++ replicate label_columns 32
    else []

-- the cell of this number in its block
abbrev pub cell_text : Shape → List Cell → Marks → ℕ → ℕ → ℕ → List ℕ
cell_text shape cells marks width block at =
    before_cell marks width block at
    ++ 124 ∷ padded width (slot_text cells marks (block * shape.pages_per_block + at))

-- the heading of a die, before its first block
abbrev pub die_text : Shape → ℕ → List ℕ
die_text shape block =
    if block % shape.blocks_per_die == 0
    then codes "die " ++ decimal (block / shape.blocks_per_die) ++ 10 ∷ []
    else []

-- the cells of a block
abbrev pub cells_text : Shape → List Cell → Marks → ℕ → ℕ → List ℕ
cells_text shape cells marks width block =
    flat_map (cell_text shape cells marks width block) (range_with_len 0 shape.pages_per_block)

-- the row of a block
abbrev pub block_text : Shape → List Cell → Marks → ℕ → ℕ → List ℕ
block_text shape cells marks width block =
    die_text shape block ++ cells_text shape cells marks width block ++ codes "|\n"

-- the map
abbrev pub map_text : Shape → List Cell → Marks → List ℕ
map_text shape cells marks =
    flat_map (block_text shape cells marks (widest cells marks (slots_of shape)))
    (range_with_len 0 (blocks_of shape))
