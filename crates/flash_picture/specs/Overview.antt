-- The overview of a flash of many slots as text: a letter for each slot, and how many slots are of each kind.
use Rattle.std.specs.Prelude.{ℕ, ◌+◌, ◌*◌, ◌%◌, ◌==◌, Bool, if◌then◌else◌, List, [], ◌∷◌, ◌++◌, replicate, codes}
use Rattle.std.specs.List.{flat_map, join_with_byte, range_with_len}
use Rattle.std.specs.Fmt.{decimal}
use Rattle.tx_types.specs.declared.config.Config.{Config}
use Rattle.tx_types.specs.declared.config.Shape.{Shape}
use Rattle.tx_types.specs.Config.{blocks_of, slots_of}
use Rattle.record_list.specs.declared.found.Found.{Found}
use Rattle.flash_picture.specs.declared.cell.Cell.{Cell}
use Rattle.flash_picture.specs.declared.cell.Cell.TheVariants.{Blank, Damaged, Holds}
use Rattle.flash_picture.specs.declared.cell.Rank.{Rank}
use Rattle.flash_picture.specs.declared.cell.Rank.TheVariants.{Current, Loose, Stale}
use Rattle.flash_picture.specs.declared.kind.Kind.{Kind}
use Rattle.flash_picture.specs.declared.kind.Kind.TheVariants as kind
use Rattle.flash_picture.specs.declared.marks.Marks.{Marks}
use Rattle.flash_picture.specs.Cells.{cell_at, is_named}
use Rattle.flash_picture.specs.Kinds.{all_kinds, count_of, kind_word}
use Rattle.flash_picture.specs.Map.{die_text, label_columns, label_words, padded}
use Rattle.flash_picture.specs.Picture.{breach_line, heading}
use Rattle.flash_picture.specs.Walks.{walks_text}

-- the letter of a record: c, l or s by its rank, a capital where it is held
abbrev pub rank_letter : Rank → Bool → ℕ
rank_letter Current held = if held then 67 else 99
rank_letter Loose held = if held then 76 else 108
rank_letter Stale held = if held then 83 else 115

-- the letter of a slot with this cell: a dot where it is blank, and x where it has nothing that can be read
abbrev pub letter : Cell → ℕ
letter Blank = 46
letter Damaged = 120
letter (Holds rec rank held) = rank_letter rank held

-- the letter of a slot, or a `!` where a broken law names it
abbrev pub sign_at : List Cell → Marks → ℕ → ℕ
sign_at cells marks slot = if is_named marks.breach slot then 33 else letter (cell_at cells slot)

-- how many letters stand in a line
abbrev pub signs_in_line : ℕ
signs_in_line = 64

-- what stands before the letter of this number in its block: before the first one the label; before any other one
-- that begins a line the end of the line before it
abbrev pub before_sign : Marks → ℕ → ℕ → List ℕ
before_sign marks block at =
    if at == 0 then padded label_columns (join_with_byte 32 (label_words marks block))
    else if at % signs_in_line == 0 then codes "\n" ++ replicate label_columns 32
    else []

-- the letter of this number in its block
abbrev pub sign_text : Shape → List Cell → Marks → ℕ → ℕ → List ℕ
sign_text shape cells marks block at =
    before_sign marks block at ++ sign_at cells marks (block * shape.pages_per_block + at) ∷ []

-- the letters of a block
abbrev pub signs_text : Shape → List Cell → Marks → ℕ → List ℕ
signs_text shape cells marks block =
    flat_map (sign_text shape cells marks block) (range_with_len 0 shape.pages_per_block)

-- the same, below the heading of its die if it is the first one there
abbrev pub row_text : Shape → List Cell → Marks → ℕ → List ℕ
row_text shape cells marks block = die_text shape block ++ signs_text shape cells marks block ++ codes "\n"

-- ---- the legend

-- the letters of a kind
abbrev pub kind_letters : Kind → List ℕ
kind_letters kind.Current = codes "c "
kind_letters kind.Loose = codes "l "
kind_letters kind.Stale = codes "s "
kind_letters kind.Damaged = codes "x "
kind_letters kind.Blank = codes ". "
kind_letters kind.Held = codes "C L S "
kind_letters kind.Discard = []

-- a line of the legend: how many slots are of a kind
abbrev pub count_text : Shape → List Cell → Kind → List ℕ
count_text shape cells kind =
    kind_letters kind ++ kind_word kind ++ codes " " ++ decimal (count_of cells kind 0 (slots_of shape)) ++ codes "\n"

abbrev pub counts_text : Shape → List Cell → List ℕ
counts_text shape cells = flat_map (count_text shape cells) all_kinds

-- ---- the whole

abbrev pub rows_text : Shape → List Cell → Marks → List ℕ
rows_text shape cells marks = flat_map (row_text shape cells marks) (range_with_len 0 (blocks_of shape))

-- the overview of records with these cells: the first line of a picture, the letters, how many slots are of each kind,
-- the walks, and the law that is broken
abbrev pub overview_text : Config → Shape → List Found → List Cell → Marks → List ℕ
overview_text its shape list cells marks =
    heading its ++ rows_text shape cells marks ++ counts_text shape cells ++ walks_text its.protocol list its.logical
    ++ breach_line marks.breach
