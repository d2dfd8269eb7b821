-- The overview of a flash of many slots in SVG: a small square for each slot, a row for each block, and the dies beside
-- each other.
use Rattle.std.specs.Prelude.{ℕ, ◌+◌, ◌*◌, ◌/◌, ◌%◌, max, Bool, nat_lt, if◌then◌else◌, Option, None, Some, List, [], ◌++◌, codes}
use Rattle.std.specs.List.{flat_map, join_with_byte, range_with_len}
use Rattle.std.specs.Fmt.{decimal}
use Rattle.tx_types.specs.declared.config.Config.{Config}
use Rattle.tx_types.specs.declared.config.Shape.{Shape}
use Rattle.tx_types.specs.Config.{blocks_of, shape_of, slots_of}
use Rattle.record_list.specs.declared.found.Breach.{Breach}
use Rattle.record_list.specs.declared.found.Found.{Found}
use Rattle.judged_records.specs.declared.note.Note.{Note}
use Rattle.judged_records.specs.Notes.{found_in}
use Rattle.flash_picture.specs.declared.cell.Cell.{Cell}
use Rattle.flash_picture.specs.declared.grid.Spot.{Spot}
use Rattle.flash_picture.specs.declared.kind.Kind.{Kind}
use Rattle.flash_picture.specs.declared.kind.Kind.TheVariants as kind
use Rattle.flash_picture.specs.declared.marks.Marks.{Marks}
use Rattle.flash_picture.specs.Cells.{cell_at}
use Rattle.flash_picture.specs.Kinds.{all_kinds, count_of, is_of, kind_word}
use Rattle.flash_picture.specs.Map.{label_words}
use Rattle.flash_picture.specs.Overview.{overview_text}
use Rattle.flash_picture.specs.Picture.{cells_of, heading}
use Rattle.flash_picture.specs.Pieces.{beside, group, point, rectangle, title, words_at}
use Rattle.flash_picture.specs.Svg.{head, lines_at, slot_title, walks_svg, walks_take}

-- ---- where squares stand

-- the width of a die: 64 for the label of a block, six for each slot of a row, and eight between two dies
abbrev pub die_width : Shape → ℕ
die_width shape = 72 + 6 * shape.pages_per_block

-- where a die begins
abbrev pub left_of_die : Shape → ℕ → ℕ
left_of_die shape die = 8 + die * die_width shape

-- where the row of a block begins: eight below that of the block before it in the die
abbrev pub top_of_row : Shape → ℕ → ℕ
top_of_row shape block = 140 + 8 * (block % shape.blocks_per_die)

-- where the square of this number in a block stands
abbrev pub square_in : Shape → ℕ → ℕ → Spot
square_in shape block at = record {
  left = left_of_die shape (block / shape.blocks_per_die) + 64 + 6 * at;
  top = top_of_row shape block;
}

-- where the square of a slot stands
abbrev pub square_of : Shape → ℕ → Spot
square_of shape slot = square_in shape (slot / shape.pages_per_block) (slot % shape.pages_per_block)

-- where the label of a block stands
abbrev pub label_spot : Shape → ℕ → Spot
label_spot shape block = record {
  left = left_of_die shape (block / shape.blocks_per_die);
  top = top_of_row shape block + 6;
}

-- where the heading of a die stands
abbrev pub die_spot : Shape → ℕ → Spot
die_spot shape die = record { left = left_of_die shape die; top = 134 }

-- the width of an overview: that of its dies, and of the legend at least
abbrev pub overview_width : Shape → ℕ
overview_width shape = max 640 (left_of_die shape shape.dies)

-- where the rows end
abbrev pub overview_bottom : Shape → ℕ
overview_bottom shape = 144 + 8 * shape.blocks_per_die

abbrev pub overview_height : Shape → ℕ → ℕ
overview_height shape lines = overview_bottom shape + 20 * (lines + 2)

-- ---- above the rows

-- how the classes look here
unfoldable pub overview_style : List ℕ
overview_style =
    codes "<style>path,g:hover path{stroke-width:5;marker-end:none;visibility:visible}"
    ++ codes "path.held,path.discard,g:hover path.held,g:hover path.discard{stroke-width:1}"
    ++ codes "path.current{stroke:#6cbf63}path.loose{stroke:#f09020}path.stale{stroke:#b4b4b4}"
    ++ codes "path.damaged{stroke:#d9483b}path.blank{stroke:#ececec}path.held{stroke:#0a62b5}"
    ++ codes "path.discard{stroke:#222}.block text,.spare text{font-size:7px}.blank text{fill:#222}"
    ++ codes "rect{fill-opacity:1}.current rect{fill:#6cbf63}.loose rect{fill:#f09020}"
    ++ codes ".stale rect{fill:#b4b4b4}.damaged rect{fill:#d9483b}"
    ++ codes ".blank rect{fill:#ececec}.slot rect,[class~='!'] rect{fill-opacity:0}.slot rect{stroke:none}"
    ++ codes ".slot:hover rect{stroke:#222}[class~='!'] rect{stroke-width:2}"
    ++ codes "@media(prefers-color-scheme:dark){path.current{stroke:#3f9447}path.loose{stroke:#e0861a}"
    ++ codes "path.stale{stroke:#5c6168}path.damaged{stroke:#c04a40}path.blank{stroke:#262a30}"
    ++ codes "path.held{stroke:#6ab0ff}path.discard{stroke:#ddd}.blank text{fill:#ddd}.blank rect{fill:#262a30}"
    ++ codes ".current rect{fill:#3f9447}.loose rect{fill:#e0861a}.stale rect{fill:#5c6168}"
    ++ codes ".damaged rect{fill:#c04a40}"
    ++ codes ".slot:hover rect{stroke:#ddd}}</style>\n"

-- where the legend tells of a kind
abbrev pub entry_spot : Kind → Spot
entry_spot kind.Current = record { left = 8; top = 34 }
entry_spot kind.Loose = record { left = 8; top = 56 }
entry_spot kind.Stale = record { left = 8; top = 78 }
entry_spot kind.Blank = record { left = 8; top = 100 }
entry_spot kind.Damaged = record { left = 268; top = 34 }
entry_spot kind.Held = record { left = 268; top = 56 }
entry_spot kind.Discard = record { left = 268; top = 78 }

-- how a kind is drawn that is no colour
abbrev pub kind_line_words : Kind → List ℕ
kind_line_words kind.Current = []
kind_line_words kind.Loose = []
kind_line_words kind.Stale = []
kind_line_words kind.Damaged = []
kind_line_words kind.Blank = []
kind_line_words kind.Held = codes ", a line below"
kind_line_words kind.Discard = codes ", a line across"

-- what the legend says of a kind: how many slots are of it
abbrev pub entry_text : Shape → List Cell → Kind → List ℕ
entry_text shape cells kind =
    kind_word kind ++ kind_line_words kind ++ codes ": " ++ decimal (count_of cells kind 0 (slots_of shape))

abbrev pub entry_inside : Shape → List Cell → Kind → List ℕ
entry_inside shape cells kind =
    rectangle (entry_spot kind) 16 12 ++ words_at (beside (entry_spot kind) 22 10) (entry_text shape cells kind)

abbrev pub entry_svg : Shape → List Cell → Kind → List ℕ
entry_svg shape cells kind = group (kind_word kind) (entry_inside shape cells kind)

-- the head, the first line of the overview as text, and the legend
abbrev pub overview_above : Config → Shape → List Cell → ℕ → List ℕ
overview_above its shape cells lines =
    head (overview_width shape) (overview_height shape lines) ++ overview_style
    ++ words_at (record { left = 8; top = 20 }) (heading its) ++ flat_map (entry_svg shape cells) all_kinds

-- ---- the rows

-- the heading of a die
abbrev pub die_words : ℕ → List ℕ
die_words die = codes "die " ++ decimal die

abbrev pub die_svg : Shape → ℕ → List ℕ
die_svg shape die = group (codes "die") (words_at (die_spot shape die) (die_words die))

-- how far below the top of a square its line is drawn
abbrev pub line_offset : Kind → ℕ
line_offset kind.Current = 3
line_offset kind.Loose = 3
line_offset kind.Stale = 3
line_offset kind.Damaged = 3
line_offset kind.Blank = 3
line_offset kind.Held = 6
line_offset kind.Discard = 3

-- the line of a square
abbrev pub dash : Shape → ℕ → Kind → ℕ → List ℕ
dash shape block kind at =
    codes "M" ++ point (beside (square_in shape block at) 0 (line_offset kind)) ++ codes "h5"

-- the same where the slot is of the kind
abbrev pub dash_if : Shape → List Cell → ℕ → Kind → ℕ → List ℕ
dash_if shape cells block kind at =
    if is_of kind (cell_at cells (block * shape.pages_per_block + at)) then dash shape block kind at else []

-- the lines of all slots of a block that are of a kind
abbrev pub dashes : Shape → List Cell → ℕ → Kind → List ℕ
dashes shape cells block kind =
    flat_map (dash_if shape cells block kind) (range_with_len 0 shape.pages_per_block)

abbrev pub kind_svg : Shape → List Cell → ℕ → Kind → List ℕ
kind_svg shape cells block kind =
    codes "<path class='" ++ kind_word kind ++ codes "' d='" ++ dashes shape cells block kind ++ codes "'/>"

-- how many slots of a block are of a kind
abbrev pub count_words : Shape → List Cell → ℕ → Kind → List ℕ
count_words shape cells block kind =
    codes " " ++ kind_word kind ++ codes " "
    ++ decimal (count_of cells kind (block * shape.pages_per_block) shape.pages_per_block)

-- the label of a block
abbrev pub label_of : Marks → ℕ → List ℕ
label_of marks block = join_with_byte 32 (label_words marks block)

-- what a pointer shows at a row: the label, and how many of the slots are of each kind
abbrev pub row_title : Shape → List Cell → Marks → ℕ → List ℕ
row_title shape cells marks block = label_of marks block ++ flat_map (count_words shape cells block) all_kinds

-- a flash of more slots has no titles for single slots
abbrev pub most_titled : ℕ
most_titled = 4096

-- what a pointer shows at the square of this number in a block
abbrev pub pointed_inside : Shape → List Cell → Marks → ℕ → ℕ → List ℕ
pointed_inside shape cells marks block at =
    title (slot_title cells marks (block * shape.pages_per_block + at)) ++ rectangle (square_in shape block at) 6 8

abbrev pub pointed : Shape → List Cell → Marks → ℕ → ℕ → List ℕ
pointed shape cells marks block at = group (codes "slot") (pointed_inside shape cells marks block at)

abbrev pub pointed_slots : Shape → List Cell → Marks → ℕ → List ℕ
pointed_slots shape cells marks block =
    if nat_lt most_titled (slots_of shape) then []
    else flat_map (pointed shape cells marks block) (range_with_len 0 shape.pages_per_block)

-- the row of a block: its label, lines for all kinds, and what a pointer shows
abbrev pub row_inside : Shape → List Cell → Marks → ℕ → List ℕ
row_inside shape cells marks block =
    title (row_title shape cells marks block) ++ words_at (label_spot shape block) (label_of marks block)
    ++ flat_map (kind_svg shape cells block) all_kinds ++ pointed_slots shape cells marks block

abbrev pub row_svg : Shape → List Cell → Marks → ℕ → List ℕ
row_svg shape cells marks block = group (label_of marks block) (row_inside shape cells marks block)

-- a frame around the slot that a broken law names
abbrev pub named_svg : Shape → Option Breach → List ℕ
named_svg shape None = []
named_svg shape (Some breach) = group (codes "!") (rectangle (square_of shape breach.slot.0) 6 8)

abbrev pub squares : Shape → List Cell → Marks → List ℕ
squares shape cells marks =
    flat_map (die_svg shape) (range_with_len 0 shape.dies)
    ++ flat_map (row_svg shape cells marks) (range_with_len 0 (blocks_of shape)) ++ named_svg shape marks.breach

-- ---- the whole

-- the overview of records with these cells
abbrev pub overview_svg : Config → Shape → List Found → List Cell → Marks → List ℕ
overview_svg its shape list cells marks =
    overview_above its shape cells (walks_take its.protocol list its.logical its.logical)
    ++ squares shape cells marks
    ++ lines_at (overview_bottom shape) (walks_svg its.protocol list its.logical) marks.breach ++ codes "</svg>\n"

-- in SVG or as text
abbrev pub overview_by : Bool → Config → Shape → List Found → List Cell → Marks → List ℕ
overview_by in_svg its shape list cells marks =
    if in_svg then overview_svg its shape list cells marks else overview_text its shape list cells marks

-- the overview of a device whose slots are noted so
unfoldable pub overview : Bool → Config → List Note → Marks → List ℕ
overview in_svg its notes marks = overview_by in_svg its (shape_of its) (found_in notes) (cells_of its notes) marks
