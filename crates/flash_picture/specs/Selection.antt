-- What is said of the slots that a selection names.
use Rattle.std.specs.Prelude.{ℕ, ◌/◌, ◌==◌, Bool, false, if◌then◌else◌, List, [], ◌++◌, codes}
use Rattle.std.specs.List.{flat_map, join_with_byte, range_with_len}
use Rattle.tx_types.specs.declared.config.Config.{Config}
use Rattle.tx_types.specs.declared.config.Protocol.{Protocol}
use Rattle.tx_types.specs.declared.config.Shape.{Shape}
use Rattle.tx_types.specs.Config.{shape_of, slots_of}
use Rattle.record_list.specs.declared.found.Found.{Found}
use Rattle.judged_records.specs.declared.note.Note.{Note}
use Rattle.judged_records.specs.Notes.{found_in}
use Rattle.flash_picture.specs.declared.cell.Cell.{Cell}
use Rattle.flash_picture.specs.declared.cell.Cell.TheVariants.{Blank, Damaged, Holds}
use Rattle.flash_picture.specs.declared.marks.Marks.{Marks}
use Rattle.flash_picture.specs.declared.selection.Selection.{Selection}
use Rattle.flash_picture.specs.declared.selection.Selection.TheVariants as chosen
use Rattle.flash_picture.specs.Cells.{cell_at}
use Rattle.flash_picture.specs.Map.{label_words}
use Rattle.flash_picture.specs.Picture.{breach_line, cells_of, heading}
use Rattle.flash_picture.specs.Svg.{is_in_view, slot_title}
use Rattle.flash_picture.specs.Walks.{end_of, walk_line, walks_text}

abbrev pub is_of_page : ℕ → Cell → Bool
is_of_page page Blank = false
is_of_page page Damaged = false
is_of_page page (Holds rec rank held) = rec.page == page

-- whether a selection names a slot, which has this cell
abbrev pub is_selected : Shape → Selection → Cell → ℕ → Bool
is_selected shape (chosen.Block block) cell slot = slot / shape.pages_per_block == block
is_selected shape (chosen.Page page) cell slot = is_of_page page cell
is_selected shape chosen.Loose cell slot = is_in_view cell

-- the line of a slot: the label of its block, and what a pointer shows at its cell in SVG
abbrev pub slot_line : Shape → List Cell → Marks → ℕ → List ℕ
slot_line shape cells marks slot =
    join_with_byte 32 (label_words marks (slot / shape.pages_per_block)) ++ codes " " ++ slot_title cells marks slot
    ++ codes "\n"

-- a line, where a slot is selected
abbrev pub line_if : Bool → List ℕ → List ℕ
line_if there line = if there then line else []

abbrev pub selected_line : Shape → List Cell → Marks → Selection → ℕ → List ℕ
selected_line shape cells marks selection slot =
    line_if (is_selected shape selection (cell_at cells slot) slot) (slot_line shape cells marks slot)

-- the lines of the slots that are selected, in order
abbrev pub selected_lines : Shape → List Cell → Marks → Selection → List ℕ
selected_lines shape cells marks selection =
    flat_map (selected_line shape cells marks selection) (range_with_len 0 (slots_of shape))

-- the walks of a selection: none of a block, that of a page, if its newest version does not count, and all of loose
-- records
abbrev pub selected_walks : Protocol → List Found → ℕ → Selection → List ℕ
selected_walks protocol list logical (chosen.Block block) = []
selected_walks protocol list logical (chosen.Page page) =
    walk_line list logical page (end_of protocol list logical page)
selected_walks protocol list logical chosen.Loose = walks_text protocol list logical

-- what is said of records with these cells
abbrev pub selected_parts : Config → Shape → List Found → List Cell → Marks → Selection → List ℕ
selected_parts its shape list cells marks selection =
    heading its ++ selected_lines shape cells marks selection
    ++ selected_walks its.protocol list its.logical selection ++ breach_line marks.breach

-- what is said of a device whose slots are noted so
unfoldable pub selected : Config → List Note → Marks → Selection → List ℕ
selected its notes marks selection =
    selected_parts its (shape_of its) (found_in notes) (cells_of its notes) marks selection
