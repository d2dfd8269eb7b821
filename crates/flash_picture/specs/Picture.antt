-- The picture of a flash as text.
use Rattle.std.specs.Prelude.{ℕ, List, [], ◌++◌, map, Option, Some, None, codes}
use Rattle.std.specs.Fmt.{decimal}
use Rattle.tx_types.specs.declared.config.Config.{Config}
use Rattle.tx_types.specs.declared.config.Protocol.{Protocol}
use Rattle.tx_types.specs.declared.config.Protocol.TheVariants.{Scc, Bpcc}
use Rattle.tx_types.specs.declared.config.Shape.{Shape}
use Rattle.tx_types.specs.Config.{shape_of}
use Rattle.record_list.specs.declared.found.Breach.{Breach}
use Rattle.record_list.specs.declared.found.Found.{Found}
use Rattle.judged_records.specs.declared.note.Note.{Note}
use Rattle.judged_records.specs.Notes.{found_in}
use Rattle.flash_picture.specs.declared.cell.Cell.{Cell}
use Rattle.flash_picture.specs.declared.marks.Marks.{Marks}
use Rattle.flash_picture.specs.Cells.{cell_of}
use Rattle.flash_picture.specs.Map.{map_text}
use Rattle.flash_picture.specs.Walks.{walks_text}

abbrev pub protocol_word : Protocol → List ℕ
protocol_word Scc = codes "scc"
protocol_word Bpcc = codes "bpcc"

-- the first line: the protocol, and the numbers of the device
abbrev pub heading : Config → List ℕ
heading its =
    protocol_word its.protocol ++ codes ", " ++ (decimal its.logical ++ codes " pages, dies of ")
    ++ (decimal its.blocks_per_die ++ codes " blocks of ") ++ (decimal its.pages_per_block ++ codes " slots\n")

-- the cells of slots of which this is noted
abbrev pub cells_of : Config → List Note → List Cell
cells_of its notes = map (cell_of its.protocol (found_in notes) its.logical) notes

-- the last line, where a law is broken: the law, and the slot that it names
abbrev pub breach_line : Option Breach → List ℕ
breach_line None = []
breach_line (Some breach) =
    codes "unsound law " ++ (decimal breach.law ++ codes " slot ") ++ (decimal breach.slot.0 ++ codes "\n")

-- the picture of records with these cells: the first line, the map, the walks, and the law that is broken
abbrev pub parts : Config → Shape → List Found → List Cell → Marks → List ℕ
parts its shape list cells marks =
    heading its ++ map_text shape cells marks ++ walks_text its.protocol list its.logical ++ breach_line marks.breach

-- the picture of a device whose slots are noted so
unfoldable pub picture : Config → List Note → Marks → List ℕ
picture its notes marks = parts its (shape_of its) (found_in notes) (cells_of its notes) marks
