-- The picture of a flash in SVG.
use Rattle.std.specs.Prelude.{ℕ, zero, suc, ◌+◌, ◌*◌, ◌||◌, min, nat_lt, Bool, true, false, if◌then◌else◌, Option, Some, None, List, [], ◌∷◌, ◌++◌, length, filter, codes}
use Rattle.std.specs.List.{flat_map, join_with_byte, range_with_len}
use Rattle.std.specs.Fmt.{decimal}
use Rattle.tx_types.specs.declared.config.Config.{Config}
use Rattle.tx_types.specs.declared.config.Protocol.{Protocol}
use Rattle.tx_types.specs.declared.config.Shape.{Shape}
use Rattle.tx_types.specs.declared.config.Slot.{Slot}
use Rattle.tx_types.specs.declared.record.Link.{Link}
use Rattle.tx_types.specs.Config.{blocks_of, shape_of, slots_of}
use Rattle.record_list.specs.declared.found.Breach.{Breach}
use Rattle.record_list.specs.declared.found.Found.{Found}
use Rattle.record_list.specs.Records.{has_name}
use Rattle.record_list.specs.Verdict.{newest_name}
use Rattle.judged_records.specs.declared.note.Note.{Note}
use Rattle.judged_records.specs.Notes.{found_in}
use Rattle.flash_picture.specs.declared.cell.Cell.{Cell}
use Rattle.flash_picture.specs.declared.cell.Cell.TheVariants.{Blank, Damaged, Holds}
use Rattle.flash_picture.specs.declared.cell.Rank.{Rank}
use Rattle.flash_picture.specs.declared.cell.Rank.TheVariants.{Current, Loose, Stale}
use Rattle.flash_picture.specs.declared.grid.Grid.{Grid}
use Rattle.flash_picture.specs.declared.grid.Spot.{Spot}
use Rattle.flash_picture.specs.declared.marks.Marks.{Marks}
use Rattle.flash_picture.specs.Cells.{cell_at, name_word, slot_text}
use Rattle.flash_picture.specs.Grid.{bottom, cell_width, height, most_columns, spot_of, top_of_block, width}
use Rattle.flash_picture.specs.Map.{label_words, widest}
use Rattle.flash_picture.specs.Picture.{breach_line, cells_of, heading}
use Rattle.flash_picture.specs.Pieces.{attribute, beside, curve, group, next_line, rectangle, title, words_at}
use Rattle.flash_picture.specs.declared.walk.End.{End}
use Rattle.flash_picture.specs.declared.walk.Step.{Step}
use Rattle.flash_picture.specs.Walks.{end_text, line_end, start_text, step_text, steps_of}

-- ---- above the map

-- how the classes look
unfoldable pub style : List ℕ
style =
    codes "<style>svg{max-width:100%;height:auto;background:#fff}text{font:12px monospace;fill:#222}"
    ++ codes "rect{fill:#fff;fill-opacity:.8;stroke:#888}"
    ++ codes "path{fill:none;stroke:#557;marker-end:url(#tip);visibility:hidden}"
    ++ codes ".arrow path,g:hover path{visibility:visible}g:hover path{stroke-width:3}.loose path{stroke:#b60}"
    ++ codes ".current rect{fill:#cdebc9}.loose rect{fill:#fde1b1}.stale rect{fill:#e4e4e4}"
    ++ codes ".held rect{stroke:#0a62b5;stroke-width:2}.discard rect{stroke-dasharray:5 2}"
    ++ codes ".damaged rect{fill:#f4c3c3}[class~='!'] rect{stroke:#c00;stroke-width:3}"
    ++ codes ".blank text{fill:#777}.die text,.spare text,.unsound{font-weight:bold}.spare text{fill:#1a4fb4}"
    ++ codes ".unsound{fill:#c00}@media(prefers-color-scheme:dark){svg{background:#16181c}rect{fill:#16181c}"
    ++ codes "text,polygon{fill:#ddd}path{stroke:#9aa7d8}.loose path{stroke:#f0a03c}.current rect{fill:#1d4a22}"
    ++ codes ".loose rect{fill:#5c4210}.stale rect{fill:#3a3d42}.held rect{stroke:#6ab0ff}"
    ++ codes ".damaged rect{fill:#5d2525}.blank text{fill:#888}.spare text{fill:#8ab4f8}.unsound{fill:#f66}}"
    ++ codes "</style>\n"

-- the tip of an arrow
unfoldable pub tip : List ℕ
tip =
    codes "<defs><marker id='tip' viewBox='0 0 8 8' refX='7' refY='4' markerWidth='7' "
    ++ codes "markerHeight='7' markerUnits='userSpaceOnUse' orient='auto'><polygon points='0,1 8,4 0,7'/>"
    ++ codes "</marker></defs>\n"

-- the head, of a picture of this width and height
abbrev pub head : ℕ → ℕ → List ℕ
head width height =
    codes "<svg xmlns='http://www.w3.org/2000/svg'" ++ attribute (codes "width") width
    ++ attribute (codes "height") height ++ codes " viewBox='0 0 " ++ decimal width ++ codes " " ++ decimal height
    ++ codes "'>\n" ++ style ++ tip

-- a line of the legend: what a class looks like, and what it says
unfoldable pub entry : List ℕ → ℕ → ℕ → List ℕ → List ℕ
entry class left top says =
    let spot : Spot = record { left = left; top = top } in
    group class (rectangle spot 16 12 ++ words_at (beside spot 22 10) says)

-- what the legend says of arrows
unfoldable pub link_entry : List ℕ
link_entry =
    group (codes "link")
    (words_at (record { left = 308; top = 110 }) (codes "arrow: to the record of a link; a pointer shows others"))

unfoldable pub legend : List ℕ
legend =
    entry (codes "current") 8 34 (codes "current: the version that counts")
    ++ entry (codes "loose") 8 56 (codes "loose: above the current version")
    ++ entry (codes "stale") 8 78 (codes "stale: below the current version")
    ++ entry (codes "held") 8 100 (codes "held: a loose record needs it")
    ++ entry (codes "discard") 308 34 (codes "discard: written to empty its page")
    ++ entry (codes "damaged") 308 56 (codes "damaged: nothing that can be read")
    ++ entry (codes "!") 308 78 (codes "!: a broken law names the slot")
    ++ link_entry

-- the head, the first line of the picture as text, and the legend
unfoldable pub above : Config → ℕ → ℕ → List ℕ
above its width height =
    head width height ++ words_at (record { left = 8; top = 20 }) (heading its) ++ legend

-- ---- the map

-- the heading of a die
abbrev pub die_heading : Grid → ℕ → List ℕ
die_heading grid die =
    group (codes "die")
    (words_at (record { left = 8; top = top_of_block grid (die * grid.shape.blocks_per_die) + 24 })
    (codes "die " ++ decimal die))

-- the label of a block, before its first line
abbrev pub label_svg : Grid → Marks → ℕ → List ℕ
label_svg grid marks block =
    let label = join_with_byte 32 (label_words marks block) in
    group label (words_at (record { left = 8; top = top_of_block grid block + 58 }) label)

-- what a record links to, and its back version
abbrev pub links_text : Cell → List ℕ
links_text Blank = []
links_text Damaged = []
links_text (Holds rec rank held) = codes ", link " ++ name_word rec.next ++ codes ", back " ++ decimal rec.back

-- what a pointer shows at the cell of a slot
abbrev pub slot_title : List Cell → Marks → ℕ → List ℕ
slot_title cells marks slot =
    codes "slot " ++ decimal slot ++ codes ": " ++ slot_text cells marks slot ++ links_text (cell_at cells slot)

-- ---- the arrows

-- the slot of the first of some records, if there is one
abbrev pub first_slot : List Found → Option Slot
first_slot [] = None
first_slot (f ∷ fs) = Some f.slot

-- the lowest slot of a record with this name, if there is one, in a list in the order of slots
abbrev pub slot_named : List Found → Link → Option Slot
slot_named list name = first_slot (filter (λ f. has_name name f.rec) list)

-- the slot to which the record of a cell links, if there is one
abbrev pub target : List Found → Cell → Option Slot
target list Blank = None
target list Damaged = None
target list (Holds rec rank held) = slot_named list rec.next

-- an arrow from the cell of a slot to that of another one, if there is one
abbrev pub arrow_to : Grid → ℕ → Option Slot → List ℕ
arrow_to grid slot None = []
arrow_to grid slot (Some to) = curve (spot_of grid slot) (spot_of grid to.0)

-- the arrow from the cell of a slot
abbrev pub arrow_svg : Grid → List Found → List Cell → ℕ → List ℕ
arrow_svg grid list cells slot = arrow_to grid slot (target list (cell_at cells slot))

abbrev pub is_loose_rank : Rank → Bool
is_loose_rank Current = false
is_loose_rank Loose = true
is_loose_rank Stale = false

-- whether the arrow from a cell is in view without a pointer: that of a loose record, and of one that is held
abbrev pub is_in_view : Cell → Bool
is_in_view Blank = false
is_in_view Damaged = false
is_in_view (Holds rec rank held) = is_loose_rank rank || held

-- the slot to which the record of a cell links, if there is one, and the arrow is in view
abbrev pub view_target : List Found → Cell → Option Slot
view_target list cell = if is_in_view cell then target list cell else None

-- an arrow in view, from the cell of a slot with these words to that of another one, if there is one
abbrev pub visible_arrow_to : Grid → List ℕ → ℕ → Option Slot → List ℕ
visible_arrow_to grid words slot None = []
visible_arrow_to grid words slot (Some to) = group (codes "arrow " ++ words) (arrow_to grid slot (Some to))

abbrev pub visible_arrow_svg : Grid → List Found → List Cell → Marks → ℕ → List ℕ
visible_arrow_svg grid list cells marks slot =
    visible_arrow_to grid (slot_text cells marks slot) slot (view_target list (cell_at cells slot))

abbrev pub visible_arrows_svg : Grid → List Found → List Cell → Marks → List ℕ
visible_arrows_svg grid list cells marks =
    flat_map (visible_arrow_svg grid list cells marks) (range_with_len 0 (slots_of grid.shape))

-- ---- the cells

-- the cell of a slot: its arrow, which a pointer shows, and a rectangle with the words of the slot, by which it has its
-- colours
abbrev pub cell_svg : Grid → List Found → List Cell → Marks → ℕ → List ℕ
cell_svg grid list cells marks slot =
    let spot = spot_of grid slot in
    group (slot_text cells marks slot)
    (title (slot_title cells marks slot) ++ arrow_svg grid list cells slot
    ++ rectangle (beside spot 0 10) (cell_width grid) 24 ++ words_at (beside spot 8 26) (slot_text cells marks slot))

abbrev pub cells_svg : Grid → List Found → List Cell → Marks → List ℕ
cells_svg grid list cells marks =
    flat_map (cell_svg grid list cells marks) (range_with_len 0 (slots_of grid.shape))

-- the map: the arrows that are in view pass under the words of all cells
abbrev pub map_svg : Grid → List Found → List Cell → Marks → List ℕ
map_svg grid list cells marks =
    flat_map (die_heading grid) (range_with_len 0 grid.shape.dies)
    ++ flat_map (label_svg grid marks) (range_with_len 0 (blocks_of grid.shape))
    ++ visible_arrows_svg grid list cells marks ++ cells_svg grid list cells marks

-- ---- below the map

-- a line of a walk is full with this many columns
abbrev pub full_columns : ℕ
full_columns = 80

-- what ends a line of a walk, and begins the next one
abbrev pub row_break : List ℕ
row_break = codes "</tspan>\n<tspan class='walk' x='40' dy='20'>"

-- a step behind this many columns: it stands in the next line where they are more than a full line has
abbrev pub step_row : ℕ → Step → List ℕ
step_row columns step = (if nat_lt full_columns columns then row_break else []) ++ step_text step

-- the columns of its line, with it
abbrev pub columns_with : ℕ → Step → ℕ
columns_with columns step =
    (if nat_lt full_columns columns then 0 else columns) + length (step_text step)

-- how many lines it begins
abbrev pub count_rows : ℕ → ℕ
count_rows columns = if nat_lt full_columns columns then 1 else 0

-- steps behind this many columns, and how many lines they begin
abbrev pub steps_rows : ℕ → List Step → List ℕ
steps_rows columns [] = []
steps_rows columns (step ∷ steps) = step_row columns step ++ steps_rows (columns_with columns step) steps

abbrev pub steps_begin : ℕ → List Step → ℕ
steps_begin columns [] = 0
steps_begin columns (step ∷ steps) = count_rows columns + steps_begin (columns_with columns step) steps

-- a walk from a record, in lines, and how many these are
abbrev pub walk_rows_text : Link → List Step → End → List ℕ
walk_rows_text start steps end =
    next_line (codes "walk") (start_text start ++ steps_rows (length (start_text start)) steps ++ end_text end)

abbrev pub rows_taken : Link → List Step → ℕ
rows_taken start steps = suc (steps_begin (length (start_text start)) steps)

-- the lines of the walk of a page that ends so, and how many these are; none where the page has no line of its own
abbrev pub walk_rows : List Found → ℕ → ℕ → Option End → List ℕ
walk_rows list logical page None = []
walk_rows list logical page (Some end) = walk_rows_text (newest_name list page) (steps_of list logical page) end

abbrev pub walk_takes : List Found → ℕ → ℕ → Option End → ℕ
walk_takes list logical page None = 0
walk_takes list logical page (Some end) = rows_taken (newest_name list page) (steps_of list logical page)

abbrev pub walk_svg : Protocol → List Found → ℕ → ℕ → List ℕ
walk_svg protocol list logical page = walk_rows list logical page (line_end protocol list logical page)

abbrev pub walks_svg : Protocol → List Found → ℕ → List ℕ
walks_svg protocol list logical = flat_map (walk_svg protocol list logical) (range_with_len 0 logical)

-- how many lines the walks of the first pages are
abbrev pub walks_take : Protocol → List Found → ℕ → ℕ → ℕ
walks_take protocol list logical zero = 0
walks_take protocol list logical (suc pages) =
    walks_take protocol list logical pages + walk_takes list logical pages (line_end protocol list logical pages)

-- the law that is broken
abbrev pub breach_svg : Option Breach → List ℕ
breach_svg None = []
breach_svg (Some breach) = next_line (codes "unsound") (breach_line (Some breach))

-- lines from a place on: those of walks, and of the law that is broken
abbrev pub lines_at : ℕ → List ℕ → Option Breach → List ℕ
lines_at top walks breach =
    codes "<text" ++ attribute (codes "y") top ++ codes ">" ++ walks ++ breach_svg breach ++ codes "</text>\n"

-- the lines below the map
abbrev pub lines_svg : Grid → List ℕ → Option Breach → List ℕ
lines_svg grid walks breach = lines_at (bottom grid) walks breach

-- ---- the whole

-- the grid of a picture: the cells are as wide as the widest
abbrev pub grid_of : Shape → List Cell → Marks → Grid
grid_of shape cells marks =
    record { shape = shape; columns = min most_columns (widest cells marks (slots_of shape)) }

-- the picture of records with these cells
abbrev pub drawing : Config → Grid → List Found → List Cell → Marks → List ℕ
drawing its grid list cells marks =
    above its (width grid) (height grid (walks_take its.protocol list its.logical its.logical))
    ++ map_svg grid list cells marks ++ lines_svg grid (walks_svg its.protocol list its.logical) marks.breach
    ++ codes "</svg>\n"

-- the picture in SVG of a device whose slots are noted so
unfoldable pub svg : Config → List Note → Marks → List ℕ
svg its notes marks =
    let cells = cells_of its notes in
    drawing its (grid_of (shape_of its) cells marks) (found_in notes) cells marks
