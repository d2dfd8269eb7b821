-- What the words of a picture tell.
use Rattle.std.specs.Prelude.{◌≡◌, ℕ, ◌+◌, ◌-◌, ◌/◌, ◌<◌, ◌≤◌, ◌↔◌, ◌⊎◌, false, Option, None, Some, List, [], ◌∷◌, ◌++◌, length, take, IsTrue, Contains, slice_index_or, codes}
use Rattle.std.specs.Fmt.{decimal}
use Rattle.std.specs.List.{flat_map, join_with_byte}
use Rattle.tx_types.specs.declared.config.Config.{Config}
use Rattle.tx_types.specs.Config.{shape_of, slots_of}
use Rattle.tx_types.specs.declared.config.Protocol.{Protocol}
use Rattle.tx_types.specs.declared.record.Link.{Link}
use Rattle.tx_types.specs.declared.record.Rec.{Rec}
use Rattle.record_list.specs.declared.found.Breach.{Breach}
use Rattle.record_list.specs.declared.found.Found.{Found}
use Rattle.record_list.specs.declared.found.Why.TheVariants as reason
use Rattle.record_list.specs.Records.{name_of}
use Rattle.record_list.specs.Verdict.{is_ahead, is_committed, newest_name, why}
use Rattle.verdict_report.specs.Walks.{IsDecidingWalk, is_end, links_of}
use Rattle.record_list.specs.Current.{IsCurrent, IsLoose, IsStale, is_held}
use Rattle.judged_records.specs.declared.note.Note.{Note}
use Rattle.judged_records.specs.declared.note.Note.TheVariants as note
use Rattle.judged_records.specs.Notes.{found_in, note_at}
use Rattle.flash_picture.specs.declared.marks.Marks.{Marks}
use Rattle.flash_picture.specs.declared.walk.End.TheVariants.{Absent, Straddled, TooLong}
use Rattle.flash_picture.specs.Cells.{cell_at, cell_of, cell_words, is_named, name_word, slot_text, slot_words, word_if}
use Rattle.flash_picture.specs.Grid.{spot_of}
use Rattle.flash_picture.specs.Map.{block_text, label_words, padded, widest}
use Rattle.flash_picture.specs.Picture.{cells_of, picture}
use Rattle.flash_picture.specs.declared.selection.Selection.{Selection}
use Rattle.flash_picture.specs.declared.selection.Selection.TheVariants as chosen
use Rattle.flash_picture.specs.Selection.{selected, selected_line, slot_line}
use Rattle.flash_picture.specs.Svg.{arrow_svg, arrow_to, cell_svg, grid_of, label_svg, svg, visible_arrow_svg, visible_arrow_to, walk_svg}
use Rattle.flash_picture.specs.Walks.{end_of, is_shared, leaving_link_at, line_end, step_text, steps_of, walk_text}

-- the cell of a slot that holds this record, among these records, says a word
abbrev pub Says : Protocol → List Found → ℕ → Rec → List ℕ → Type 0
Says protocol list logical r word =
    Contains (cell_words (cell_of protocol list logical (note.Holds r))) word

-- a cell says current, loose, stale, held or discard exactly where its record is so
pub record CellTells (protocol : Protocol) (list : List Found) (logical : ℕ) (r : Rec) : Type 0 where
  pub current : Says protocol list logical r (codes "current") ↔ IsCurrent protocol list logical r
  pub loose : Says protocol list logical r (codes "loose") ↔ IsLoose protocol list logical r
  pub stale : Says protocol list logical r (codes "stale") ↔ IsStale protocol list logical r
  pub held : Says protocol list logical r (codes "held") ↔ IsTrue (is_held protocol list logical r)
  pub discard : Says protocol list logical r (codes "discard") ↔ IsTrue r.discard

-- the label of a block begins with `spare` exactly where the block is the spare
abbrev pub LabelTells : Marks → ℕ → Type 0
LabelTells marks block =
    (slice_index_or (label_words marks block) 0 (codes "") ≡ codes "spare")
    ↔ (marks.spare ≡ Some (record { 0 = block }))

-- a broken law names the slot
abbrev pub IsNamed : Option Breach → ℕ → Type 0
IsNamed breach slot = (b : Breach) × (breach ≡ Some b) × (b.slot.0 ≡ slot)

-- a slot without a record has one word; and any slot has a `!` exactly where a broken law names it
pub record WordsTell (its : Config) (notes : List Note) (marks : Marks) (slot : ℕ) : Type 0 where
  pub blank : note_at notes slot ≡ note.Blank → cell_words (cell_at (cells_of its notes) slot) ≡ codes "blank" ∷ []
  pub damaged : note_at notes slot ≡ note.Damaged → cell_words (cell_at (cells_of its notes) slot)
      ≡ codes "damaged" ∷ []
  pub mark : Contains (slot_words (cells_of its notes) marks slot) (codes "!") ↔ IsNamed marks.breach slot

-- ---- walks

-- the last link of the walk from the newest record of a page
abbrev pub last_of : List Found → ℕ → ℕ → Link → Link
last_of list logical page none =
    let links = links_of list logical page in
    slice_index_or links (length links - 1) none

-- a page has a line, which names the newest record of another one: the record that it begins with, or one of its first
-- sixteen links
pub record IsNamedBy (protocol : Protocol) (list : List Found) (logical page head : ℕ) : Type 0 where
  pub within : head < logical
  pub drawn : line_end protocol list logical head ≡ None → ⊥
  pub named : Contains (newest_name list head ∷ take 16 (links_of list logical head)) (newest_name list page)

-- A walk has an end exactly where the newest version of its page does not count. Its steps are over the links of the
-- walk that decides this. It ends in `absent` exactly where its last link is to a version above all of its page, in
-- `straddled by` exactly where that version straddles this link, and in `too long` exactly where the walk ends at no
-- link. The newest record of each page that does not count is named in a line.
pub record WalkTells (protocol : Protocol) (list : List Found) (logical page : ℕ) : Type 0 where
  pub drawn : (end_of protocol list logical page ≡ None) ↔ IsTrue (is_committed (why protocol list logical page))
  pub links : IsDecidingWalk protocol list logical page (links_of list logical page)
  pub last : (link none : Link) → leaving_link_at list logical page ≡ Some link → link ≡ last_of list logical page none
  pub absent : (none : Link) → (end_of protocol list logical page ≡ Some Absent)
      ↔ IsTrue (is_ahead list (last_of list logical page none))
  pub straddled : (version : ℕ) → (end_of protocol list logical page ≡ Some (Straddled version))
      ↔ (why protocol list logical page ≡ reason.Straddled version)
  pub too_long : (none : Link) → (end_of protocol list logical page ≡ Some TooLong)
      ↔ (is_end list (newest_name list page) (last_of list logical page none) ≡ false)
  pub told : page < logical → is_committed (why protocol list logical page) ≡ false →
      (head : ℕ) × IsNamedBy protocol list logical page head

-- links, each behind an arrow
abbrev pub arrows_text : List Link → List ℕ
arrows_text links = flat_map (λ link. codes " -> " ++ name_word link) links

-- the line of a walk that ends in these words
abbrev pub line_with : List Found → ℕ → ℕ → List ℕ → List ℕ
line_with list logical page words =
    codes "walk " ++ name_word (newest_name list page) ++ flat_map step_text (steps_of list logical page)
    ++ words ++ 10 ∷ []

-- What the line of a page says: nothing where its newest version counts or the line of another page names it, and else
-- the links of the walk, of more than 16 the first 16, two dots, and the one at which it leaves the newest records, and
-- behind them the words for its end.
pub record WalkSays (protocol : Protocol) (list : List Found) (logical page : ℕ) : Type 0 where
  pub nothing : IsTrue (is_committed (why protocol list logical page)) → walk_text protocol list logical page ≡ []
  pub shared : IsTrue (is_shared protocol list logical page) → walk_text protocol list logical page ≡ []
  pub absent : (none : Link) → is_shared protocol list logical page ≡ false →
      IsTrue (is_ahead list (last_of list logical page none)) →
      walk_text protocol list logical page ≡ line_with list logical page (codes " absent")
  pub straddled : (version : ℕ) → is_shared protocol list logical page ≡ false →
      why protocol list logical page ≡ reason.Straddled version →
      walk_text protocol list logical page ≡ line_with list logical page (codes " straddled by " ++ decimal version)
  pub too_long : (none : Link) → is_shared protocol list logical page ≡ false →
      is_end list (newest_name list page) (last_of list logical page none) ≡ false →
      walk_text protocol list logical page ≡ line_with list logical page (codes " too long")
  pub few : length (links_of list logical page) ≤ 16 →
      flat_map step_text (steps_of list logical page) ≡ arrows_text (links_of list logical page)
  pub many : (link : Link) → 16 < length (links_of list logical page) → leaving_link_at list logical page ≡ Some link →
      flat_map step_text (steps_of list logical page)
      ≡ arrows_text (take 16 (links_of list logical page)) ++ (codes " .." ++ arrows_text (link ∷ []))
  pub given_up : 16 < length (links_of list logical page) → leaving_link_at list logical page ≡ None →
      flat_map step_text (steps_of list logical page) ≡ arrows_text (take 16 (links_of list logical page))
      ++ codes " .."

-- ---- where cells stand

-- a text has another one in it
abbrev pub Shows : List ℕ → List ℕ → Type 0
Shows text part = (before : List ℕ) × (behind : List ℕ) × (text ≡ before ++ part ++ behind)

-- the block of a slot
abbrev pub block_with : Config → ℕ → ℕ
block_with its slot = slot / (shape_of its).pages_per_block

-- the row of a block in the picture as text, and the cell of a slot behind its bar
abbrev pub row_of : Config → List Note → Marks → ℕ → List ℕ
row_of its notes marks block =
    let cells = cells_of its notes in
    block_text (shape_of its) cells marks (widest cells marks (slots_of (shape_of its))) block

abbrev pub cell_in_row : Config → List Note → Marks → ℕ → List ℕ
cell_in_row its notes marks slot =
    let cells = cells_of its notes in
    124 ∷ padded (widest cells marks (slots_of (shape_of its))) (slot_text cells marks slot)

-- how far below the top of the picture in SVG the cell of a slot stands
abbrev pub top_of_cell : Config → List Note → Marks → ℕ → ℕ
top_of_cell its notes marks slot = (spot_of (grid_of (shape_of its) (cells_of its notes) marks) slot).top

-- as text the cell of a slot stands in the row of its block, and in SVG the cells of a block stand below those of the
-- blocks before, each line 36 pixels below the line above
pub record PlaceTells (its : Config) (notes : List Note) (marks : Marks) (slot : ℕ) : Type 0 where
  pub row : Shows (picture its notes marks) (row_of its notes marks (block_with its slot))
  pub cell : Shows (row_of its notes marks (block_with its slot)) (cell_in_row its notes marks slot)
  pub below : (other : ℕ) → block_with its slot < block_with its other →
      top_of_cell its notes marks slot + 36 ≤ top_of_cell its notes marks other

-- ---- in SVG

-- the cell of a slot is in the picture, and its words are those that `CellTells` and `WordsTell` speak of
pub record SvgCellTells (its : Config) (notes : List Note) (marks : Marks) (slot : ℕ) : Type 0 where
  pub shown : Shows (svg its notes marks) (cell_svg (grid_of (shape_of its) (cells_of its notes) marks)
      (found_in notes) (cells_of its notes) marks slot)
  pub words : slot_text (cells_of its notes) marks slot
      ≡ join_with_byte 32 (cell_words (cell_of its.protocol (found_in notes) its.logical (note_at notes slot))
      ++ word_if (is_named marks.breach slot)
      (codes "!"))

-- the label of a block, of whose words `LabelTells` speaks, is in the picture
abbrev pub SvgLabelTells : Config → List Note → Marks → ℕ → Type 0
SvgLabelTells its notes marks block =
    Shows (svg its notes marks) (label_svg (grid_of (shape_of its) (cells_of its notes) marks) marks block)

-- so are the lines of the walk of a page, of which `WalkTells` speaks
abbrev pub SvgWalkTells : Config → List Note → Marks → ℕ → Type 0
SvgWalkTells its notes marks page =
    Shows (svg its notes marks) (walk_svg its.protocol (found_in notes) its.logical page)

-- a slot holds a record of this name
abbrev pub HoldsName : List Note → Link → ℕ → Type 0
HoldsName notes name slot = (r : Rec) × (note_at notes slot ≡ note.Holds r) × (name_of r ≡ name)

-- it is the lowest one
abbrev pub IsLowest : List Note → Link → ℕ → Type 0
IsLowest notes name slot = HoldsName notes name slot × ((other : ℕ) → HoldsName notes name other → slot ≤ other)

-- the arrow from a slot in the picture
abbrev pub arrow_of : Config → List Note → Marks → ℕ → List ℕ
arrow_of its notes marks slot =
    arrow_svg (grid_of (shape_of its) (cells_of its notes) marks) (found_in notes) (cells_of its notes) slot

-- the same where it is in view without a pointer
abbrev pub view_of : Config → List Note → Marks → ℕ → List ℕ
view_of its notes marks slot =
    visible_arrow_svg (grid_of (shape_of its) (cells_of its notes) marks) (found_in notes) (cells_of its notes) marks slot

-- a record is loose, or held for one that is
abbrev pub IsInView : Config → List Note → Rec → Type 0
IsInView its notes r =
    IsLoose its.protocol (found_in notes) its.logical r
    ⊎ IsTrue (is_held its.protocol (found_in notes) its.logical r)

-- The arrow from a slot is in the picture, and in the cell of the slot. From the cell of a record it leads to the cell
-- of the lowest slot that holds the record of its link; there is none where no slot does, and none from a slot without
-- a record. Where the record is loose or held, and nowhere else, it is drawn once more, in view without a pointer.
pub record ArrowTells (its : Config) (notes : List Note) (marks : Marks) (slot : ℕ) : Type 0 where
  pub shown : Shows (svg its notes marks) (arrow_of its notes marks slot)
  pub within : Shows (cell_svg (grid_of (shape_of its) (cells_of its notes) marks) (found_in notes)
      (cells_of its notes) marks slot) (arrow_of its notes marks slot)
  pub to : (r : Rec) (other : ℕ) → note_at notes slot ≡ note.Holds r → IsLowest notes r.next other →
      arrow_of its notes marks slot
      ≡ arrow_to (grid_of (shape_of its) (cells_of its notes) marks) slot (Some (record { 0 = other }))
  pub none : (r : Rec) → note_at notes slot ≡ note.Holds r → ((other : ℕ) → HoldsName notes r.next other → ⊥) →
      arrow_of its notes marks slot ≡ []
  pub bare : ((r : Rec) → note_at notes slot ≡ note.Holds r → ⊥) → arrow_of its notes marks slot ≡ []
  pub view_shown : Shows (svg its notes marks) (view_of its notes marks slot)
  pub in_view : (r : Rec) (other : ℕ) → note_at notes slot ≡ note.Holds r → IsInView its notes r →
      IsLowest notes r.next other → view_of its notes marks slot
      ≡ visible_arrow_to (grid_of (shape_of its) (cells_of its notes) marks) (slot_text (cells_of its notes) marks slot) slot
      (Some (record { 0 = other }))
  pub no_view : (r : Rec) → note_at notes slot ≡ note.Holds r → ((other : ℕ) → HoldsName notes r.next other → ⊥) →
      view_of its notes marks slot ≡ []
  pub out_of_view : (r : Rec) → note_at notes slot ≡ note.Holds r → (IsInView its notes r → ⊥) →
      view_of its notes marks slot ≡ []
  pub bare_view : ((r : Rec) → note_at notes slot ≡ note.Holds r → ⊥) → view_of its notes marks slot ≡ []

-- ---- of a selection

-- a slot holds a record of a page, or one whose arrow is in view
abbrev pub HoldsPage : List Note → ℕ → ℕ → Type 0
HoldsPage notes page slot = (r : Rec) × (note_at notes slot ≡ note.Holds r) × (r.page ≡ page)

abbrev pub HoldsInView : Config → List Note → ℕ → Type 0
HoldsInView its notes slot = (r : Rec) × (note_at notes slot ≡ note.Holds r) × IsInView its notes r

-- a selection names a slot
abbrev pub Names : Config → List Note → Selection → ℕ → Type 0
Names its notes (chosen.Block block) slot = block_with its slot ≡ block
Names its notes (chosen.Page page) slot = HoldsPage notes page slot
Names its notes chosen.Loose slot = HoldsInView its notes slot

-- what is said of a slot where a selection is asked for
abbrev pub line_of : Config → List Note → Marks → Selection → ℕ → List ℕ
line_of its notes marks selection slot = selected_line (shape_of its) (cells_of its notes) marks selection slot

-- it is the line of the slot where the selection names the slot, and nothing elsewhere
pub record SelectionTells
    (its : Config) (notes : List Note) (marks : Marks) (selection : Selection) (slot : ℕ) : Type 0 where
  pub shown : Shows (selected its notes marks selection) (line_of its notes marks selection slot)
  pub line : Names its notes selection slot →
      line_of its notes marks selection slot ≡ slot_line (shape_of its) (cells_of its notes) marks slot
  pub none : (Names its notes selection slot → ⊥) → line_of its notes marks selection slot ≡ []
