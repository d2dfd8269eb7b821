-- What the picture of an image tells of the image.
use Rattle.std.specs.Prelude.{◌≡◌, ℕ, ◌↔◌, Some, List, [], ◌∷◌, IsTrue, Contains, slice_index_or, codes}
use Rattle.tx_types.specs.declared.config.Config.{Config}
use Rattle.tx_types.specs.declared.record.Rec.{Rec}
use Rattle.flash_model.specs.Flash.{Contents, slot_at}
use Rattle.record_list.specs.declared.found.Breach.{Breach}
use Rattle.record_list.specs.Current.{IsCurrent, IsLoose, IsStale, is_held}
use Rattle.judged_records.specs.Images.{records_in}
use Rattle.judged_records.specs.Notes.{note_of, notes_of}
use Rattle.judged_records.specs.declared.note.Note.TheVariants as note
use Rattle.judged_records.specs.Opening.{IsChosenSpare}
use Rattle.flash_picture.specs.declared.marks.Marks.{Marks}
use Rattle.flash_picture.specs.Cells.{cell_at, cell_words, slot_words}
use Rattle.flash_picture.specs.Map.{label_words}
use Rattle.flash_picture.specs.Picture.{cells_of}

-- the row of a block begins with `spare`
abbrev pub LabelSaysSpare : Marks → ℕ → Type 0
LabelSaysSpare marks block = slice_index_or (label_words marks block) 0 (codes "") ≡ codes "spare"

-- the words of a slot in a picture of an image, a `!` among them, have a word
abbrev pub SlotSays : Config → List Contents → Marks → ℕ → List ℕ → Type 0
SlotSays its image marks slot word =
    Contains (slot_words (cells_of its (notes_of its.protocol image)) marks slot) word

-- one block becomes the spare when the device of an image is opened, and the rows tell which; no slot has a `!`
pub record RowsTell (its : Config) (image : List Contents) (marks : Marks) : Type 0 where
  pub spare : ℕ
  pub chosen : IsChosenSpare its image spare
  pub one : (block : ℕ) → IsChosenSpare its image block → block ≡ spare
  pub label : (block : ℕ) → LabelSaysSpare marks block ↔ IsChosenSpare its image block
  pub mark : (slot : ℕ) → SlotSays its image marks slot (codes "!") → ⊥

-- where an image is not sound no row begins with `spare`, the slot that its first broken law names is the one with a
-- `!`, and the last line is that of this law
pub record BreachTells (its : Config) (image : List Contents) (marks : Marks) (breach : Breach) : Type 0 where
  pub label : (block : ℕ) → LabelSaysSpare marks block → ⊥
  pub mark : (slot : ℕ) → SlotSays its image marks slot (codes "!") ↔ (breach.slot.0 ≡ slot)
  pub line : marks.breach ≡ Some breach

-- a slot of an image holds this record
abbrev pub HoldsRecord : Config → List Contents → ℕ → Rec → Type 0
HoldsRecord its image slot r = note_of its.protocol (slot_at image slot) ≡ note.Holds r

-- the cell of a slot says a word
abbrev pub CellSays : Config → List Contents → ℕ → List ℕ → Type 0
CellSays its image slot word =
    Contains (cell_words (cell_at (cells_of its (notes_of its.protocol image)) slot)) word

-- the cell of a slot says current, loose, stale, held or discard exactly where the record is so among those of
-- the image
pub record SlotTells (its : Config) (image : List Contents) (slot : ℕ) (r : Rec) : Type 0 where
  pub current : CellSays its image slot (codes "current")
      ↔ IsCurrent its.protocol (records_in its.protocol image) its.logical r
  pub loose : CellSays its image slot (codes "loose")
      ↔ IsLoose its.protocol (records_in its.protocol image) its.logical r
  pub stale : CellSays its image slot (codes "stale")
      ↔ IsStale its.protocol (records_in its.protocol image) its.logical r
  pub held : CellSays its image slot (codes "held")
      ↔ IsTrue (is_held its.protocol (records_in its.protocol image) its.logical r)
  pub discard : CellSays its image slot (codes "discard") ↔ IsTrue r.discard

-- the cell of a slot that holds no record says `blank` or `damaged`, and nothing else
pub record BareSlotTells (its : Config) (image : List Contents) (slot : ℕ) : Type 0 where
  pub blank : note_of its.protocol (slot_at image slot) ≡ note.Blank →
      cell_words (cell_at (cells_of its (notes_of its.protocol image)) slot) ≡ codes "blank" ∷ []
  pub damaged : note_of its.protocol (slot_at image slot) ≡ note.Damaged →
      cell_words (cell_at (cells_of its (notes_of its.protocol image)) slot) ≡ codes "damaged" ∷ []
