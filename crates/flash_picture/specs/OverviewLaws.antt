-- What the letters and squares of an overview tell.
use Rattle.std.specs.Prelude.{◌≡◌, ℕ, ◌+◌, ◌/◌, ◌%◌, ◌<◌, ◌≤◌, ◌↔◌, ◌⊎◌, true, false, List, [], ◌∷◌, ◌++◌, IsTrue}
use Rattle.tx_types.specs.declared.config.Config.{Config}
use Rattle.tx_types.specs.declared.record.Rec.{Rec}
use Rattle.tx_types.specs.Config.{shape_of}
use Rattle.record_list.specs.Current.{IsCurrent, IsLoose, IsStale, is_held}
use Rattle.judged_records.specs.declared.note.Note.{Note}
use Rattle.judged_records.specs.declared.note.Note.TheVariants as note
use Rattle.judged_records.specs.Notes.{found_in, note_at}
use Rattle.flash_picture.specs.declared.kind.Kind.{Kind}
use Rattle.flash_picture.specs.declared.kind.Kind.TheVariants as kind
use Rattle.flash_picture.specs.declared.marks.Marks.{Marks}
use Rattle.flash_picture.specs.Laws.{IsNamed, Shows, block_with}
use Rattle.flash_picture.specs.Overview.{before_sign, row_text, sign_at}
use Rattle.flash_picture.specs.OverviewSvg.{dash, dash_if, kind_svg, overview, row_svg, square_of}
use Rattle.flash_picture.specs.Picture.{cells_of}

-- the number of a slot in its block
abbrev pub place_of_slot : Config → ℕ → ℕ
place_of_slot its slot = slot % (shape_of its).pages_per_block

-- ---- as text

-- the letter of a slot, and the row of a block
abbrev pub sign_of : Config → List Note → Marks → ℕ → ℕ
sign_of its notes marks slot = sign_at (cells_of its notes) marks slot

abbrev pub row_in : Config → List Note → Marks → ℕ → List ℕ
row_in its notes marks block = row_text (shape_of its) (cells_of its notes) marks block

-- The letter of a slot stands in the row of its block, and is a `!` exactly where a broken law names the slot. Where
-- none does, it is a dot for a blank slot, an x for one with nothing that can be read, and for a record c, l or s
-- exactly as that is current, loose or stale, a capital exactly where it is held.
pub record SignTells (its : Config) (notes : List Note) (marks : Marks) (slot : ℕ) : Type 0 where
  pub row : Shows (overview false its notes marks) (row_in its notes marks (block_with its slot))
  pub sign : Shows (row_in its notes marks (block_with its slot))
      (before_sign marks (block_with its slot) (place_of_slot its slot) ++ sign_of its notes marks slot ∷ [])
  pub mark : (sign_of its notes marks slot ≡ 33) ↔ IsNamed marks.breach slot
  pub blank : (IsNamed marks.breach slot → ⊥) → note_at notes slot ≡ note.Blank → sign_of its notes marks slot ≡ 46
  pub damaged : (IsNamed marks.breach slot → ⊥) → note_at notes slot ≡ note.Damaged →
      sign_of its notes marks slot ≡ 120
  pub current : (r : Rec) → (IsNamed marks.breach slot → ⊥) → note_at notes slot ≡ note.Holds r →
      ((sign_of its notes marks slot ≡ 99) ⊎ (sign_of its notes marks slot ≡ 67))
      ↔ IsCurrent its.protocol (found_in notes) its.logical r
  pub loose : (r : Rec) → (IsNamed marks.breach slot → ⊥) → note_at notes slot ≡ note.Holds r →
      ((sign_of its notes marks slot ≡ 108) ⊎ (sign_of its notes marks slot ≡ 76))
      ↔ IsLoose its.protocol (found_in notes) its.logical r
  pub stale : (r : Rec) → (IsNamed marks.breach slot → ⊥) → note_at notes slot ≡ note.Holds r →
      ((sign_of its notes marks slot ≡ 115) ⊎ (sign_of its notes marks slot ≡ 83))
      ↔ IsStale its.protocol (found_in notes) its.logical r
  pub held : (r : Rec) → (IsNamed marks.breach slot → ⊥) → note_at notes slot ≡ note.Holds r →
      ((sign_of its notes marks slot ≡ 67) ⊎ ((sign_of its notes marks slot ≡ 76)
      ⊎ (sign_of its notes marks slot ≡ 83)))
      ↔ IsTrue (is_held its.protocol (found_in notes) its.logical r)

-- ---- in SVG

-- what a kind says of a record
abbrev pub IsRecordOf : Config → List Note → Kind → Rec → Type 0
IsRecordOf its notes kind.Current r = IsCurrent its.protocol (found_in notes) its.logical r
IsRecordOf its notes kind.Loose r = IsLoose its.protocol (found_in notes) its.logical r
IsRecordOf its notes kind.Stale r = IsStale its.protocol (found_in notes) its.logical r
IsRecordOf its notes kind.Damaged r = ⊥
IsRecordOf its notes kind.Blank r = ⊥
IsRecordOf its notes kind.Held r = IsTrue (is_held its.protocol (found_in notes) its.logical r)
IsRecordOf its notes kind.Discard r = IsTrue r.discard

-- a slot holds such a record
abbrev pub HoldsOf : Config → List Note → Kind → ℕ → Type 0
HoldsOf its notes kind slot = (r : Rec) × (note_at notes slot ≡ note.Holds r) × IsRecordOf its notes kind r

-- a slot is of a kind
abbrev pub IsOfKind : Config → List Note → ℕ → Kind → Type 0
IsOfKind its notes slot kind.Current = HoldsOf its notes kind.Current slot
IsOfKind its notes slot kind.Loose = HoldsOf its notes kind.Loose slot
IsOfKind its notes slot kind.Stale = HoldsOf its notes kind.Stale slot
IsOfKind its notes slot kind.Damaged = note_at notes slot ≡ note.Damaged
IsOfKind its notes slot kind.Blank = note_at notes slot ≡ note.Blank
IsOfKind its notes slot kind.Held = HoldsOf its notes kind.Held slot
IsOfKind its notes slot kind.Discard = HoldsOf its notes kind.Discard slot

-- the row of a block in SVG
abbrev pub squares_of : Config → List Note → Marks → ℕ → List ℕ
squares_of its notes marks block = row_svg (shape_of its) (cells_of its notes) marks block

-- the lines of the slots of a block that are of a kind
abbrev pub lines_of : Config → List Note → ℕ → Kind → List ℕ
lines_of its notes block kind = kind_svg (shape_of its) (cells_of its notes) block kind

-- the die of a slot
abbrev pub die_with : Config → ℕ → ℕ
die_with its slot = block_with its slot / (shape_of its).blocks_per_die

-- The lines of a kind stand in the row of a block. Among them is that of a slot, in its square, exactly where the
-- slot is of the kind. The squares of a block stand below those of the blocks before it in the die, and right of
-- those of the dies before.
pub record SquareTells (its : Config) (notes : List Note) (marks : Marks) (slot : ℕ) : Type 0 where
  pub row : Shows (overview true its notes marks) (squares_of its notes marks (block_with its slot))
  pub lines : (kind : Kind) → Shows (squares_of its notes marks (block_with its slot))
      (lines_of its notes (block_with its slot) kind)
  pub there : (kind : Kind) → IsOfKind its notes slot kind → Shows (lines_of its notes (block_with its slot) kind)
      (dash (shape_of its) (block_with its slot) kind (place_of_slot its slot))
  pub none : (kind : Kind) → (IsOfKind its notes slot kind → ⊥) →
      dash_if (shape_of its) (cells_of its notes) (block_with its slot) kind (place_of_slot its slot) ≡ []
  pub below : (other : ℕ) → die_with its slot ≡ die_with its other → block_with its slot < block_with its other →
      (square_of (shape_of its) slot).top + 8 ≤ (square_of (shape_of its) other).top
  pub beside : (other : ℕ) → die_with its slot < die_with its other →
      (square_of (shape_of its) slot).left + 6 ≤ (square_of (shape_of its) other).left
