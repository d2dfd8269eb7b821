-- Tables that are filled with the records of a scan.
use Rattle.std.specs.Prelude.{◌≡◌, ◌≢◌, ℕ, ◌==◌, if◌then◌else◌, max, replicate, true, ◌+◌, ◌<◌, ◌≤◌, ◌⊎◌, List, length, map, slice_index, slice_index_or, Option, Some, None, option_and_then}
use Rattle.std.specs.Prelude.{position, Contains}
use Rattle.std.specs.Option.{option_map}
use Rattle.tx_types.specs.declared.record.Link.{Link}
use Rattle.tx_types.specs.Config.{slots_of}
use Rattle.tx_types.specs.declared.config.Protocol.{Protocol}
use Rattle.tx_types.specs.declared.config.Shape.{Shape}
use Rattle.tx_types.specs.declared.record.Rec.{Rec}
use Rattle.record_list.specs.declared.found.Found.{Found}
use Rattle.record_list.specs.Records as records
use Rattle.record_list.specs.Records.{name_of, has_name}
use Rattle.record_list.specs.Current.{cur}
use Rattle.slot_tables.specs.TablesState.{TablesState, use_at, record_at, number_at, blank_tables, IsNewest}
use Rattle.slot_tables.specs.declared.slots.SlotUse.{SlotUse}
use Rattle.slot_tables.specs.declared.slots.SlotUse.TheVariants as slot
use Rattle.judged_records.specs.declared.note.Note.{Note}
use Rattle.judged_records.specs.declared.note.Note.TheVariants as note
use Rattle.flash_model.specs.declared.flash.Seen.{Seen}
use Rattle.flash_model.specs.declared.flash.Seen.TheVariants as seen
use Rattle.judged_records.specs.Notes.{found_in, note_at, seen_as}
use Rattle.judged_records.specs.Derived.{name_at, answerer, is_waiting}
use Rattle.judged_records.specs.DerivedChanges.{Derived}
use Rattle.judged_records.specs.Numbered.{awaited}

-- what is derived from a list of records
abbrev pub derived_by : Protocol → List Found → ℕ → Derived
derived_by protocol list logical = record {
  current = cur protocol list logical;
  answerer = answerer protocol list logical;
  waits = is_waiting protocol list logical;
}

-- records of one name are equal
abbrev pub NamesAgree : List Found → Type 0
NamesAgree list = (f g : Found) → Contains list f → Contains list g → name_of f.rec ≡ name_of g.rec → f.rec ≡ g.rec

-- no record of its page is newer
abbrev pub IsNotOlder : TablesState → Rec → Type 0
IsNotOlder k rec = (x : ℕ) (r : Rec) → record_at k.records x ≡ Some r → r.page ≡ rec.page → r.version ≤ rec.version

-- a number has a record of this name
pub record IsKnown (k : TablesState) (rec : Rec) (x : ℕ) : Type 0 where
  pub known : Rec
  pub is : record_at k.records x ≡ Some known
  pub its_name : name_of known ≡ name_of rec

-- a number without a record got this one
pub record IsNumbered (k new : TablesState) (rec : Rec) (x : ℕ) : Type 0 where
  pub free : record_at k.records x ≡ None
  pub newest : IsNewest k.records rec
  pub rest : new ≡ record k { records = new.records; pages = new.pages }
  pub pages : length new.pages ≡ length k.pages
  pub sizes : length new.records ≡ length k.records
  pub own : record_at new.records x ≡ Some rec
  pub others : (y : ℕ) → (y ≡ x → ⊥) → record_at new.records y ≡ record_at k.records y

-- the record has this number
abbrev pub HasNumber : TablesState → TablesState → Rec → ℕ → Type 0
HasNumber k new rec x = ((new ≡ k) × IsKnown k rec x) ⊎ IsNumbered k new rec x

-- the first records of a list have these numbers, and no others have records
pub record AreNumbered (list : List Found) (numbers : List ℕ) (k : TablesState) : Type 0 where
  pub each :
      (j : ℕ) → j < length numbers → record_at k.records (slice_index numbers j) ≡ Some (records.record_at list j)
  pub some :
      (x : ℕ) (r : Rec) → record_at k.records x ≡ Some r →
      (j : ℕ) × (j < length numbers) × (slice_index numbers j ≡ x)
  pub once :
      (x y : ℕ) (r s : Rec) → record_at k.records x ≡ Some r → record_at k.records y ≡ Some s →
      name_of r ≡ name_of s → x ≡ y

-- blank slots, and records with numbers
pub record AreBlankBut (its_shape : Shape) (logical : ℕ) (k : TablesState) : Type 0 where
  pub rest : k ≡ record (blank_tables its_shape logical) { records = k.records; pages = k.pages }
  pub pages : length k.pages ≡ logical
  pub sizes : length k.records ≡ slots_of its_shape

-- each noted record is in a list
abbrev pub AreListed : List Note → List Found → Type 0
AreListed notes list = (f : Found) → Contains (found_in notes) f → Contains list f

-- the number at some place of a list has the name of this record
pub record IsNumberAt (list : List Found) (numbers : List ℕ) (rec : Rec) (x : ℕ) : Type 0 where
  pub place : ℕ
  pub within : place < length list
  pub number : slice_index numbers place ≡ x
  pub its_name : has_name (name_of rec) (records.record_at list place) ≡ true

-- a slot of which this is noted is used so
abbrev pub UsesNote : List Found → List ℕ → Note → SlotUse → Type 0
UsesNote list numbers note.Blank u = u ≡ slot.Blank
UsesNote list numbers note.Damaged u = u ≡ slot.Damaged
UsesNote list numbers (note.Holds rec) slot.Blank = ⊥
UsesNote list numbers (note.Holds rec) slot.Damaged = ⊥
UsesNote list numbers (note.Holds rec) (slot.Holds x) = IsNumberAt list numbers rec x

-- slots that read so and hold these records are used so, by what is noted of them
pub record AreUses (chart : List Found) (numbers : List ℕ) (how : List Seen) (list : List Found)
    (uses : List SlotUse) : Type 0 where
  pub notes : List Note
  pub reads : map seen_as notes ≡ how
  pub found : found_in notes ≡ list
  pub size : length uses ≡ length notes
  pub each : (at : ℕ) → at < length notes → UsesNote chart numbers (note_at notes at) (use_at uses at)

-- how a slot is used that reads so, where no record stands in it
abbrev pub first_use : Seen → SlotUse
first_use seen.Blank = slot.Blank
first_use seen.Damaged = slot.Damaged
first_use seen.Complete = slot.Blank

-- a slot holds the number of one of the last of these records, which stands in it, or none of them stands in it, and it
-- is used as before
abbrev pub IsPut : List Found → List ℕ → List SlotUse → ℕ → ℕ → SlotUse → Type 0
IsPut list numbers before count at u =
    ((j : ℕ) × (length list ≤ j + count) × (j < length list) × ((slice_index_or list j records.nothing).slot.0 ≡ at)
    × (u ≡ slot.Holds (slice_index numbers j)))
    ⊎ (((j : ℕ) → length list ≤ j + count → j < length list →
    (slice_index_or list j records.nothing).slot.0 ≢ at)
    × (u ≡ use_at before at))

-- each slot does
pub record ArePut (list : List Found) (numbers : List ℕ) (before : List SlotUse) (count : ℕ)
    (uses : List SlotUse) : Type 0 where
  pub size : length uses ≡ length before
  pub each : (at : ℕ) → at < length before → IsPut list numbers before count at (use_at uses at)

-- the greatest mentions of the pages that a record names are raised, where they exist
pub record IsMentioned (old new : List ℕ) (rec : Rec) : Type 0 where
  pub once : List ℕ
  pub size_once : length once ≡ length old
  pub size_new : length new ≡ length once
  pub own : (page : ℕ) → page < length old →
      slice_index_or once page 0 ≡ max (slice_index_or old page 0) (if rec.page == page then rec.version else 0)
  pub linked : (page : ℕ) → page < length once →
      slice_index_or new page 0
      ≡ max (slice_index_or once page 0) (if rec.next.page == page then rec.next.version else 0)

-- the number at the place of a name
abbrev pub number_by : List Found → List ℕ → Option Link → Option ℕ
number_by list numbers name =
    option_and_then (λ l. option_map (λ place. slice_index numbers place) (position (λ f. has_name l f.rec) list)) name

-- a page has the number of the one of the first of these records that is current, or none of them is
abbrev pub IsCurrentAmong : Protocol → List Found → List ℕ → ℕ → ℕ → ℕ → Option ℕ → Type 0
IsCurrentAmong protocol list numbers logical count page number =
    ((j : ℕ) × (j < count)
    × (name_at page (cur protocol list logical page) ≡ Some (name_of (records.record_at list j)))
    × (number ≡ Some (slice_index numbers j)))
    ⊎ (((j : ℕ) → j < count →
    name_at page (cur protocol list logical page) ≢ Some (name_of (records.record_at list j)))
    × (number ≡ None))

-- no page has a current record, and no record has an answerer or waits
pub record AreUndecided (k : TablesState) : Type 0 where
  pub current : (page : ℕ) → number_at k.current page ≡ None
  pub answerers : (x : ℕ) → number_at k.answerers x ≡ None
  pub waits : (x : ℕ) → number_at k.waits x ≡ None

-- the numbers at the first places of a list are current, wait and have answerers as their records are and do, and
-- nothing else is decided
pub record AreDecided (protocol : Protocol) (list : List Found) (numbers : List ℕ) (logical : ℕ) (k new : TablesState)
    (count : ℕ) : Type 0 where
  pub rest : new ≡ record k { current = new.current; answerers = new.answerers; waits = new.waits }
  pub pages : length new.current ≡ length k.current
  pub answerers : length new.answerers ≡ length k.answerers
  pub waits : length new.waits ≡ length k.waits
  pub current :
      (page : ℕ) → page < logical →
      IsCurrentAmong protocol list numbers logical count page (number_at new.current page)
  pub done :
      (j : ℕ) → j < count →
      (number_at new.answerers (slice_index numbers j) ≡ number_by list numbers
      (answerer protocol list logical (records.record_at list j)))
      × (number_at new.waits (slice_index numbers j) ≡ awaited (derived_by protocol list logical)
      (records.record_at list j))
  pub others :
      (x : ℕ) →
      ((j : ℕ) × (j < count) × (slice_index numbers j ≡ x))
      ⊎ ((number_at new.answerers x ≡ None) × (number_at new.waits x ≡ None))

-- tables that are filled with the records of a list, in the order of their names
pub record AreFilled (protocol : Protocol) (list : List Found) (its_shape : Shape) (logical : ℕ)
    (t : TablesState) : Type 0 where
  pub numbers : List ℕ
  pub whole : length numbers ≡ length list
  pub numbered : AreNumbered list numbers t
  pub placed :
      (at x : ℕ) → use_at t.slots at ≡ slot.Holds x →
      (j : ℕ) × (j < length list) × (slice_index numbers j ≡ x)
  pub current :
      (page : ℕ) → page < logical →
      number_at t.current page ≡ number_by list numbers (name_at page (cur protocol list logical page))
  pub done :
      (j : ℕ) → j < length list →
      (number_at t.answerers (slice_index numbers j) ≡ number_by list numbers
      (answerer protocol list logical (records.record_at list j)))
      × (number_at t.waits (slice_index numbers j) ≡ awaited (derived_by protocol list logical)
      (records.record_at list j))
  pub others :
      (x : ℕ) → ((j : ℕ) → j < length list → slice_index numbers j ≢ x) →
      (number_at t.answerers x ≡ None) × (number_at t.waits x ≡ None)
  pub shape : t.shape ≡ its_shape
  pub pages : length t.pages ≡ logical
  pub pins : t.pins ≡ replicate logical 0
  pub spare : t.spare ≡ None
