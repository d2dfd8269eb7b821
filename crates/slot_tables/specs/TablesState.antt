-- What the tables are given, what follows from it, and how it changes.
use Rattle.std.specs.Prelude.{◌≡◌, ℕ, ◌+◌, ◌-◌, ◌*◌, ◌<◌, ◌≤◌, ◌==◌, Bool, true, false, not, nat_lt, ◌&&◌, ◌||◌, Option, Some, None, IsSomeAnd, IfSome, List, [], ◌∷◌, length}
use Rattle.std.specs.Prelude.{map, find, filter, replicate, count_by, slice_index, slice_index_or, slice_set, if◌then◌else◌}
use Rattle.std.specs.List.{AllPairs, Contains, list_any, range_with_len, remove, slice_get}
use Rattle.std.specs.Option.{option_map_or, option_or}
use Rattle.tx_types.specs.declared.record.Rec.{Rec}
use Rattle.tx_types.specs.declared.config.Shape.{Shape}
use Rattle.tx_types.specs.declared.config.BlockState.{BlockState}
use Rattle.tx_types.specs.declared.config.BlockState.TheVariants as state
use Rattle.tx_types.specs.Config.{IsShape, blocks_of, slots_of}
pub use Rattle.tx_types.specs.Slots.{lower}
use Rattle.record_list.specs.Written.{is_outside, is_outside_spare, is_slot, is_garbage}
use Rattle.dense_tables.specs.LinkedLists.{index_in}
use Rattle.slot_tables.specs.declared.slots.SlotUse.{SlotUse}
use Rattle.slot_tables.specs.declared.slots.SlotUse.TheVariants.{Blank, Damaged, Holds}

-- The shape of the flash, what each slot holds, the record of each number, of each page the numbers of its
-- records, newest first, and the number of its current record; of each number the one that answers for it, and
-- the page that it waits for; the version at which each page is pinned, 0 for none, the spare block, and of each
-- block whether it is closed: no program goes there before it was the spare.
pub record TablesState : Type 0 where
  pub shape : Shape
  pub slots : List SlotUse
  pub records : List (Option Rec)
  pub pages : List (List ℕ)
  pub current : List (Option ℕ)
  pub answerers : List (Option ℕ)
  pub waits : List (Option ℕ)
  pub pins : List ℕ
  pub spare : Option ℕ
  pub closed : List Bool

-- what a slot holds
abbrev pub use_at : List SlotUse → ℕ → SlotUse
use_at slots at = slice_index_or slots at Blank

-- the record of a number, if it has one
abbrev pub record_at : List (Option Rec) → ℕ → Option Rec
record_at records number = slice_index_or records number None

-- the numbers of the records of a page, newest first
abbrev pub numbers_at : List (List ℕ) → ℕ → List ℕ
numbers_at pages page = slice_index_or pages page []

-- a number that a table of numbers has, if it has one
abbrev pub number_at : List (Option ℕ) → ℕ → Option ℕ
number_at numbers at = slice_index_or numbers at None

abbrev pub is_number : ℕ → Option ℕ → Bool
is_number number None = false
is_number number (Some other) = other == number

-- whether a slot that is used so holds the record of a number
abbrev pub holds : ℕ → SlotUse → Bool
holds number Blank = false
holds number Damaged = false
holds number (Holds other) = other == number

-- the number of the record that a slot holds, if it holds one
abbrev pub number_in : SlotUse → Option ℕ
number_in Blank = None
number_in Damaged = None
number_in (Holds number) = Some number

abbrev pub is_blank : SlotUse → Bool
is_blank Blank = true
is_blank Damaged = false
is_blank (Holds number) = false

-- the slots that hold the record of a number, in their order
unfoldable pub copies_of : List SlotUse → ℕ → List ℕ
copies_of slots number =
    filter (λ at. holds number (use_at slots at)) (range_with_len 0 (length slots))

-- the home of the record of a number: its lowest slot outside the spare, or its lowest slot where it has none
-- outside
abbrev pub home_in : Shape → Option ℕ → List SlotUse → ℕ → Option ℕ
home_in shape spare slots number =
    option_or
    (find (is_outside_spare shape spare) (copies_of slots number))
    (slice_get (copies_of slots number) 0)

abbrev pub home : TablesState → ℕ → Option ℕ
home k number = home_in k.shape k.spare k.slots number

-- the lowest slot outside a block that holds the record of a number
abbrev pub copy_off : TablesState → ℕ → ℕ → Option ℕ
copy_off k block number = find (is_outside k.shape block) (copies_of k.slots number)

-- whether some record has this one as its answerer
abbrev pub is_answerer : List (Option ℕ) → ℕ → Bool
is_answerer answerers number = list_any (is_number number) answerers

-- whether the record of a number is current, answers for another one, or is pinned
abbrev pub is_wanted_as : TablesState → ℕ → Rec → Bool
is_wanted_as k number r =
    is_number number (number_at k.current r.page)
    || is_answerer k.answerers number
    || (r.version == slice_index k.pins r.page)

abbrev pub is_wanted : TablesState → ℕ → Bool
is_wanted k number = option_map_or (is_wanted_as k number) (record_at k.records number) false

-- whether a slot is the home of the record of this number, if it holds one, and that record is wanted
abbrev pub is_needed_for : TablesState → ℕ → Option ℕ → Bool
is_needed_for k at None = false
is_needed_for k at (Some number) = is_slot at (home k number) && is_wanted k number

-- whether a slot is the home of a record that is wanted
unfoldable pub is_needed : TablesState → ℕ → Bool
is_needed k at = is_needed_for k at (number_in (use_at k.slots at))

-- the slots of a block
abbrev pub slots_in : Shape → ℕ → List ℕ
slots_in shape block = range_with_len (block * shape.pages_per_block) shape.pages_per_block

-- whether a slot is garbage in a block of this state
abbrev pub is_garbage_at : TablesState → BlockState → ℕ → Bool
is_garbage_at k state at = is_garbage state (is_blank (use_at k.slots at)) (is_needed k at)

-- the state that counts for garbage of a block which is not the spare
abbrev pub shut_or_part : Bool → BlockState
shut_or_part shut = if shut then state.Shut else state.Part

-- the number of garbage slots of a block, among them its blank ones where it is shut; the spare has none
unfoldable pub garbage_of : TablesState → Bool → ℕ → ℕ
garbage_of k shut block =
    if is_slot block k.spare then 0
    else count_by (is_garbage_at k (shut_or_part shut)) (slots_in k.shape block)

-- the number of blank slots of a block
unfoldable pub blanks_of : TablesState → ℕ → ℕ
blanks_of k block = count_by (λ at. is_blank (use_at k.slots at)) (slots_in k.shape block)

-- whether a block is closed
abbrev pub is_closed : TablesState → ℕ → Bool
is_closed k block = slice_index_or k.closed block false

-- the last slot of a block
abbrev pub last_slot : Shape → ℕ → ℕ
last_slot shape block = block * shape.pages_per_block + (shape.pages_per_block - 1)

-- whether no program goes to a block: it is closed, or its last slot is used
abbrev pub is_shut : TablesState → ℕ → Bool
is_shut k block = is_closed k block || not (is_blank (use_at k.slots (last_slot k.shape block)))

-- the number of garbage slots of a block as it is
abbrev pub garbage_now : TablesState → ℕ → ℕ
garbage_now k block = garbage_of k (is_shut k block) block

abbrev pub is_some_number : Option ℕ → Bool
is_some_number None = false
is_some_number (Some number) = true

-- the number of pages that have a current record
abbrev pub written_of : TablesState → ℕ
written_of k = count_by is_some_number k.current

-- a number with this record, put in front of the list of its page
abbrev pub added : TablesState → ℕ → Rec → TablesState
added k number rec = record k {
  records = slice_set k.records number (Some rec);
  pages = slice_set k.pages rec.page (number ∷ numbers_at k.pages rec.page);
}

-- a number of this page that has no record any more
abbrev pub given_up : TablesState → ℕ → ℕ → TablesState
given_up k page number = record k {
  records = slice_set k.records number None;
  pages =
      slice_set k.pages page
      (remove (numbers_at k.pages page) (index_in (numbers_at k.pages page) number));
}

-- nothing but blank slots, for this many pages
abbrev pub blank_tables : Shape → ℕ → TablesState
blank_tables its logical = record {
  shape = its;
  slots = replicate (slots_of its) Blank;
  records = replicate (slots_of its) None;
  pages = replicate logical [];
  current = replicate logical None;
  answerers = replicate (slots_of its) None;
  waits = replicate (slots_of its) None;
  pins = replicate logical 0;
  spare = None;
  closed = replicate (blocks_of its) false;
}

-- the garbage numbers of the blocks that are shut
abbrev pub garbage_numbers : TablesState → List ℕ
garbage_numbers k = map (garbage_of k true) (range_with_len 0 (blocks_of k.shape))

-- the garbage numbers of the blocks as they are
abbrev pub garbage_now_numbers : TablesState → List ℕ
garbage_now_numbers k = map (garbage_now k) (range_with_len 0 (blocks_of k.shape))

-- a block is closed, or not
abbrev pub with_closed : TablesState → ℕ → Bool → TablesState
with_closed k block flag = record k { closed = slice_set k.closed block flag }

-- a block is the spare, and so no longer closed
abbrev pub with_spare : TablesState → ℕ → TablesState
with_spare k block = record k { spare = Some block; closed = slice_set k.closed block false }

-- the lowest slot of the record of a number where its link's version is below this one
abbrev pub links_below : ℕ → Option Rec → Bool
links_below below None = false
links_below below (Some r) = nat_lt r.next.version below

abbrev pub first_below : TablesState → ℕ → ℕ → Option ℕ
first_below k below number =
    if links_below below (record_at k.records number) then slice_get (copies_of k.slots number) 0 else None

-- the record of this number waits for a page at a version below this one
abbrev pub WaitsBelow : TablesState → ℕ → ℕ → ℕ → Type 0
WaitsBelow k page below number =
    (number_at k.waits number ≡ Some page)
    × IsSomeAnd (record_at k.records number) (λ r. r.next.version < below)

-- the lowest slot of a record that waits for a page at a version below this one
pub record IsLowestToGo (k : TablesState) (page below at : ℕ) : Type 0 where
  pub number : ℕ
  pub holds : use_at k.slots at ≡ Holds number
  pub waits : WaitsBelow k page below number
  pub lowest : (other x : ℕ) → use_at k.slots other ≡ Holds x → WaitsBelow k page below x → at ≤ other

-- the record of the first number is newer than that of the second one
abbrev pub IsNewer : List (Option Rec) → ℕ → ℕ → Type 0
IsNewer records x y =
    (r s : Rec) → record_at records x ≡ Some r → record_at records y ≡ Some s → s.version < r.version

-- a record is newer than those of its page
abbrev pub IsNewest : List (Option Rec) → Rec → Type 0
IsNewest records rec =
    (number : ℕ) (r : Rec) → record_at records number ≡ Some r → r.page ≡ rec.page → r.version < rec.version

-- the list of a page has the numbers of its records, newest first, and each record has a page
pub record AreVersions (records : List (Option Rec)) (pages : List (List ℕ)) : Type 0 where
  pub page : (page number : ℕ) → Contains (numbers_at pages page) number →
      (r : Rec) × (record_at records number ≡ Some r) × (r.page ≡ page)
  pub listed : (number : ℕ) (r : Rec) → record_at records number ≡ Some r →
      (r.page < length pages) × Contains (numbers_at pages r.page) number
  pub falls : (page : ℕ) → AllPairs (IsNewer records) (numbers_at pages page)

-- There is one entry for each slot, each number, each page or each block, each number is below that of the slots, and
-- the lists of the pages have the records in the order of their versions.
pub record IsTablesState (k : TablesState) : Type 0 where
  pub shape : IsShape k.shape
  pub slots : length k.slots ≡ slots_of k.shape
  pub records : length k.records ≡ slots_of k.shape
  pub answerers : length k.answerers ≡ slots_of k.shape
  pub waits : length k.waits ≡ slots_of k.shape
  pub current : length k.current ≡ length k.pages
  pub pins : length k.pins ≡ length k.pages
  pub spare : IfSome k.spare (λ block. block < blocks_of k.shape)
  pub closed : length k.closed ≡ blocks_of k.shape
  pub held : (at number : ℕ) → use_at k.slots at ≡ Holds number → number < slots_of k.shape
  pub counts : (page number : ℕ) → number_at k.current page ≡ Some number → number < slots_of k.shape
  pub versions : AreVersions k.records k.pages
