-- What a device has noted of its flash, what follows from it, and how it changes.
use Rattle.std.specs.Prelude.{◌≡◌, ℕ, ◌+◌, ◌-◌, ◌*◌, ◌/◌, ◌<◌, ◌≤◌, ◌==◌, ◌⊎◌, max, Bool, true, false, not, ◌&&◌, ◌||◌, List, map, length, replicate, slice_index, slice_index_or, slice_set}
use Rattle.std.specs.Prelude.{count_by, filter_map, Option, Some, None, Ok, IsSomeAnd, IfSome, All, Contains, if◌then◌else◌}
use Rattle.std.specs.List.{zip, enumerate_from, filter, list_any, range_with_len}
use Rattle.std.specs.Option.{option_map}
use Rattle.tx_types.specs.declared.record.Link.{Link}
use Rattle.tx_types.specs.declared.record.Rec.{Rec}
use Rattle.tx_types.specs.declared.config.Block.{Block}
use Rattle.tx_types.specs.declared.config.Config.{Config}
use Rattle.tx_types.specs.declared.config.Shape.{Shape}
use Rattle.tx_types.specs.declared.config.Protocol.{Protocol}
use Rattle.tx_types.specs.declared.config.BlockState.{BlockState}
use Rattle.tx_types.specs.declared.config.BlockState.TheVariants as state
use Rattle.tx_types.specs.Config.{IsConfig, checked, shape_of, slots_of, blocks_of}
use Rattle.flash_model.specs.declared.flash.Seen.{Seen}
use Rattle.flash_model.specs.Readings.{reads_blank_block}
use Rattle.record_list.specs.declared.found.Found.{Found}
use Rattle.record_list.specs.Records.{newest, mention, name_of, has_name, is_present, IsScanned}
use Rattle.record_list.specs.Verdict.{link_of, record_named}
use Rattle.record_list.specs.Current.{cur, must_go, is_held}
use Rattle.record_list.specs.SoundList.{IsSoundList}
use Rattle.record_list.specs.Transaction.{IsAsked, InProgress, next_names}
use Rattle.record_list.specs.Changes.{NothingMustGo}
use Rattle.record_list.specs.Written.{is_outside, IsRemovable, first_slot, home, is_slot, is_needed, is_garbage}
use Rattle.judged_records.specs.declared.note.Note.{Note}
use Rattle.judged_records.specs.declared.note.Note.TheVariants.{Blank, Damaged, Holds}
use Rattle.judged_records.specs.Notes.{note_at, rec_of, seen_as, found_in, with_block_noted}

-- the configuration, what is noted of each slot, the version of each page that is pinned, 0 for none, the
-- spare block once it is chosen, the greatest version at which each page was mentioned by a record that was
-- ever noted, and of each block whether it is closed: no program goes there before it was the spare
pub record IndexState : Type 0 where
  pub config : Config
  pub notes : List Note
  pub pins : List ℕ
  pub spare : Option ℕ
  pub mentions : List ℕ
  pub closed : List Bool

-- a page at its pinned version, if it has one
abbrev pub pinned_at : ℕ → ℕ → Option Link
pinned_at page version =
    if version == 0 then None else Some (record { page = page; version = version })

-- the pinned names, in the order of their pages
abbrev pub pinned_names : List ℕ → List Link
pinned_names pins = filter_map (λ (page, version). pinned_at page version) (enumerate_from 0 pins)

-- the greatest version at which a page was mentioned, 0 for none
abbrev pub mention_of : IndexState → ℕ → ℕ
mention_of n page = slice_index n.mentions page

-- the current version of a page, 0 for none
unfoldable pub current_of : IndexState → ℕ → ℕ
current_of n page = cur n.config.protocol (found_in n.notes) n.config.logical page

-- the name of the current record of a page
abbrev pub current_name_of : IndexState → ℕ → Link
current_name_of n page = record { page = page; version = current_of n page }

-- whether the current record of a page discards it
unfoldable pub discarded_of : IndexState → ℕ → Bool
discarded_of n page = (record_named (found_in n.notes) (current_name_of n page)).discard

-- whether the record is responsible for some loose record
unfoldable pub held_of : IndexState → Rec → Bool
held_of n rec = is_held n.config.protocol (found_in n.notes) n.config.logical rec

-- the home of the record of this name, if there is such a record
unfoldable pub home_of : IndexState → Link → Option ℕ
home_of n name = home (shape_of n.config) n.spare (found_in n.notes) name

-- the slot from which a page is read: the home of its current record, none where that discards it
abbrev pub place_of : IndexState → ℕ → Option ℕ
place_of n page = if discarded_of n page then None else home_of n (current_name_of n page)

-- a page is blank: it has no current record, or that discards it
abbrev pub IsBlank : IndexState → ℕ → Type 0
IsBlank n page = (current_of n page ≡ 0) ⊎ (discarded_of n page ≡ true)

-- the lowest slot outside a block that holds the record of this name
unfoldable pub slot_off : IndexState → ℕ → Link → Option ℕ
slot_off n block name =
    first_slot
    (λ f. has_name name f.rec && is_outside (shape_of n.config) block f.slot.0)
    (found_in n.notes)

-- whether a slot is the home of a record that is current, held or pinned
unfoldable pub needed_of : IndexState → ℕ → Bool
needed_of n at =
    is_needed n.config.protocol (found_in n.notes) n.config.logical (shape_of n.config) n.spare
    (pinned_names n.pins) at

-- the lowest block that holds a record which must go before this version of a page is programmed
unfoldable pub block_to_go : IndexState → ℕ → ℕ → Option ℕ
block_to_go n page below =
    option_map (λ slot. slot / n.config.pages_per_block)
    (first_slot
    (λ f. must_go n.config.protocol (found_in n.notes) n.config.logical page below f.rec)
    (found_in n.notes))

-- the slot exists and holds the record of this name
abbrev pub HoldsName : IndexState → ℕ → Link → Type 0
HoldsName n at name =
    (at < slots_of (shape_of n.config))
    × IsSomeAnd (rec_of (note_at n.notes at)) (λ rec. name_of rec ≡ name)

abbrev pub is_blank : Note → Bool
is_blank Blank = true
is_blank Damaged = false
is_blank (Holds rec) = false

-- whether a slot is garbage in a block of this state
abbrev pub is_garbage_at : IndexState → BlockState → ℕ → Bool
is_garbage_at n state at = is_garbage state (is_blank (note_at n.notes at)) (needed_of n at)

-- the state that counts for garbage of a block which is not the spare
abbrev pub shut_or_part : Bool → BlockState
shut_or_part shut = if shut then state.Shut else state.Part

-- the number of garbage slots of a block, among them its blank ones where it is shut; the spare has
-- none
unfoldable pub garbage_of : IndexState → ℕ → Bool → ℕ
garbage_of n block shut =
    if is_slot block n.spare then 0
    else
    count_by
    (is_garbage_at n (shut_or_part shut))
    (range_with_len (block * n.config.pages_per_block) n.config.pages_per_block)

-- the number of blank slots of a block
unfoldable pub blanks_of : IndexState → ℕ → ℕ
blanks_of n block =
    count_by
    (λ at. is_blank (note_at n.notes at))
    (range_with_len (block * n.config.pages_per_block) n.config.pages_per_block)

-- whether a block is closed
abbrev pub is_closed : IndexState → ℕ → Bool
is_closed n block = slice_index_or n.closed block false

-- the last slot of a block
abbrev pub last_slot : IndexState → ℕ → ℕ
last_slot n block = block * n.config.pages_per_block + (n.config.pages_per_block - 1)

-- whether no program goes to a block: it is closed, or its last slot is used
abbrev pub is_shut_now : IndexState → ℕ → Bool
is_shut_now n block = is_closed n block || not (is_blank (note_at n.notes (last_slot n block)))

-- the number of garbage slots of a block as it is
abbrev pub garbage_now : IndexState → ℕ → ℕ
garbage_now n block = garbage_of n block (is_shut_now n block)

-- the block has garbage as it is, none has more, and none that is lower has as much
pub record HasMostGarbageNow (n : IndexState) (block : ℕ) : Type 0 where
  pub exists : block < blocks_of (shape_of n.config)
  pub some : 0 < garbage_now n block
  pub most : (other : ℕ) → other < blocks_of (shape_of n.config) → garbage_now n other ≤ garbage_now n block
  pub lowest : (other : ℕ) → other < block → garbage_now n other < garbage_now n block

abbrev pub FindsMostGarbageNow : IndexState → Option Block → Type 0
FindsMostGarbageNow n None =
    (block : ℕ) → block < blocks_of (shape_of n.config) → garbage_now n block ≡ 0
FindsMostGarbageNow n (Some block) = HasMostGarbageNow n block.0

-- the block has garbage if all are shut, none has more, shut or not, and none that is lower has as much
pub record HasMostGarbage (n : IndexState) (block : ℕ) : Type 0 where
  pub exists : block < blocks_of (shape_of n.config)
  pub some : 0 < garbage_of n block true
  pub most :
      (other : ℕ) (shut : Bool) → other < blocks_of (shape_of n.config) →
      garbage_of n other shut ≤ garbage_of n block true
  pub lowest :
      (other : ℕ) (shut : Bool) → other < block → garbage_of n other shut < garbage_of n block true

abbrev pub FindsMostGarbage : IndexState → Option Block → Type 0
FindsMostGarbage n None =
    (block : ℕ) (shut : Bool) → block < blocks_of (shape_of n.config) → garbage_of n block shut ≡ 0
FindsMostGarbage n (Some block) = HasMostGarbage n block.0

-- a block of a group of this many that follow one another
pub record IsAmong (n : IndexState) (size group block : ℕ) : Type 0 where
  pub first : size * group ≤ block
  pub last : block < size * group + size
  pub exists : block < blocks_of (shape_of n.config)

-- the most garbage of such a group if all are shut: one has it, and none has more, shut or not
pub record IsMostAmong (n : IndexState) (size group count : ℕ) : Type 0 where
  pub block : ℕ
  pub among : IsAmong n size group block
  pub has : garbage_of n block true ≡ count
  pub most :
      (other : ℕ) (shut : Bool) → IsAmong n size group other → garbage_of n other shut ≤ count

-- whether a block holds a record that must go before this version of a page is programmed
abbrev pub is_going : IndexState → ℕ → ℕ → ℕ → Bool
is_going n page below block =
    list_any
    (λ f. (f.slot.0 / n.config.pages_per_block == block)
    && must_go n.config.protocol (found_in n.notes) n.config.logical page below f.rec)
    (found_in n.notes)

-- the blocks that do, in their order
unfoldable pub going_blocks : IndexState → ℕ → ℕ → List ℕ
going_blocks n page below =
    filter (is_going n page below) (range_with_len 0 (blocks_of (shape_of n.config)))

-- each current and each held record has a slot outside the block
abbrev pub CanLose : IndexState → ℕ → Type 0
CanLose n block =
    IsRemovable n.config.protocol (found_in n.notes) n.config.logical (shape_of n.config) block

-- a transaction in progress asks for this record, which is absent, and nothing must go before it is
-- programmed
pub record IsNextRecord (n : IndexState) (rec : Rec) : Type 0 where
  pub names : List Link
  pub in_progress : InProgress n.config.protocol (found_in n.notes) n.config.logical names
  pub named : Contains names (name_of rec)
  pub fresh : is_present (found_in n.notes) (name_of rec) ≡ false
  pub asked : IsAsked n.config.protocol (found_in n.notes) n.config.logical names rec
  pub clear : NothingMustGo n.config.protocol (found_in n.notes) n.config.logical rec

-- each name is present and the newest of its page, and its record links to the next name: the cycle is
-- complete
abbrev pub IsCompleteCycle : IndexState → List Link → Type 0
IsCompleteCycle n names =
    All
    (λ (name, next). (is_present (found_in n.notes) name ≡ true)
    × (newest (found_in n.notes) name.page ≡ name.version)
    × (link_of (found_in n.notes) name ≡ next))
    (zip names (next_names names))

-- the mentions once a name is mentioned too
abbrev pub raised_to : Link → List ℕ → List ℕ
raised_to name mentions =
    slice_set mentions name.page (max (slice_index mentions name.page) name.version)

-- the mentions once a record is noted, which mentions its own name and its link
abbrev pub raised : Rec → List ℕ → List ℕ
raised rec mentions = raised_to rec.next (raised_to (name_of rec) mentions)

-- a record in a slot that was blank
abbrev pub programmed : IndexState → ℕ → Rec → IndexState
programmed n at rec = record n {
  notes = slice_set n.notes at (Holds rec);
  mentions = raised rec n.mentions;
}

-- a slot that became damaged
abbrev pub damaged_at : IndexState → ℕ → IndexState
damaged_at n at = record n { notes = slice_set n.notes at Damaged }

-- the record of a slot in another one too, which was blank
abbrev pub copied : IndexState → ℕ → ℕ → IndexState
copied n from to = record n { notes = slice_set n.notes to (note_at n.notes from) }

-- each slot of a block is blank
abbrev pub erased : IndexState → ℕ → IndexState
erased n block = record n { notes = with_block_noted (shape_of n.config) n.notes block Blank }

-- each slot of a block is damaged
abbrev pub lost : IndexState → ℕ → IndexState
lost n block = record n { notes = with_block_noted (shape_of n.config) n.notes block Damaged }

-- a page is pinned at a version, in place of an older one
abbrev pub pinned : IndexState → ℕ → ℕ → IndexState
pinned n page version = record n { pins = slice_set n.pins page version }

-- a page is not pinned
abbrev pub unpinned : IndexState → ℕ → IndexState
unpinned n page = pinned n page 0

-- a block is the spare, and so no longer closed
abbrev pub with_spare : IndexState → ℕ → IndexState
with_spare n block = record n { spare = Some block; closed = slice_set n.closed block false }

-- What a device has noted under a protocol: the configuration passed its check, each slot has a note, each
-- page a pin and a mention, and each block a flag, the spare exists, the records keep laws 1 to 7, and no mention
-- is below that of the records.
pub record IsNoted (protocol : Protocol) (n : IndexState) : Type 0 where
  pub check : checked n.config ≡ Ok (shape_of n.config)
  pub bounds : IsConfig n.config
  pub rule : n.config.protocol ≡ protocol
  pub slots : length n.notes ≡ slots_of (shape_of n.config)
  pub pages : length n.pins ≡ n.config.logical
  pub mentions : length n.mentions ≡ n.config.logical
  pub spare : IfSome n.spare (λ block. block < blocks_of (shape_of n.config))
  pub closed : length n.closed ≡ blocks_of (shape_of n.config)
  pub scanned : IsScanned (found_in n.notes)
  pub sound : IsSoundList protocol (found_in n.notes) n.config.logical
  pub mentioned :
      (page : ℕ) → page < n.config.logical → mention (found_in n.notes) page ≤ mention_of n page

-- whether a block has a slot that is not blank
abbrev pub is_used_block : Shape → List Seen → ℕ → Bool
is_used_block shape seen block = not (reads_blank_block shape seen block)

-- of each block
abbrev pub used_blocks : Shape → List Seen → List Bool
used_blocks shape seen = map (is_used_block shape seen) (range_with_len 0 (blocks_of shape))

-- what is noted of slots that read so and hold these records: nothing is pinned, there is no spare, each page is
-- mentioned as the records mention it, and the blocks with a slot that is not blank are closed
pub record IsNotedFrom (its : Config) (seen : List Seen) (list : List Found)
    (n : IndexState) : Type 0 where
  pub config : n.config ≡ its
  pub reads : map seen_as n.notes ≡ seen
  pub found : found_in n.notes ≡ list
  pub pins : n.pins ≡ replicate its.logical 0
  pub spare : n.spare ≡ None
  pub mentions : n.mentions ≡ map (mention list) (range_with_len 0 its.logical)
  pub closed : n.closed ≡ used_blocks (shape_of its) seen
