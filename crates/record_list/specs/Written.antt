-- A list of records with the bytes of their slots: the texts that it has, the array that it stands for, the nine laws,
-- homes and garbage. Law 1 is here its part on pages: a slot whose spare area does not read has no record, so that part
-- of the law comes with the image, above this crate.
use Rattle.std.specs.Prelude.{◌≡◌, ℕ, ◌/◌, ◌<◌, ◌==◌, ◌⊎◌, Bool, true, false, not, ◌&&◌, ◌||◌, if◌then◌else◌, Option, Some, None, option_and_then, List, All}
use Rattle.std.specs.Prelude.{Any, map, find}
use Rattle.std.specs.List.{list_any, range_with_len}
use Rattle.std.specs.Option.{option_map, option_or}
use Rattle.tx_types.specs.declared.record.Link.{Link}
use Rattle.tx_types.specs.declared.record.Rec.{Rec}
use Rattle.tx_types.specs.declared.config.Protocol.{Protocol}
use Rattle.tx_types.specs.declared.config.Shape.{Shape}
use Rattle.tx_types.specs.declared.config.Slot.{Slot}
use Rattle.tx_types.specs.declared.config.BlockState.{BlockState}
use Rattle.tx_types.specs.declared.config.BlockState.TheVariants as state
use Rattle.tx_types.specs.Config.{blocks_of}
use Rattle.record_list.specs.declared.found.Found.{Found}
use Rattle.record_list.specs.declared.found.Breach.{Breach}
use Rattle.record_list.specs.Records.{name_of, has_name, is_present}
use Rattle.record_list.specs.Current.{cur, is_held}
use Rattle.record_list.specs.SoundList.{current_name, Law, Pages, Copies, Links, Present, Counted, Loose, Ending, number, Keeps, IsSoundList}
use Rattle.record_list.specs.Changes.{left, KeepsCounted}
use Rattle.record_list.specs.Counts.{HasCounts, IsLeastMiscount}

-- a record, its slot, and the bytes of the slot's contents
pub record Written : Type 0 where
  pub slot : Slot
  pub rec : Rec
  pub bytes : List ℕ

abbrev pub found_of : Written → Found
found_of w = record { slot = w.slot; rec = w.rec }

abbrev pub records_of : List Written → List Found
records_of list = map found_of list

-- what a record says of its page: whether the page is discarded, and the bytes of the slot
pub record PageText : Type 0 where
  pub discard : Bool
  pub bytes : List ℕ

abbrev pub text_of : Written → PageText
text_of w = record { discard = w.rec.discard; bytes = w.bytes }

-- the text of the first record with this name
abbrev pub text_at : List Written → Link → Option PageText
text_at list name = option_map text_of (find (λ w. has_name name w.rec) list)

-- what a page holds by a text: nothing where it is discarded, else the bytes
abbrev pub value_of : PageText → Option (List ℕ)
value_of text = if text.discard then None else Some text.bytes

-- what a page holds by the first record with this name, nothing where there is none
abbrev pub value_at : List Written → Link → Option (List ℕ)
value_at list name = option_and_then value_of (text_at list name)

-- what a page holds by its current record, nothing where it has none
abbrev pub page_at : Protocol → List Written → ℕ → ℕ → Option (List ℕ)
page_at protocol list logical page =
    value_at list (current_name protocol (records_of list) logical page)

-- the array of pages that the list stands for
abbrev pub array_of : Protocol → List Written → ℕ → List (Option (List ℕ))
array_of protocol list logical = map (page_at protocol list logical) (range_with_len 0 logical)

-- law 2, in its part on bytes: each earlier record of its name has its bytes
abbrev pub BytesAgree : List Written → Written → Type 0
BytesAgree list w =
    All (λ v. v.slot.0 < w.slot.0 → name_of v.rec ≡ name_of w.rec → v.bytes ≡ w.bytes) list

-- a slot lies outside a block
abbrev pub is_outside : Shape → ℕ → ℕ → Bool
is_outside shape block slot = not (slot / shape.pages_per_block == block)

-- each current and each held record has a slot outside the block
abbrev pub IsRemovable : Protocol → List Found → ℕ → Shape → ℕ → Type 0
IsRemovable protocol list logical shape block =
    KeepsCounted protocol list logical (is_outside shape block)

-- whether a record is current, held or pinned
abbrev pub is_wanted : Protocol → List Found → ℕ → List Link → Rec → Bool
is_wanted protocol list logical pinned r =
    (r.version == cur protocol list logical r.page)
    || is_held protocol list logical r
    || list_any (λ name. has_name name r) pinned

-- each current, each held and each pinned record of the list has a slot outside the block
abbrev pub IsDispensable : Protocol → List Found → ℕ → List Link → Shape → ℕ → Type 0
IsDispensable protocol list logical pinned shape block =
    All
    (λ f. is_wanted protocol list logical pinned f.rec ≡ true →
    is_present (left (is_outside shape block) list) (name_of f.rec) ≡ true)
    list

-- law 8: some block is removable
pub record HasRemovable (protocol : Protocol) (list : List Found) (logical : ℕ)
    (shape : Shape) : Type 0 where
  pub block : ℕ
  pub exists : block < blocks_of shape
  pub removable : IsRemovable protocol list logical shape block

-- the nine laws of the records and their bytes
pub record IsSoundWritten (protocol : Protocol) (list : List Written) (logical : ℕ)
    (shape : Shape) : Type 0 where
  pub records : IsSoundList protocol (records_of list) logical
  pub bytes : All (BytesAgree list) list
  pub removable : HasRemovable protocol (records_of list) logical shape
  pub counts : HasCounts (records_of list)

-- a record keeps the law, bytes included
abbrev pub KeepsWritten : Protocol → List Written → ℕ → Law → Written → Type 0
KeepsWritten protocol list logical Pages w =
    Keeps protocol (records_of list) logical Pages (found_of w)
KeepsWritten protocol list logical Copies w =
    Keeps protocol (records_of list) logical Copies (found_of w) × BytesAgree list w
KeepsWritten protocol list logical Links w =
    Keeps protocol (records_of list) logical Links (found_of w)
KeepsWritten protocol list logical Present w =
    Keeps protocol (records_of list) logical Present (found_of w)
KeepsWritten protocol list logical Counted w =
    Keeps protocol (records_of list) logical Counted (found_of w)
KeepsWritten protocol list logical Loose w =
    Keeps protocol (records_of list) logical Loose (found_of w)
KeepsWritten protocol list logical Ending w =
    Keeps protocol (records_of list) logical Ending (found_of w)

-- the first of laws 1 to 7 that is broken, and the slot that it names
pub record IsFirstBrokenLaw (protocol : Protocol) (list : List Written) (logical : ℕ)
    (b : Breach) : Type 0 where
  pub law : Law
  pub law_number : number law ≡ b.law
  pub breaks : Any
      (λ w. (w.slot.0 ≡ b.slot.0) × (KeepsWritten protocol list logical law w → ⊥)) list
  pub earlier_laws : (l : Law) → number l < number law →
      All (KeepsWritten protocol list logical l) list
  pub earlier_slots : All (λ w. w.slot.0 < b.slot.0 → KeepsWritten protocol list logical law w) list

-- laws 1 to 7 hold and law 8 is broken; it names slot 0
pub record IsUnremovable (protocol : Protocol) (list : List Written) (logical : ℕ) (shape : Shape)
    (b : Breach) : Type 0 where
  pub law : b.law ≡ 8
  pub slot : b.slot.0 ≡ 0
  pub earlier_laws : (l : Law) → All (KeepsWritten protocol list logical l) list
  pub breaks : HasRemovable protocol (records_of list) logical shape → ⊥

-- law 9 alone is broken, first at this slot
pub record IsMiscounted (protocol : Protocol) (list : List Written) (logical : ℕ) (shape : Shape)
    (b : Breach) : Type 0 where
  pub earlier_laws : (l : Law) → All (KeepsWritten protocol list logical l) list
  pub removable : HasRemovable protocol (records_of list) logical shape
  pub miscount : IsLeastMiscount (records_of list) b

-- the first of the nine laws that is broken by records and bytes, and the slot that it names
abbrev pub IsLeastWrittenBreach : Protocol → List Written → ℕ → Shape → Breach → Type 0
IsLeastWrittenBreach protocol list logical shape b =
    IsFirstBrokenLaw protocol list logical b
    ⊎ IsUnremovable protocol list logical shape b
    ⊎ IsMiscounted protocol list logical shape b

-- a slot lies outside the spare, if there is one
abbrev pub is_outside_spare : Shape → Option ℕ → ℕ → Bool
is_outside_spare shape None slot = true
is_outside_spare shape (Some block) slot = is_outside shape block slot

-- the first slot whose record passes the test
abbrev pub first_slot : (Found → Bool) → List Found → Option ℕ
first_slot test list = option_map (λ f. f.slot.0) (find test list)

-- the home of a record: its lowest slot outside the spare, or its lowest slot where it has none outside
abbrev pub home : Shape → Option ℕ → List Found → Link → Option ℕ
home shape spare list name =
    option_or
    (first_slot (λ f. has_name name f.rec && is_outside_spare shape spare f.slot.0) list)
    (first_slot (λ f. has_name name f.rec) list)

abbrev pub is_slot : ℕ → Option ℕ → Bool
is_slot at None = false
is_slot at (Some slot) = slot == at

-- whether a slot is the home of a record that is current, held or pinned
abbrev pub is_needed : Protocol → List Found → ℕ → Shape → Option ℕ → List Link → ℕ → Bool
is_needed protocol list logical shape spare pinned at =
    list_any
    (λ f. (f.slot.0 == at)
    && is_slot at (home shape spare list (name_of f.rec))
    && is_wanted protocol list logical pinned f.rec)
    list

-- whether a slot is garbage, by the state of its block, whether it reads blank, and whether it is needed
abbrev pub is_garbage : BlockState → Bool → Bool → Bool
is_garbage state.Spare blank needed = false
is_garbage state.Clean blank needed = not (blank || needed)
is_garbage state.Part blank needed = not (blank || needed)
is_garbage state.Shut blank needed = not needed
