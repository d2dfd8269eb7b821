-- What is read of an image file in its live format: what an image file in use says that has the same slots.
use Rattle.std.specs.Prelude.{◌≡◌, ◌⊎◌, ℕ, ◌+◌, ◌*◌, ◌<◌, ◌≤◌, ◌==◌, nat_eq, nat_le, List, length, map, drop, slice_range, ◌++◌, Option, None, if◌then◌else◌}
use Rattle.std.specs.List.{flat_map, range_with_len, starts_with}
use Rattle.std.specs.Fork.{slice_chunk}
use Rattle.tx_types.specs.Limits.{header_bytes, max_page_bytes, max_slots}
use Rattle.image_file.specs.InUse.{broken_in_use}
use Rattle.image_file.specs.Rules.{number_at, unless, IsRefusal}
use Rattle.image_file.specs.Spelling.{first_magic, second_magic, state_byte}
use Rattle.image_file.specs.declared.error.ImageError.{ImageError}
use Rattle.image_file.specs.declared.error.ImageError.TheVariants as image
use Rattle.zero_count.specs.Zeros.{own_of}
use Rattle.live_image.specs.Slots.{slot_bytes, live_seen, IsCounted}
use Rattle.live_file.specs.Spelling.{third_magic}
use Rattle.live_file.specs.declared.error.LiveError.{LiveError}
use Rattle.live_file.specs.declared.error.LiveError.TheVariants as error

-- the bytes of a slot, by the header, and those of the slot of this number
abbrev pub size_in : List ℕ → ℕ
size_in bytes = slot_bytes (number_at 12 bytes)

abbrev pub slot_read : List ℕ → ℕ → List ℕ
slot_read bytes k = slice_chunk (drop header_bytes bytes) (size_in bytes) k

-- Behind the header stand so many whole slots, no more and no longer ones than a device may have.
pub record HasSlots (bytes : List ℕ) (count : ℕ) : Type 0 where
  pub page : number_at 12 bytes ≤ max_page_bytes
  pub few : count ≤ max_slots
  pub whole : length bytes ≡ header_bytes + count * size_in bytes

-- so many do, or none that count
abbrev pub CountsSlots : List ℕ → ℕ → Type 0
CountsSlots bytes count = HasSlots bytes count ⊎ ((count ≡ 0) × ((n : ℕ) → HasSlots bytes n → ⊥))

-- the header of an image file with the same numbers
abbrev pub image_header : List ℕ → List ℕ
image_header bytes =
    (if number_at 36 bytes == 0 then first_magic else second_magic) ++ slice_range bytes 8 header_bytes

-- the states of the slots, and their own bytes
abbrev pub states_read : List ℕ → ℕ → List ℕ
states_read bytes count = map (λ k. state_byte (live_seen (slot_read bytes k))) (range_with_len 0 count)

abbrev pub cells_read : List ℕ → ℕ → List ℕ
cells_read bytes count = flat_map (λ k. own_of (slot_read bytes k)) (range_with_len 0 count)

-- the image file in use that has these slots
abbrev pub as_image : List ℕ → ℕ → List ℕ
as_image bytes count = image_header bytes ++ states_read bytes count ++ cells_read bytes count

-- the first rule that is broken by what a file begins with
abbrev pub broken_magic : List ℕ → Option ImageError
broken_magic bytes =
    unless (nat_le header_bytes (length bytes)) image.Short
    (unless (starts_with nat_eq bytes third_magic) image.Magic None)

-- no slot before this one has more zero bits than its number says
abbrev pub AreCountedBelow : List ℕ → ℕ → Type 0
AreCountedBelow bytes n = (k : ℕ) → k < n → IsCounted (slot_read bytes k)

-- Why bytes are no live file: they do not begin as one, or the image file in use that has their slots is none; or all
-- this is right, and a slot has more zero bits than its number says, and none before it.
abbrev pub RefusesLive : List ℕ → LiveError → Type 0
RefusesLive bytes (error.Image rule) =
    IsRefusal (broken_magic bytes) rule
    ⊎ ((broken_magic bytes ≡ None)
    × ((count : ℕ) × CountsSlots bytes count × IsRefusal (broken_in_use (as_image bytes count)) rule))
RefusesLive bytes (error.Count at) =
    (broken_magic bytes ≡ None)
    × ((count : ℕ) × HasSlots bytes count × (broken_in_use (as_image bytes count) ≡ None)
    × (at.0 < count) × AreCountedBelow bytes at.0 × (IsCounted (slot_read bytes at.0) → ⊥))
