-- The rules that the bytes of an image file have to meet, and what such bytes spell.
use Rattle.std.specs.Prelude.{◌≡◌, ℕ, ◌+◌, ◌==◌, Bool, true, not, ◌&&◌, ◌||◌, nat_eq, nat_le, List, map, length, drop, slice_range, position, Option, Some}
use Rattle.std.specs.Prelude.{None, is_some, is_none, unwrap_or, Result, Ok, Err, if◌then◌else◌}
use Rattle.std.specs.Option.{option_map, option_or, option_map_or}
use Rattle.std.specs.Result.{result_err}
use Rattle.std.specs.List.{starts_with, zip}
use Rattle.std.specs.Int.{w32, from_le_bytes}
use Rattle.std.specs.Simd.{first_chunks}
use Rattle.tx_types.specs.Config.{checked, shape_of, slots_of, image_bytes}
use Rattle.tx_types.specs.Limits.{header_bytes}
use Rattle.tx_types.specs.declared.config.Config.{Config}
use Rattle.tx_types.specs.declared.config.Shape.{Shape}
use Rattle.tx_types.specs.declared.config.Protocol.{Protocol}
use Rattle.tx_types.specs.declared.config.Protocol.TheVariants.{Scc, Bpcc}
use Rattle.flash_model.specs.declared.flash.Seen.{Seen}
use Rattle.flash_model.specs.declared.flash.Seen.TheVariants.{Blank, Complete, Damaged}
use Rattle.flash_model.specs.Flash.{Contents, Extras, no_extras}
use Rattle.flash_model.specs.Retiring.{max_allowance}
use Rattle.lane_scan.specs.Scans.{all_equal}
use Rattle.mem_flash.specs.Slots.{cell_bytes, image_of}
use Rattle.image_file.specs.declared.error.ImageError.{ImageError}
use Rattle.image_file.specs.declared.error.ImageError.TheVariants as error
use Rattle.image_file.specs.Spelling.{first_magic, second_magic}

-- ---- what stands in the bytes

-- the number in the four bytes at an offset
unfoldable pub number_at : ℕ → List ℕ → ℕ
number_at offset bytes = from_le_bytes w32 (slice_range bytes offset (offset + 4))

-- the protocol that a number stands for
abbrev pub protocol_of : ℕ → Option Protocol
protocol_of code = if code == 1 then Some Scc else if code == 2 then Some Bpcc else None

-- the configuration in a header
abbrev pub config_in : List ℕ → Config
config_in bytes = record {
  protocol = unwrap_or (protocol_of (number_at 8 bytes)) Scc;
  page_bytes = number_at 12 bytes;
  pages_per_block = number_at 16 bytes;
  blocks_per_die = number_at 20 bytes;
  dies = number_at 24 bytes;
  logical = number_at 28 bytes;
  pending = number_at 32 bytes;
}

abbrev pub shape_in : List ℕ → Shape
shape_in bytes = shape_of (config_in bytes)

-- a file that begins so tells of retired blocks
abbrev pub is_second : List ℕ → Bool
is_second bytes = starts_with nat_eq bytes second_magic

-- how many blocks may be retired, and how many are, in a file that tells
abbrev pub told_in : List ℕ → Extras
told_in bytes = record { allowance = number_at 36 bytes; retired = number_at 40 bytes }

-- and none in another
abbrev pub extras_in : List ℕ → Extras
extras_in bytes = if is_second bytes then told_in bytes else no_extras

-- where the reserved bytes of a header begin
abbrev pub reserved_from : List ℕ → ℕ
reserved_from bytes = if is_second bytes then 44 else 36

-- how a slot reads for which this byte stands
abbrev pub seen_from : ℕ → Option Seen
seen_from state =
    if state == 0 then Some Blank else if state == 1 then Some Complete
    else if state == 2 then Some Damaged else None

-- the bytes of the states
abbrev pub states_in : List ℕ → List ℕ
states_in bytes = slice_range bytes header_bytes (header_bytes + slots_of (shape_in bytes))

-- how the slots read for which these bytes stand
abbrev pub all_seen : List ℕ → List Seen
all_seen states = map (λ state. unwrap_or (seen_from state) Blank) states

-- the bytes of the slots, one slot after another
abbrev pub cells_in : List ℕ → List ℕ
cells_in bytes = drop (header_bytes + slots_of (shape_in bytes)) bytes

-- what the slots hold
abbrev pub image_in : List ℕ → List Contents
image_in bytes = image_of (number_at 12 bytes) (all_seen (states_in bytes)) (cells_in bytes)

-- ---- the rules

-- each byte of a blank slot
abbrev pub blank_byte : ℕ
blank_byte = 255

-- a blank slot has only such bytes, a damaged one only bytes 0, and a complete one any bytes
abbrev pub is_filled : Seen → List ℕ → Bool
is_filled Blank cell = all_equal cell blank_byte
is_filled Damaged cell = all_equal cell 0
is_filled Complete cell = true

-- the first state that stands for nothing
abbrev pub wrong_state : List ℕ → Option ℕ
wrong_state states = position (λ state. is_none (seen_from state)) states

-- the first slot, of this many bytes each, that does not have the bytes of how it reads
abbrev pub wrong_bytes : ℕ → List Seen → List ℕ → Option ℕ
wrong_bytes size seen cells =
    position (λ slot. not (is_filled slot.0 slot.1))
    (zip seen (first_chunks size (length seen) cells))

-- the refusal where a rule does not hold, and else that of the rules after it
abbrev pub unless : Bool → ImageError → Option ImageError → Option ImageError
unless holds refusal rest = if holds then rest else Some refusal

-- some blocks may be retired, no more than any flash may allow, and no more are retired than may be
abbrev pub is_allowed : Extras → Bool
is_allowed extras =
    nat_le 1 extras.allowance && nat_le extras.allowance max_allowance
    && nat_le extras.retired extras.allowance

-- the first rule that is broken of what stands behind the numbers: of the reserved bytes, and then of what the file
-- tells of retired blocks
unfoldable pub broken_rest : List ℕ → Option ImageError
broken_rest bytes =
    unless (all_equal (slice_range bytes (reserved_from bytes) header_bytes) 0) error.Reserved
    (unless (not (is_second bytes) || is_allowed (told_in bytes)) error.Allowance None)

-- the first rule of the header that is broken
abbrev pub broken_header : List ℕ → Option ImageError
broken_header bytes =
    unless (nat_le header_bytes (length bytes)) error.Short
    (unless (starts_with nat_eq bytes first_magic || is_second bytes) error.Magic
    (unless (is_some (protocol_of (number_at 8 bytes))) error.Protocol
    (option_or (broken_rest bytes) (option_map error.Config (result_err (checked (config_in bytes)))))))

-- the refusal of the first state that stands for nothing
abbrev pub broken_states : List ℕ → Option ImageError
broken_states states = option_map (λ at. error.SlotState (record { 0 = at })) (wrong_state states)

-- the refusal of the first slot that does not have the bytes of how it reads
abbrev pub broken_bytes : ℕ → List Seen → List ℕ → Option ImageError
broken_bytes size seen cells =
    option_map (λ at. error.SlotBytes (record { 0 = at })) (wrong_bytes size seen cells)

-- the first rule of what is behind the header that is broken: all states are tried before any slot's bytes
abbrev pub broken_slots : List ℕ → Option ImageError
broken_slots bytes =
    unless (length bytes == image_bytes (shape_in bytes)) error.Length
    (option_or (broken_states (states_in bytes))
    (broken_bytes (cell_bytes (number_at 12 bytes)) (all_seen (states_in bytes)) (cells_in bytes)))

-- the first rule that is broken
unfoldable pub first_broken : List ℕ → Option ImageError
first_broken bytes = option_or (broken_header bytes) (broken_slots bytes)

-- ---- what a reading answers

-- the configuration, the slots, and what is told of retired blocks; or the first rule that is broken
abbrev pub reading : List ℕ → Result (Config × List Contents × Extras) ImageError
reading bytes =
    option_map_or Err (first_broken bytes) (Ok (config_in bytes, image_in bytes, extras_in bytes))

-- want of memory, or this rule and no other
abbrev pub IsRefusal : Option ImageError → ImageError → Type 0
IsRefusal broken error.Memory = Unit {0}
IsRefusal broken refusal = broken ≡ Some refusal
