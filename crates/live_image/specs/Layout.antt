-- Where the slots of a flash stand in an image file in its live format, and what the bytes of a file say of them.
use Rattle.std.specs.Prelude.{ℕ, ◌+◌, ◌*◌, List, map, drop}
use Rattle.std.specs.List.{range_with_len}
use Rattle.std.specs.Fork.{slice_chunk}
use Rattle.tx_types.specs.Config.{slots_of}
use Rattle.tx_types.specs.Limits.{header_bytes}
use Rattle.tx_types.specs.declared.config.Shape.{Shape}
use Rattle.flash_model.specs.Flash.{Contents}
use Rattle.live_image.specs.Slots.{slot_bytes, live_contents}

-- the bytes of a file: a header, and the slots
abbrev pub live_bytes : Shape → ℕ
live_bytes shape = header_bytes + slots_of shape * slot_bytes shape.page_bytes

-- where a slot begins
abbrev pub slot_offset : Shape → ℕ → ℕ
slot_offset shape at = header_bytes + at * slot_bytes shape.page_bytes

-- the bytes of a slot in a file
abbrev pub slot_in : Shape → List ℕ → ℕ → List ℕ
slot_in shape bytes at = slice_chunk (drop header_bytes bytes) (slot_bytes shape.page_bytes) at

-- what the slots hold by the bytes of a file
abbrev pub live_image : Shape → List ℕ → List Contents
live_image shape bytes =
    map (λ at. live_contents shape.page_bytes (slot_in shape bytes at)) (range_with_len 0 (slots_of shape))
