-- What is read of the states of an image file.
use Rattle.std.specs.Prelude.{◌≡◌, ℕ, ◌+◌, ◌*◌, List, length, drop, None}
use Rattle.tx_types.specs.Config.{slots_of}
use Rattle.tx_types.specs.Limits.{header_bytes}
use Rattle.tx_types.specs.declared.config.Shape.{Shape}
use Rattle.flash_model.specs.declared.flash.Seen.{Seen}
use Rattle.mem_flash.specs.Slots.{cell_bytes, image_of, AreFilled}
use Rattle.image_file.specs.Rules.{broken_slots, image_in}

-- the bytes in front of the slots' own
abbrev pub head_bytes : Shape → ℕ
head_bytes shape = header_bytes + slots_of shape

-- the slots of a file of this shape, which breaks no rule behind its header, read this way
pub record AreSlotsOf (bytes : List ℕ) (shape : Shape) (seen : List Seen) : Type 0 where
  pub sound : broken_slots bytes ≡ None
  pub many : length seen ≡ slots_of shape
  pub whole : length bytes ≡ head_bytes shape + slots_of shape * cell_bytes shape.page_bytes
  pub filled : AreFilled shape.page_bytes seen (drop (head_bytes shape) bytes)
  pub image : image_of shape.page_bytes seen (drop (head_bytes shape) bytes) ≡ image_in bytes
