-- The sizes of what is stored, and the limits of a configuration.
use Rattle.std.specs.Prelude.{ℕ, ◌^◌}

-- the bytes of the header of an image file
abbrev pub header_bytes : ℕ
header_bytes = 64

-- the bytes of a slot's state in an image file
abbrev pub state_bytes : ℕ
state_bytes = 1

-- the bytes of a spare area
abbrev pub spare_bytes : ℕ
spare_bytes = 64

-- the bytes of a page are a multiple of this, and at least as many
abbrev pub page_unit : ℕ
page_unit = 16

abbrev pub max_page_bytes : ℕ
max_page_bytes = 4096

abbrev pub min_pages_per_block : ℕ
min_pages_per_block = 2

abbrev pub max_pages_per_block : ℕ
max_pages_per_block = 256

abbrev pub max_blocks_per_die : ℕ
max_blocks_per_die = 32768

abbrev pub max_dies : ℕ
max_dies = 16

abbrev pub max_slots : ℕ
max_slots = 65536

abbrev pub max_image_bytes : ℕ
max_image_bytes = 134217728

-- the most pages that may be pending at once
abbrev pub max_pending : ℕ
max_pending = 256

-- the greatest version of a record
abbrev pub max_version : ℕ
max_version = 2 ^ 62

-- the greatest number of 32 bits
abbrev pub max_u32 : ℕ
max_u32 = 4294967295
