-- The rules of a configuration, and the numbers that follow from it.
use Rattle.std.specs.Prelude.{ℕ, ◌+◌, ◌-◌, ◌*◌, ◌%◌, ◌≤◌, ◌==◌, Bool, ◌&&◌, nat_le, Result, Ok, Err, if◌then◌else◌}
use Rattle.tx_types.specs.Limits.{header_bytes, state_bytes, spare_bytes, page_unit, max_page_bytes, min_pages_per_block, max_pages_per_block}
use Rattle.tx_types.specs.Limits.{max_blocks_per_die, max_dies, max_slots, max_image_bytes, max_pending}
use Rattle.tx_types.specs.declared.config.Config.{Config}
use Rattle.tx_types.specs.declared.config.Shape.{Shape}
use Rattle.tx_types.specs.declared.config.ConfigError.{ConfigError}
use Rattle.tx_types.specs.declared.config.ConfigError.TheVariants as rule

-- the shape of a device's flash
abbrev pub shape_of : Config → Shape
shape_of c =
    record {
      page_bytes =
          c.page_bytes;
      pages_per_block =
          c.pages_per_block;
      blocks_per_die = c.blocks_per_die;
      dies = c.dies;
    }

abbrev pub blocks_of : Shape → ℕ
blocks_of s = s.blocks_per_die * s.dies

abbrev pub slots_of : Shape → ℕ
slots_of s = s.pages_per_block * blocks_of s

-- the bytes of an image file: a header, and for each slot its state, its contents and its spare area
abbrev pub image_bytes : Shape → ℕ
image_bytes s = header_bytes + slots_of s * (state_bytes + spare_bytes + s.page_bytes)

abbrev pub is_within : ℕ → ℕ → ℕ → Bool
is_within low high n = nat_le low n && nat_le n high

-- the rule of this name holds
abbrev pub holds : Config → ConfigError → Bool
holds c rule.Page =
    is_within page_unit max_page_bytes c.page_bytes && (c.page_bytes % page_unit == 0)
holds c rule.Pages = is_within min_pages_per_block max_pages_per_block c.pages_per_block
holds c rule.Blocks = is_within 1 max_blocks_per_die c.blocks_per_die
holds c rule.Dies = is_within 1 max_dies c.dies
holds c rule.Slots =
    nat_le (slots_of (shape_of c)) max_slots && nat_le (image_bytes (shape_of c)) max_image_bytes
holds c rule.Logical = nat_le 1 c.logical
holds c rule.Pending = is_within 1 max_pending c.pending
holds c rule.Space =
    nat_le (c.logical + c.pending + 1) ((blocks_of (shape_of c) - 1) * c.pages_per_block)

-- the shape where this rule holds and those after it give it
abbrev pub after_rule : Config → ConfigError → Result Shape ConfigError → Result Shape ConfigError
after_rule c rule rest = if holds c rule then rest else Err rule

-- the shape, or the first rule that is broken
abbrev pub checked : Config → Result Shape ConfigError
checked c =
    after_rule c rule.Page
    (after_rule c rule.Pages (after_rule c rule.Blocks (after_rule c rule.Dies
    (after_rule c rule.Slots
    (after_rule c rule.Logical (after_rule c rule.Pending (after_rule c rule.Space
    (Ok (shape_of c)))))))))

-- the bounds of a shape that passed the check
pub record IsShape (s : Shape) : Type 0 where
  pub page_least : page_unit ≤ s.page_bytes
  pub page_most : s.page_bytes ≤ max_page_bytes
  pub pages_least : min_pages_per_block ≤ s.pages_per_block
  pub pages_most : s.pages_per_block ≤ max_pages_per_block
  pub blocks_least : 1 ≤ s.blocks_per_die
  pub blocks_most : s.blocks_per_die ≤ max_blocks_per_die
  pub dies_least : 1 ≤ s.dies
  pub dies_most : s.dies ≤ max_dies
  pub slots_most : slots_of s ≤ max_slots
  pub image_most : image_bytes s ≤ max_image_bytes

-- the bounds of a configuration that passed the check
pub record IsConfig (c : Config) : Type 0 where
  pub shape : IsShape (shape_of c)
  pub logical : 1 ≤ c.logical
  pub pending_least : 1 ≤ c.pending
  pub pending_most : c.pending ≤ max_pending
  pub space : c.logical + c.pending + 1 ≤ (blocks_of (shape_of c) - 1) * c.pages_per_block
