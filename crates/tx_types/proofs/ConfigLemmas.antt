-- What a configuration that passes the check is known to be.
use Rattle.std.proofs.Common.{◌≡◌, ℕ, ◌≤◌, Bool, true, false, cond, refl, arith, sym, Result, Ok, Err}
use Rattle.std.specs.Prelude.{nat_le}
use Rattle.std.proofs.lemmas.Bool.{and_parts}
use Rattle.std.proofs.lemmas.Bool.Decides.{nat_tests}
use Rattle.tx_types.specs.Config.{checked, holds, shape_of, slots_of, image_bytes, is_within, IsConfig}
use Rattle.tx_types.specs.Limits.{page_unit, max_page_bytes, min_pages_per_block, max_pages_per_block, max_blocks_per_die, max_dies, max_slots, max_image_bytes}
use Rattle.tx_types.specs.Limits.{max_pending}
use Rattle.tx_types.specs.declared.config.Config.{Config}
use Rattle.tx_types.specs.declared.config.Shape.{Shape}
use Rattle.tx_types.specs.declared.config.ConfigError.{ConfigError}
use Rattle.tx_types.specs.declared.config.ConfigError.TheVariants as rule

after_ok : (b : Bool) (e : ConfigError) (rest : Result Shape ConfigError) (s : Shape) → cond b rest (Err e) ≡ Ok s →
    (b ≡ true) × (rest ≡ Ok s)
after_ok true e rest s h = (refl, h)
after_ok false e rest s h = cc

at_most : (a b : ℕ) → nat_le a b ≡ true → a ≤ b
at_most a b h = grind (arith, nat_tests)

within : (low high n : ℕ) → is_within low high n ≡ true → (low ≤ n) × (n ≤ high)
within low high n h = let p = and_parts (nat_le low n) (nat_le n high) h in (at_most low n p.0, at_most n high p.1)

-- a shape is answered only for numbers that meet the rules, and it is their shape
pub checked_config : (c : Config) (s : Shape) → checked c ≡ Ok s → IsConfig c × (s ≡ shape_of c)
checked_config c s h =
    let page = after_ok (holds c rule.Page) rule.Page _ s h in
    let pages = after_ok (holds c rule.Pages) rule.Pages _ s page.1 in
    let blocks = after_ok (holds c rule.Blocks) rule.Blocks _ s pages.1 in
    let dies = after_ok (holds c rule.Dies) rule.Dies _ s blocks.1 in
    let slots = after_ok (holds c rule.Slots) rule.Slots _ s dies.1 in
    let logical = after_ok (holds c rule.Logical) rule.Logical _ s slots.1 in
    let pending = after_ok (holds c rule.Pending) rule.Pending _ s logical.1 in
    let space = after_ok (holds c rule.Space) rule.Space _ s pending.1 in
    let page_bytes = within page_unit max_page_bytes c.page_bytes
    (and_parts (is_within page_unit max_page_bytes c.page_bytes) _ page.0).0 in
    let sizes = and_parts (nat_le (slots_of (shape_of c)) max_slots) (nat_le (image_bytes (shape_of c)) max_image_bytes)
    slots.0 in (
      record {
        shape = record {
          page_least = page_bytes.0;
          page_most = page_bytes.1;
          pages_least = (within min_pages_per_block max_pages_per_block c.pages_per_block pages.0).0;
          pages_most = (within min_pages_per_block max_pages_per_block c.pages_per_block pages.0).1;
          blocks_least = (within 1 max_blocks_per_die c.blocks_per_die blocks.0).0;
          blocks_most = (within 1 max_blocks_per_die c.blocks_per_die blocks.0).1;
          dies_least = (within 1 max_dies c.dies dies.0).0;
          dies_most = (within 1 max_dies c.dies dies.0).1;
          slots_most = at_most _ _ sizes.0;
          image_most = at_most _ _ sizes.1;
        };
        logical = at_most 1 c.logical logical.0;
        pending_least = (within 1 max_pending c.pending pending.0).0;
        pending_most = (within 1 max_pending c.pending pending.0).1;
        space = at_most _ _ space.0;
      },
      sym (cc (space.1)),
    )
