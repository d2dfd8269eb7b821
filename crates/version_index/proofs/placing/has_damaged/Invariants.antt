use Rattle.version_index.proofs.Common.{◌≡◌, ℕ, ◌<◌, get_or}
use Rattle.std.specs.Prelude.{false}
use Rattle.flash_model.specs.declared.flash.Seen.TheVariants as seen
use Rattle.slot_tables.specs.declared.slots.SlotUse.TheVariants as slot
use Rattle.version_index.specs.Filling.{first_use}
use Rattle.version_index.proofs.placing.has_damaged.Given as goal

abbrev pub invariant-loop-at : goal.invariant-loop-at
invariant-loop-at l =
    l.some ≡ false → (at : ℕ) → at < l.at → first_use (get_or l.seen at seen.Blank) ≡ slot.Blank
