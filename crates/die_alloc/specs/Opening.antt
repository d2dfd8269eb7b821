-- The block table of a flash whose slots read so.
use Rattle.std.specs.Prelude.{ℕ, suc, Bool, ◌==◌, List, [], ◌∷◌, map, if◌then◌else◌}
use Rattle.std.specs.List.{list_all, range_with_len}
use Rattle.tx_types.specs.declared.config.Shape.{Shape}
use Rattle.tx_types.specs.declared.config.BlockState.TheVariants.{Spare, Clean, Shut}
use Rattle.tx_types.specs.Config.{blocks_of}
use Rattle.flash_model.specs.declared.flash.Seen.{Seen}
use Rattle.die_alloc.specs.declared.block_use.BlockUse.{BlockUse}
use Rattle.die_alloc.specs.BlocksState.{BlocksState}
use Rattle.flash_model.specs.Readings.{reads_blank, seen_in_block}

-- how many of the first slots are used: those up to the last one that is not blank
unfoldable pub used_in : List Seen → ℕ
used_in [] = 0
used_in (how ∷ rest) = if list_all reads_blank (how ∷ rest) then 0 else suc (used_in rest)

-- what is kept of a block of slots that read so: it is the spare; else it is clean where all are blank; else it is
-- shut, with its slots used up to the last that is not blank
abbrev pub use_if : Bool → List Seen → BlockUse
use_if is_spare its_slots =
    if is_spare then record { state = Spare; used = 0 }
    else if list_all reads_blank its_slots then record { state = Clean; used = 0 }
    else record { state = Shut; used = used_in its_slots }

-- what is kept of each block of these slots
abbrev pub use_in : Shape → List Seen → ℕ → ℕ → BlockUse
use_in shape slots spare block = use_if (block == spare) (seen_in_block shape slots block)

-- the block table of slots that read so, with this spare
abbrev pub opening_table : Shape → List Seen → ℕ → BlocksState
opening_table shape slots spare = record {
  shape = shape;
  blocks = map (use_in shape slots spare) (range_with_len 0 (blocks_of shape));
  spare = spare;
  cursor = 0;
}
