-- A flash with the tables that are kept of it.
use Rattle.std.specs.Prelude.{◌≡◌}
use Rattle.tx_types.specs.declared.config.Protocol.{Protocol}
use Rattle.flash_model.specs.Flash.{FlashState}
use Rattle.judged_records.specs.IndexState.{IndexState}
use Rattle.die_alloc.specs.BlocksState.{BlocksState}
use Rattle.collector.specs.declared.unsure.Unsure.{Unsure}
use Rattle.collector.specs.declared.unsure.Unsure.TheVariants as unsure
use Rattle.collector.specs.Matches.{Matches}

-- a flash, what is noted of its slots, what is kept of its blocks, and the place whose contents are not known
pub record StoreParts : Type 0 where
  pub flash : FlashState
  pub noted : IndexState
  pub table : BlocksState
  pub unsure : Unsure

abbrev pub store_parts : FlashState → IndexState → BlocksState → Unsure → StoreParts
store_parts flash noted table unsure =
    record { flash = flash; noted = noted; table = table; unsure = unsure }

-- the tables match the flash, under the rule of this protocol
pub record StorePartsInvariant (p : Protocol) (a : StoreParts) : Type 0 where
  pub matches : Matches a.flash a.noted a.table a.unsure
  pub rule : a.noted.config.protocol ≡ p

-- and no place is unsure
pub record IsSure (p : Protocol) (a : StoreParts) : Type 0 where
  pub matches : Matches a.flash a.noted a.table a.unsure
  pub rule : a.noted.config.protocol ≡ p
  pub nothing : a.unsure ≡ unsure.Nothing
