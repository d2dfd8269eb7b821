-- How a store keeps its flash and its tables.
use Rattle.std.specs.Prelude.{◌≡◌, length}
use Rattle.tx_engine.specs.StoreState.{StoreState}
use Rattle.tx_engine.specs.declared.store.Store.TheInside.{Inside}

abbrev pub stored_of : {F R : Type 0} → Inside F R → StoreState F
stored_of s = record { flash = s.flash; noted = s.index; table = s.blocks; unsure = s.unsure }

-- there is room for one page
pub record StoreInvariant {F R : Type 0} (s : Inside F R) : Type 0 where
  pub room : length s.room.items ≡ s.index.config.page_bytes
