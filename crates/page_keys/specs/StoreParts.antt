-- How a store is kept.
use Rattle.std.specs.Prelude.{◌≡◌, false, length}
use Rattle.page_keys.specs.Stores.{KeyStoreState, HasKeys}
use Rattle.page_keys.specs.declared.store.KeyStore.TheInside.{Inside}

abbrev pub keyed_in : {F R : Type 0} → Inside F R → KeyStoreState F
keyed_in k = record { device = k.device; broken = k.broken }

pub record KeyStoreInvariant {F R : Type 0} (k : Inside F R) : Type 0 where
  pub kept : k.device.dropped ≡ false
  pub room : length k.room.items ≡ k.device.config.page_bytes
  pub keys : k.broken ≡ false → HasKeys k.device
