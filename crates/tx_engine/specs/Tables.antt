-- How a device keeps what it stands for.
use Rattle.std.specs.Prelude.{◌≡◌, false}
use Rattle.tx_types.specs.declared.config.Protocol.{Protocol}
use Rattle.flash_model.specs.Flash.{FlashState}
use Rattle.collector.specs.Known.{array_known}
use Rattle.open_table.specs.OpenTransactionsState.{OpenTransactionsState, entries_of, namings_of}
use Rattle.tx_engine.specs.DeviceState.{DeviceState, Stands}
use Rattle.tx_engine.specs.StoreState.{StoreState}
use Rattle.tx_engine.specs.declared.device.Device.TheInside.{Inside}

-- what a store and its open transactions stand for
abbrev pub device_in : {F : Type 0} → (F → FlashState) → StoreState F → OpenTransactionsState → DeviceState F
device_in state s t = record {
  flash = s.flash;
  config = s.noted.config;
  machine = record { pages = array_known s.noted (state s.flash).image; entries = entries_of t };
  namings = namings_of t;
  noted = s.noted;
  table = s.table;
  unsure = s.unsure;
  dropped = false;
}

abbrev pub device_of : {F R : Type 0} → (F → FlashState) → Inside F R → DeviceState F
device_of state d = record (device_in state d.store d.transactions) { dropped = d.dropped }

-- a device that is not dropped stands for its array

pub record DeviceInvariant {F R : Type 0} (state : F → FlashState) (protocol : Protocol)
    (d : Inside F R) : Type 0 where
  pub stands : d.dropped ≡ false → Stands state (device_in state d.store d.transactions)
  pub rule : d.store.noted.config.protocol ≡ protocol
  pub page_bytes : d.transactions.page_bytes ≡ d.store.noted.config.page_bytes
  pub logical : d.transactions.logical ≡ d.store.noted.config.logical
  pub pending : d.transactions.pending ≡ d.store.noted.config.pending
