-- A store of keys as its callers see it.
use Rattle.std.specs.Prelude.{◌≡◌, ℕ, ◌<◌, Bool, true, false, []}
use Rattle.flash_model.specs.Flash.{FlashState}
use Rattle.flash_model.specs.Calls.{Carries}
use Rattle.flash_model.specs.Operations.{moment_of}
use Rattle.tx_types.specs.declared.config.Config.{Config}
use Rattle.array_machine.specs.ArrayState.{Pages, page_at}
use Rattle.tx_engine.specs.DeviceState.{DeviceState}
use Rattle.page_keys.specs.Buckets.{AreBuckets, IsBucket, encodes}
use Rattle.page_keys.specs.declared.answers.KeyError.{KeyError}
use Rattle.page_keys.specs.declared.answers.KeyError.TheVariants as failed

-- the device, and whether a call met a fault
pub record KeyStoreState (F : Type 0) : Type 0 where
  pub device : DeviceState F
  pub broken : Bool

-- nothing is open, and each page is a bucket
pub record HasKeys {F : Type 0} (s : DeviceState F) : Type 0 where
  pub closed : s.machine.entries ≡ []
  pub buckets : AreBuckets s.config s.machine.pages

-- only the flash may differ, which was read from: it has the same moment
pub record OnlyReads {F : Type 0} (state : F → FlashState) (old new : DeviceState F)
    (broken : Bool) : Type 0 where
  pub stays : new ≡ record old { flash = new.flash }
  pub moment : moment_of (state new.flash) ≡ moment_of (state old.flash)
  pub carries : Carries (state old.flash) (state new.flash) broken

abbrev pub is_opening_fault : KeyError → Bool
is_opening_fault (failed.Bucket page) = false
is_opening_fault failed.Fault = true
is_opening_fault failed.Memory = false

-- the least page of an array that is no bucket
pub record IsFirstBad (its : Config) (pages : Pages) (page : ℕ) : Type 0 where
  pub exists : page < its.logical
  pub bad : ¬ IsBucket its.page_bytes its.logical page
      (encodes its.page_bytes (page_at pages page))
  pub before : (earlier : ℕ) → earlier < page →
      IsBucket its.page_bytes its.logical earlier
      (encodes its.page_bytes (page_at pages earlier))

abbrev pub OpensNot : {F : Type 0} → DeviceState F → KeyError → Type 0
OpensNot s (failed.Bucket page) = IsFirstBad s.config s.machine.pages page
OpensNot s failed.Fault = Unit {0}
OpensNot s failed.Memory = Unit {0}
