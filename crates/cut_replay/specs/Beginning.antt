-- How a session begins that serves a list of commands.
use Rattle.std.specs.Prelude.{◌≡◌, Bool, true, false}
use Rattle.tx_types.specs.declared.config.Config.{Config}
use Rattle.flash_model.specs.Flash.{FlashState}
use Rattle.flash_model.specs.Operations.{moment_of}
use Rattle.cut_replay.specs.FlashCalls.{BeginsFlash}
use Rattle.cut_replay.specs.FlashRun.{mentions_in, first_point}
use Rattle.mounted_session.specs.Devices.{MountsIn, ReadsFew}
use Rattle.mounted_session.specs.Sessions as sessions
use Rattle.cut_replay.specs.Sessions.{DeviceSession, point_of, flash_in, IsSoundFlash, StandsAt}

-- It is at the first point of its flash, mounted or not, with the image that was handed in, which is sound. A flash
-- with power was mounted, unless that met a fault.
pub record Begins {F : Type 0}
    (state : F → FlashState) (its : Config) (init : FlashState) (s : DeviceSession F) : Type 0 where
  pub sound : IsSoundFlash its init
  pub up : Bool
  pub first : BeginsFlash its init up (state (flash_in s))
  pub moment : moment_of (state (flash_in s)) ≡ moment_of init
  pub live : up ≡ true → (state (flash_in s)).live ≡ true
  pub point : point_of state its s ≡ first_point its up (state (flash_in s))
  pub stands : StandsAt state its (mentions_in its (moment_of init)) false s

-- a live flash was mounted, once, and any other is as it was
pub record MountsFirst {F : Type 0} (state : F → FlashState) (its : Config) (flash : F) (s : DeviceSession F) :
    Type 0 where
  pub mounts : sessions.MountsFirst state (MountsIn state its) flash s
  pub met : (state flash).live ≡ true → sessions.IfAlone (λ new. ReadsFew its (state flash) (state new)) s
