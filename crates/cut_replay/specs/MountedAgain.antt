-- That a device is mounted again once power was cut in a command, or what was open was dropped.
use Rattle.std.specs.Prelude.{◌≡◌, ◌⊎◌, ℕ, ◌+◌, ◌≤◌, true, List, [], ◌∷◌, count_by}
use Rattle.tx_types.specs.declared.config.Config.{Config}
use Rattle.flash_model.specs.Flash.{FlashState, counted_by}
use Rattle.host_protocol.specs.declared.reply.Reply.{Reply}
use Rattle.array_runs.specs.Run.{is_break}
use Rattle.cut_replay.specs.FlashRun.{IsNotDone, Point}
use Rattle.array_runs.specs.Breaks.{is_lost}

-- after a reply `cut` or `dropped` the device is mounted, unless the command was not done
abbrev pub IsMountedAgain : Config → Point → Reply → Point → Type 0
IsMountedAgain its old r new = is_lost r ≡ true → IsNotDone its old r new ⊎ (new.state.up ≡ true)

-- or the mount after it met a fault, which was counted beside the one of the reply
abbrev pub MountsAfter : Config → Point → Reply → Point → ℕ → ℕ → Type 0
MountsAfter its old r new before now =
    IsMountedAgain its old r new ⊎ ((is_lost r ≡ true) × (counted_by 2 before ≤ now))

-- in a run from this point this many mounts after such replies met a fault
abbrev pub FailedMounts : Config → Point → List Reply → List Point → ℕ → Type 0
FailedMounts its old [] [] failed = failed ≡ 0
FailedMounts its old (r ∷ rs) (p ∷ ps) failed =
    (IsMountedAgain its old r p × FailedMounts its p rs ps failed)
    ⊎ ((is_lost r ≡ true) × ((fewer : ℕ) × (failed ≡ fewer + 1) × FailedMounts its p rs ps fewer))
FailedMounts its old _ _ failed = ⊥

-- the flash counted each of these faults, beside those of the replies
pub record CountsMounts (its : Config) (first : Point) (rs : List Reply) (ps : List Point) (old new : FlashState) :
    Type 0 where
  pub failed : ℕ
  pub mounts : FailedMounts its first rs ps failed
  pub faults : counted_by (count_by is_break rs + failed) old.faults ≤ new.faults
