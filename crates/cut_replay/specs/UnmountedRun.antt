-- A run on a flash whose image is not sound: no mount succeeds, and no command is done.
use Rattle.std.specs.Prelude.{◌≡◌, ◌⊎◌, ℕ, ◌+◌, ◌<◌, false, not, List, [], ◌∷◌, ◌++◌, length, take, MatchBool, Result, Ok, Err}
use Rattle.tx_types.specs.declared.config.Config.{Config}
use Rattle.flash_model.specs.Calls.{Carries}
use Rattle.flash_model.specs.Flash.{FlashState}
use Rattle.mounted_session.specs.Mounting.{StaysQuiet}
use Rattle.host_protocol.specs.declared.command.Command.{Command}
use Rattle.host_protocol.specs.declared.reply.Reply.{Reply}
use Rattle.host_protocol.specs.declared.reply.Reply.TheVariants as reply
use Rattle.array_runs.specs.Breaks.{is_cut}
use Rattle.array_runs.specs.Run.{is_arm}
use Rattle.cut_replay.specs.FlashCalls.{ArmsFlash, MountsFlash, BeginsFlash}
use Rattle.cut_replay.specs.declared.serving.ServeError.{ServeError}
use Rattle.cut_replay.specs.declared.serving.ServeError.TheVariants as failed

-- A mount met a fault, and the command was not done. The reply is `cut` exactly where power went off in it.
pub record FailsUnmounted (its : Config) (old : FlashState) (r : Reply) (new : FlashState) : Type 0 where
  pub told : (r ≡ reply.Fault) ⊎ (r ≡ reply.Cut)
  pub cut : is_cut r ≡ not new.live
  pub mounts : MountsFlash its false old new

-- what a command does to the flash where the device can't be mounted, and its reply
abbrev pub ServesUnmounted : Config → Command → FlashState → Reply → FlashState → Type 0
ServesUnmounted its c old r new =
    MatchBool (is_arm c) ((r ≡ reply.Armed) × ArmsFlash c old new) (FailsUnmounted its old r new)

-- a run over a list of commands: one reply for each, and the flash as it was when the reply was given
abbrev pub UnmountedRun : Config → FlashState → List Command → List Reply → List FlashState → Type 0
UnmountedRun its old [] [] [] = Unit {0}
UnmountedRun its old (c ∷ cs) (r ∷ rs) (s ∷ ss) = ServesUnmounted its c old r s × UnmountedRun its s cs rs ss
UnmountedRun its old _ _ _ = ⊥

-- the flash where it ends
abbrev pub last_flash : FlashState → List FlashState → FlashState
last_flash old [] = old
last_flash old (s ∷ ss) = last_flash s ss

-- The flash with which it begins: with power it was mounted, which met a fault. Where serving ended early, it ended in
-- the command after those that were told, or before the first one: then the flash that was handed in was read at most,
-- with the power that it had.
abbrev pub StartsUnmounted : Config → List Command → FlashState → FlashState → ℕ → FlashState →
    Result (Unit {0}) ServeError → Type 0
StartsUnmounted its cs old first told new (Ok u) = BeginsFlash its old false first
StartsUnmounted its cs old first told new (Err why) =
    (BeginsFlash its old false first × (told < length cs))
    ⊎ ((told ≡ 0) × (first ≡ old) × StaysQuiet old new × Carries old new false)

-- one command more was answered, and its reply could not be told
pub record EndsUntold (its : Config) (cs : List Command) (told : ℕ) (old new : FlashState) : Type 0 where
  pub next : Command
  pub is : take (told + 1) cs ≡ take told cs ++ next ∷ []
  pub reply : Reply
  pub serves : ServesUnmounted its next old reply new

-- The flash that comes back is that of the last reply. Where serving ended early, nothing was started on it since and
-- no fault was met, or one command more was answered.
abbrev pub EndsUnmounted : Config → List Command → ℕ → FlashState → FlashState → Result (Unit {0}) ServeError →
    Type 0
EndsUnmounted its cs told last new (Ok u) = new ≡ last
EndsUnmounted its cs told last new (Err (failed.Unsound law slot)) = StaysQuiet last new
EndsUnmounted its cs told last new (Err failed.Memory) = StaysQuiet last new ⊎ EndsUntold its cs told last new
