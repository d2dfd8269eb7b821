-- What serving a list of commands comes to.
use Rattle.std.specs.Prelude.{◌≡◌, ◌⊎◌, ℕ, ◌+◌, ◌<◌, false, List, [], ◌∷◌, ◌++◌, length, take, map, Option, OnOk, Result, Ok, Err}
use Rattle.tx_types.specs.declared.config.Config.{Config}
use Rattle.tx_types.specs.Config.{shape_of}
use Rattle.flash_model.specs.Calls.{Carries}
use Rattle.flash_model.specs.Flash.{FlashState}
use Rattle.flash_model.specs.Operations.{moment_of}
use Rattle.judged_records.specs.Images.{IsLeastImageBreach}
use Rattle.mounted_session.specs.Mounting.{StaysQuiet}
use Rattle.host_protocol.specs.declared.command.Command.{Command}
use Rattle.host_protocol.specs.declared.reply.Reply.{Reply}
use Rattle.cut_replay.specs.EndsLost.{EndsLost}
use Rattle.cut_replay.specs.FlashCalls.{BeginsFlash}
use Rattle.cut_replay.specs.FlashRun.{Point, IsFlashRun, first_point, last_point}
use Rattle.cut_replay.specs.Watching.{ToldReply, Grew, text_of_all, replies_told, flashes_at}
use Rattle.cut_replay.specs.Bounds.{CountsBreaks}
use Rattle.host_protocol.specs.Replies.{text_of}
use Rattle.cut_replay.specs.Sessions.{IsSoundOrSame}
use Rattle.cut_replay.specs.UnmountedRun.{UnmountedRun, StartsUnmounted, EndsUnmounted, last_flash}
use Rattle.cut_replay.specs.declared.serving.ServeError.{ServeError}
use Rattle.cut_replay.specs.declared.serving.ServeError.TheVariants as failed

-- what a watch has been told: the text of the replies, each with its moment, and the whole flash at
-- each, where it tells these
pub record Watched : Type 0 where
  pub text : Option (List ℕ)
  pub kept : Option (List ToldReply)
  pub flashes : Option (List FlashState)

-- There is one run on the flash over these commands, and in each point of it the whole flash. A flash with power is
-- mounted first. The flash that comes back has the moment, the shape and the count of faults of the last point. Of the
-- replies the first `told` were told, each with the flash of its point.
pub record ServesRun
    (its : Config) (cs : List Command) (told : ℕ) (old new : FlashState)
    (before after : Watched) : Type 0 where
  pub replies : List Reply
  pub points : List Point
  pub run : IsFlashRun its (moment_of old) cs replies points
  pub begins : BeginsFlash its old run.up run.flash
  pub left : StaysQuiet (last_point (first_point its run.up run.flash) points).flash new
  pub text : Grew before.text after.text (text_of_all (take told replies))
  pub kept : Grew before.kept after.kept (replies_told (take told replies) (take told points))
  pub flashes : Grew before.flashes after.flashes (flashes_at (take told points))

-- the flash that comes back is that of the last point
abbrev pub EndsThere : (its : Config) (cs : List Command) (told : ℕ) (old new : FlashState)
    (before after : Watched) → ServesRun its cs told old new before after → Type 0
EndsThere its cs told old new before after serves =
    new ≡ (last_point (first_point its serves.run.up serves.run.flash) serves.points).flash

-- the first `told` commands were served and told, and the one after them ended for want of memory in its mount
pub record EndsInMount (its : Config) (cs : List Command) (told : ℕ) (old new : FlashState)
    (before after : Watched) : Type 0 where
  pub next : Command
  pub is : take (told + 1) cs ≡ take told cs ++ next ∷ []
  pub between : FlashState
  pub serves : ServesRun its (take told cs) told old between before after
  pub lost : EndsLost its next (last_point (first_point its serves.run.up serves.run.flash) serves.points) new

-- there was no memory before the first command: nothing was told, and the flash was read at most, with the power that
-- it had
pub record EndsBefore (old new : FlashState) (before after : Watched) : Type 0 where
  pub still : StaysQuiet old new
  pub calls : Carries old new false
  pub untold : after ≡ before

-- what serving comes to where the image handed in was sound
abbrev pub ServesSound : Config → List Command → FlashState → FlashState → Watched → Watched →
    Result (Unit {0}) ServeError → Type 0
ServesSound its cs old new before after (Ok u) =
    (serves : ServesRun its cs (length cs) old new before after)
    × EndsThere its cs (length cs) old new before after serves
ServesSound its cs old new before after (Err failed.Memory) =
    EndsBefore old new before after
    ⊎ ((told : ℕ) × (told < length cs)
    × (ServesRun its (take told cs) told old new before after
    ⊎ (ServesRun its (take (told + 1) cs) told old new before after
    ⊎ EndsInMount its cs told old new before after)))
ServesSound its cs old new before after (Err (failed.Unsound law slot)) = ⊥

-- the breaks that were told were counted; where memory ran out nothing is said of the count
abbrev pub CountsTold : List Reply → FlashState → FlashState → Result (Unit {0}) ServeError → Type 0
CountsTold replies old new (Err failed.Memory) = Unit {0}
CountsTold replies old new _ = CountsBreaks replies old new

-- What serving comes to where the image handed in was not sound: no command is done, and nothing is written. The first
-- `told` commands were answered, all of them where the answer is Ok, and this was told, each reply with the moment
-- handed in and the whole flash as it was then.
pub record ServesUnsound
    (its : Config) (cs : List Command) (old new : FlashState) (before after : Watched)
    (result : Result (Unit {0}) ServeError) : Type 0 where
  pub told : ℕ
  pub replies : List Reply
  pub first : FlashState
  pub points : List FlashState
  pub begins : StartsUnmounted its cs old first told new result
  pub run : UnmountedRun its first (take told cs) replies points
  pub all : OnOk result (told ≡ length cs)
  pub ends : EndsUnmounted its cs told (last_flash first points) new result
  pub still : moment_of new ≡ moment_of old
  pub text : Grew before.text after.text (text_of_all replies)
  pub kept : Grew before.kept after.kept
      (map (λ r. record { text = text_of r; moment = moment_of old }) replies)
  pub flashes : Grew before.flashes after.flashes points
  pub faults : CountsTold replies old new result

-- What serving comes to whatever the image was. A flash that is refused has the moment that it had
-- when it was handed in, and its image is not sound: the first law that it breaks, and the slot
-- that the law names. Any other flash comes back with a sound image, where its image was sound, or
-- with that moment.
abbrev pub RefusesUnsound : Config → FlashState → FlashState → Result (Unit {0}) ServeError → Type 0
RefusesUnsound its old new (Err (failed.Unsound law slot)) =
    (moment_of new ≡ moment_of old)
    × IsLeastImageBreach its.protocol its.logical (shape_of its) old.image
    (record { law = law; slot = slot })
RefusesUnsound its old new (Err failed.Memory) = IsSoundOrSame its old new
RefusesUnsound its old new (Ok u) = IsSoundOrSame its old new
