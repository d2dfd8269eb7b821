-- How serving ends where memory runs out in the mount after a command by which what was open was lost.
use Rattle.std.specs.Prelude.{false}
use Rattle.tx_types.specs.declared.config.Config.{Config}
use Rattle.flash_model.specs.Flash.{FlashState}
use Rattle.mounted_session.specs.Mounting.{StaysQuiet}
use Rattle.host_protocol.specs.declared.command.Command.{Command}
use Rattle.host_protocol.specs.declared.reply.Reply.{Reply}
use Rattle.cut_replay.specs.FlashRun.{Point, IsPoint, IsLost, first_point}

-- The reply would have been `cut` or `dropped`. Nothing was started on the flash since, and no fault was met.
pub record EndsLost (its : Config) (c : Command) (old : Point) (new : FlashState) : Type 0 where
  pub reply : Reply
  pub met : FlashState
  pub lost : IsLost its c old reply met (first_point its false new)
  pub point : IsPoint its (first_point its false new)
  pub still : StaysQuiet met new
