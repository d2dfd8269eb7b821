-- Serving commands that are drawn, and counting the replies, on the device of a flash.
use Rattle.std.specs.Prelude.{◌≡◌, ℕ, List, length}
use Rattle.tx_types.specs.declared.config.Config.{Config}
use Rattle.flash_model.specs.Flash.{Contents}
use Rattle.mem_flash.specs.MemFlashState.{MemFlashState}
use Rattle.host_protocol.specs.declared.command.Command.{Command}
use Rattle.cut_replay.specs.Sessions.{DeviceSession}
use Rattle.drive_gen.specs.Counting.{HasCounted}
use Rattle.drive_gen.specs.Summary.{summary_line}
use Rattle.drive_gen.specs.Work.{generated}
use Rattle.drive_gen.specs.declared.running_tally.RunningTally.{RunningTally}
use Rattle.desk_tasks.specs.FileServing.{HasRun}
use Rattle.desk_tasks.specs.Runs.{IsRun}

-- a run over these commands leads from the flash to this session, and its replies were counted
pub record HasRunCounted (its : Config) (flash : MemFlashState) (commands : List Command) (s : DeviceSession MemFlashState)
    (tally : RunningTally) : Type 0 where
  pub text : List ℕ
  pub run : HasRun its flash commands s text
  pub counted : HasCounted text tally
  pub number : tally.replies ≡ length commands

-- the line sums up the replies of a run from this image on, over the commands that are drawn
pub record IsSummaryOfRun (its : Config) (image : List Contents) (start count : ℕ) (line : List ℕ) : Type 0 where
  pub left : List Contents
  pub text : List ℕ
  pub run : IsRun its image (generated start count its) left text
  pub said : line ≡ summary_line start count its.protocol (length (generated start count its)) text
