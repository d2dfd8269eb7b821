-- Serving the commands of a file one at a time, on the device of a flash.
use Rattle.std.specs.Prelude.{◌≡◌, ◌⊎◌, ℕ, List, Result, Ok, Err}
use Rattle.tx_types.specs.declared.config.Config.{Config}
use Rattle.mem_flash.specs.MemFlashState.{MemFlashState, state_of}
use Rattle.host_protocol.specs.Files.{IsFile}
use Rattle.host_protocol.specs.declared.command.Command.{Command}
use Rattle.host_protocol.specs.declared.reply.Reply.{Reply}
use Rattle.cut_replay.specs.FlashRun.{Point}
use Rattle.cut_replay.specs.ServerRuns.{IsServed}
use Rattle.cut_replay.specs.ServerState.{ServerState}
use Rattle.cut_replay.specs.Sessions.{DeviceSession, IsSoundOrSame, flash_in}
use Rattle.cut_replay.specs.Watching.{text_of_all}
use Rattle.desk_tasks.specs.CommandReading.{HasRead}
use Rattle.desk_tasks.specs.Ending.{Ending}
use Rattle.desk_tasks.specs.Stops.{RefusesDevice, RefusesLine, StopsBy}
use Rattle.desk_tasks.specs.declared.output.Failure.{Failure}
use Rattle.desk_tasks.specs.declared.reading.CommandReader.{CommandReader}

-- a run over these commands leads from the flash to this session, and the text is that of its replies
pub record HasRun (its : Config) (flash : MemFlashState) (commands : List Command) (s : DeviceSession MemFlashState)
    (text : List ℕ) : Type 0 where
  pub replies : List Reply
  pub points : List Point
  pub run : IsServed state_of its (state_of flash) commands replies points s
  pub said : text ≡ text_of_all replies

-- the commands that were read of a file were served
pub record IsUnderway (its : Config) (flash : MemFlashState) (bytes : List ℕ) (commands : List Command)
    (server : ServerState MemFlashState) (reader : CommandReader) (text : List ℕ) : Type 0 where
  pub config : server.config ≡ its
  pub size : reader.page_bytes ≡ its.page_bytes
  pub read : HasRead bytes commands reader
  pub run : HasRun its flash commands server.session text
  pub kept : IsSoundOrSame its (state_of flash) (state_of (flash_in server.session))
  pub extras : (state_of (flash_in server.session)).extras ≡ (state_of flash).extras

-- a line of the file is bad, or the device is refused
abbrev pub RefusesFile : Config → MemFlashState → List ℕ → Ending → Type 0
RefusesFile its flash bytes ending =
    RefusesLine its.page_bytes bytes ending ⊎ RefusesDevice its flash.image ending

-- all commands of the file were served
pub record IsServedFile (its : Config) (flash : MemFlashState) (bytes : List ℕ) (server : ServerState MemFlashState)
    (text : List ℕ) : Type 0 where
  pub commands : List Command
  pub file : IsFile its.page_bytes bytes commands
  pub run : HasRun its flash commands server.session text
  pub extras : (state_of (flash_in server.session)).extras ≡ (state_of flash).extras

-- or serving stopped
abbrev pub ServesFile : Config → MemFlashState → List ℕ → ServerState MemFlashState → List ℕ →
    Result (Unit {0}) Failure → Type 0
ServesFile its flash bytes server text (Ok done) = IsServedFile its flash bytes server text
ServesFile its flash bytes server text (Err stopped) = StopsBy (RefusesFile its flash bytes) stopped
