use Rattle.desk_tasks.proofs.Common.{◌≡◌, List, take, MemFlashState, state_of}
use Rattle.std.proofs.Common.{◌++◌}
use Rattle.host_protocol.specs.declared.command.Command.{Command}
use Rattle.cut_replay.specs.Sessions.{IsSoundOrSame, flash_in}
use Rattle.desk_tasks.specs.Driving.{HasRunCounted}
use Rattle.desk_tasks.proofs.driving.serve_part.Given as goal

abbrev pub invariant-loop-command : goal.invariant-loop-command
invariant-loop-command g l = record {
  config : l.server.config ≡ l.initial.server.config;
  runs : (flash : MemFlashState) → (commands : List Command) →
      HasRunCounted l.initial.server.config flash commands l.initial.server.session l.initial.tally →
      HasRunCounted l.initial.server.config flash (commands ++ take l.command-index l.part) l.server.session l.tally;
  kept : (flash : MemFlashState) →
      IsSoundOrSame l.initial.server.config (state_of flash) (state_of (flash_in l.initial.server.session)) →
      IsSoundOrSame l.initial.server.config (state_of flash) (state_of (flash_in l.server.session));
}
