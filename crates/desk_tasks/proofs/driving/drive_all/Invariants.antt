use Rattle.desk_tasks.proofs.Common.{◌≡◌, List, All, MemFlashState, state_of}
use Rattle.std.proofs.Common.{◌++◌}
use Rattle.host_protocol.specs.Commands.{Suits}
use Rattle.host_protocol.specs.declared.command.Command.{Command}
use Rattle.cut_replay.specs.Sessions.{IsSoundOrSame, flash_in}
use Rattle.drive_gen.specs.Parts.{left_of, parts_left}
use Rattle.desk_tasks.specs.Driving.{HasRunCounted}
use Rattle.desk_tasks.proofs.DriveLemmas.{HasPartCounted}
use Rattle.desk_tasks.proofs.driving.drive_all.Given as goal

abbrev pub invariant-loop-server : goal.invariant-loop-server
invariant-loop-server g l = record {
  config : l.server.config ≡ l.initial.server.config;
  work : l.work.config ≡ l.initial.work.config;
  suits : All (Suits l.initial.server.config.page_bytes) (left_of l.work);
  runs : (flash : MemFlashState) → (commands : List Command) →
      HasRunCounted l.initial.server.config flash commands l.initial.server.session l.initial.tally →
      HasPartCounted l.initial.server.config flash (commands ++ left_of l.initial.work) (left_of l.work) l.server.session
      l.tally;
  kept : (flash : MemFlashState) →
      IsSoundOrSame l.initial.server.config (state_of flash) (state_of (flash_in l.initial.server.session)) →
      IsSoundOrSame l.initial.server.config (state_of flash) (state_of (flash_in l.server.session));
}

abbrev pub decreases-loop-server : goal.decreases-loop-server
decreases-loop-server g l = parts_left l.work
