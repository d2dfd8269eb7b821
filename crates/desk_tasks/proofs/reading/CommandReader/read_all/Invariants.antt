use Rattle.desk_tasks.proofs.Common.{◌≡◌, ℕ, List, length}
use Rattle.std.proofs.Common.{◌≤◌}
use Rattle.host_protocol.specs.declared.command.Command.{Command}
use Rattle.desk_tasks.specs.CommandReading.{HasRead, length_of}
use Rattle.desk_tasks.proofs.reading.CommandReader.read_all.Given as goal

abbrev pub invariant-loop-command : goal.invariant-loop-command
invariant-loop-command l = record {
  read : (bytes : List ℕ) → (commands : List Command) → HasRead bytes commands l.initial.self →
      (more : List Command) × HasRead bytes more l.self;
  length : length_of l.self ≤ length_of l.initial.self;
  size : l.self.page_bytes ≡ l.initial.self.page_bytes;
}

abbrev pub decreases-loop-command : goal.decreases-loop-command
decreases-loop-command l = length l.self.rest.now
