use Rattle.desk_tasks.proofs.Common.{◌≡◌, ℕ, List, length}
use Rattle.std.proofs.Common.{◌≤◌}
use Rattle.host_protocol.specs.declared.command.Command.{Command}
use Rattle.desk_tasks.specs.CommandReading.{HasRead, length_of}
use Rattle.desk_tasks.proofs.reading.CommandReader.next.Given as goal

abbrev pub invariant-loop-line : goal.invariant-loop-line
invariant-loop-line l = record {
  read : (bytes : List ℕ) → (commands : List Command) → HasRead bytes commands l.initial.self →
      HasRead bytes commands l.self;
  rest : length l.self.rest.now ≤ length l.initial.self.rest.now;
  length : length_of l.self ≤ length_of l.initial.self;
  size : l.self.page_bytes ≡ l.initial.self.page_bytes;
}

abbrev pub decreases-loop-line : goal.decreases-loop-line
decreases-loop-line l = length l.self.rest.now
