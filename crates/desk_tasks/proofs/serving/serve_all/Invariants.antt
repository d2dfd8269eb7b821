use Rattle.desk_tasks.proofs.Common.{◌≡◌, ℕ, List, length, Config, MemFlashState}
use Rattle.std.proofs.Common.{◌≤◌}
use Rattle.host_protocol.specs.declared.command.Command.{Command}
use Rattle.desk_tasks.specs.CommandReading.{length_of}
use Rattle.desk_tasks.specs.FileServing.{IsUnderway}
use Rattle.desk_tasks.proofs.serving.serve_all.Given as goal

abbrev pub invariant-loop-command : goal.invariant-loop-command
invariant-loop-command g l = record {
  underway : (its : Config) → (flash : MemFlashState) → (bytes : List ℕ) → (commands : List Command) →
      IsUnderway its flash bytes commands l.initial.server l.initial.reader l.initial.replies →
      (more : List Command) × IsUnderway its flash bytes more l.server l.reader l.replies;
  length : length_of l.reader ≤ length_of l.initial.reader;
  size : l.reader.page_bytes ≡ l.initial.reader.page_bytes;
  config : l.server.config ≡ l.initial.server.config;
}

abbrev pub decreases-loop-command : goal.decreases-loop-command
decreases-loop-command g l = length l.reader.rest.now
