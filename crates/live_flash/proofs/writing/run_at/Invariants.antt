use Rattle.live_flash.proofs.Common.{◌≤◌, ◌+◌, length}
use Rattle.live_flash.specs.Waiting.{AreInRun}
use Rattle.live_flash.proofs.writing.run_at.Given as goal

abbrev pub invariant-loop-count : goal.invariant-loop-count
invariant-loop-count l = record {
  some : 1 ≤ l.count;
  within : l.from + l.count ≤ length l.slots;
  run : AreInRun l.slots l.from l.count;
}
