use Rattle.std.proofs.Common.{◌≡◌, ◌+◌, ◌≤◌, length, drop}
use Rattle.list_flash.specs.Registers.{loads_of}
use Rattle.list_flash.proofs.registers.count_loaded.Given as goal

abbrev pub invariant-loop-register : goal.invariant-loop-register
invariant-loop-register l = record {
  count : l.count + length (loads_of (drop l.register-index l.registers)) ≡ length (loads_of l.registers);
  few : l.count ≤ l.register-index;
}
