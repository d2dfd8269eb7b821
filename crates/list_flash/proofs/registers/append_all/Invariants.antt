use Rattle.std.proofs.Common.{◌≤◌, length, map, drop}
use Rattle.flash_model.specs.Operations.{program_of}
use Rattle.list_flash.specs.Registers.{loads_of}
use Rattle.list_flash.proofs.Loaded.{IsPart}
use Rattle.list_flash.proofs.registers.append_all.Given as goal

abbrev pub invariant-loop-register : goal.invariant-loop-register
invariant-loop-register l = record {
  part : IsPart l.initial.list.items l.list.items
      (map program_of (loads_of (drop l.register-index l.registers)))
      (map program_of (loads_of l.registers));
  within : length l.list.items ≤ l.limit;
}
