use Rattle.mem_flash.proofs.Common.{◌≡◌, ◌<◌, All, drop, slots_of, loads_of}
use Rattle.mem_flash.proofs.Loaded.{left_from}
use Rattle.mem_flash.proofs.registers.write_loaded.Given as goal

abbrev pub invariant-loop-register : goal.invariant-loop-register
invariant-loop-register l = record {
  shape : l.slots.shape ≡ l.initial.slots.shape;
  exist : All (λ load. load.at < slots_of l.initial.slots.shape) (loads_of (drop l.register-index l.registers));
  left :
      left_from l.slots.image l.how (loads_of (drop l.register-index l.registers))
      ≡ left_from l.initial.slots.image l.initial.how (loads_of l.registers);
}
