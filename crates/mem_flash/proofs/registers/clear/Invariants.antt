use Rattle.mem_flash.proofs.Common.{◌≡◌, ◌++◌, map, take, drop}
use Rattle.mem_flash.proofs.Loaded.{emptied}
use Rattle.mem_flash.proofs.registers.clear.Given as goal

abbrev pub invariant-loop-register : goal.invariant-loop-register
invariant-loop-register l =
    l.registers ≡ map emptied (take l.register-index l.initial.registers) ++ drop l.register-index l.initial.registers
