use Rattle.std.proofs.Common.{◌≡◌, ◌++◌, map, take, drop}
use Rattle.list_flash.proofs.Loaded.{emptied}
use Rattle.list_flash.proofs.registers.clear.Given as goal

abbrev pub invariant-loop-register : goal.invariant-loop-register
invariant-loop-register l =
    l.registers ≡ map emptied (take l.register-index l.initial.registers) ++ drop l.register-index l.initial.registers
