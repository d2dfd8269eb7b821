use Rattle.mem_flash.proofs.Common.{ap, sym, subst, arith, Shape, AreRegisters, SlotsState}
use Rattle.mem_flash.proofs.memory.MemFlash.from_bytes.Goals as goal

pub invariant_of-result : goal.invariant_of-result
invariant_of-result c = record {
  registers =
      subst (λ (shape : Shape). AreRegisters shape c.in_ok-empty_registers.field-0.items)
      (sym (ap (λ (s : SlotsState). s.shape) c.new.ensures))
      c.in_ok-empty_registers.ensures.room;
  within = omega arith;
  few = omega arith;
}
