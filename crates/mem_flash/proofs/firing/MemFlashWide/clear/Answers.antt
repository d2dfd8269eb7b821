use Rattle.mem_flash.proofs.Common.{sym, subst, arith, with_items_is, AreRegisters}
use Rattle.mem_flash.proofs.firing.MemFlashWide.clear.Goals as goal

pub invariant_of-self : goal.invariant_of-self
invariant_of-self c =
    let shape = c.self.inside.slots.shape in
    let items = with_items_is c.self.inside.registers c.clear.new.registers (omega arith) in
    record {
      registers =
          subst (AreRegisters shape) (sym items)
          (c.clear.ensures.room shape (subst (AreRegisters shape) (sym c.deref_mut.ensures.value)
          c.self.invariant.registers));
      within = c.self.invariant.within;
      few = c.self.invariant.few;
    }
