use Rattle.std.proofs.Common.{sym, subst, arith}
use Rattle.std.proofs.lemmas.List.{with_items_is}
use Rattle.list_flash.specs.Registers.{AreRegisters}
use Rattle.list_flash.proofs.firing.ListFlashWide.clear.Goals as goal

pub invariant_of-self : goal.invariant_of-self
invariant_of-self c =
    let shape = c.self.inside.shape in
    let items = with_items_is c.self.inside.registers c.clear.new.registers (omega arith) in
    record {
      done = c.self.invariant.done;
      within = c.self.invariant.within;
      registers =
          subst (AreRegisters shape) (sym items)
          (c.clear.ensures.room shape (subst (AreRegisters shape) (sym c.deref_mut.ensures.value)
          c.self.invariant.registers));
    }
