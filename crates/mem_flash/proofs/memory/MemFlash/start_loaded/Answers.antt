use Rattle.mem_flash.proofs.Common.{◌≡◌, List, length, ap, sym, subst, arith, with_items_is, Shape, AreRegisters, SlotsState}
use Rattle.std.specs.Prelude.{Vec}
use Rattle.std.specs.Vec.{with_items}
use Rattle.mem_flash.specs.declared.registers.Register.{Register}
use Rattle.mem_flash.proofs.memory.MemFlash.start_loaded.Goals as goal

-- there is a register for each die after they were changed, since the shape stays
still : {Z : Type 0} (v : Vec Register Z) (now : List Register) (old new : Shape) → new ≡ old → length now ≡ v.len
    → AreRegisters old now → AreRegisters new (with_items v now).items
still v now old new same long are =
    subst (AreRegisters new) (sym (with_items_is v now long)) (subst (λ shape. AreRegisters shape now) (sym same) are)

pub invariant_of-self : goal.invariant_of-self
invariant_of-self c = record {
  registers =
      still c.self.inside.registers c.clear.new.registers c.self.inside.slots.shape c.write_loaded.new.slots.shape
      (ap (λ (s : SlotsState). s.shape) c.write_loaded.ensures) (omega arith)
      (c.clear.ensures.room c.self.inside.slots.shape
      (subst (AreRegisters c.self.inside.slots.shape) (sym c.deref_mut.ensures.value) c.self.invariant.registers));
  within = c.self.invariant.within;
  few = c.self.invariant.few;
}

pub invariant_of-self-2 : goal.invariant_of-self-2
invariant_of-self-2 c = record {
  registers =
      still c.self.inside.registers c.clear.new.registers c.self.inside.slots.shape c.write_loaded.new.slots.shape
      (ap (λ (s : SlotsState). s.shape) c.write_loaded.ensures) (omega arith)
      (c.clear.ensures.room c.self.inside.slots.shape
      (subst (AreRegisters c.self.inside.slots.shape) (sym c.deref_mut.ensures.value) c.self.invariant.registers));
  within = c.self.invariant.within;
  few = c.self.invariant.few;
}
