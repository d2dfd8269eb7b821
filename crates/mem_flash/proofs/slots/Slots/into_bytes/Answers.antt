use Rattle.mem_flash.proofs.Common.{◌≡◌, ◌-◌, length, take, drop, sym, arith, length-drop}
use Rattle.std.proofs.lemmas.List.{take_all}
use Rattle.mem_flash.proofs.Kept.{flat-cells}
use Rattle.mem_flash.proofs.slots.Slots.into_bytes.Goals as goal

pub returns-then-self-head-clause-cells : goal.returns-then-self-head-clause-cells
returns-then-self-head-clause-cells c = rw (← c.self.view_is, ← c.if-self-head.true)
    (sym (flat-cells c.self.inside c.self.invariant))

pub returns-clause-cells : goal.returns-clause-cells
returns-clause-cells c =
    let bytes = c.self.inside.bytes.items in
    let head = c.self.inside.head in
    let rest : take (length bytes - head) (drop head bytes) ≡ drop head bytes =
    take_all _ _ (simp length-drop (omega arith)) in
    rw (← c.self.view_is, flat-cells c.self.inside c.self.invariant)
    (rw (c.deref.ensures.value, rest) at c.behind.ensures.cells)
