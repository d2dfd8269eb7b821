use Rattle.tx_engine.proofs.Common.{◌≡◌, ℕ, ◌+◌, ◌/◌, ◌<◌, false, Option, Some, None, refl, sym, ap, ◌∙◌, subst, arith, inl, inr, is_some, cases_lt, Slot, Shape, StoreState}
use Rattle.std.specs.Prelude.{IsNone}
use Rattle.std.proofs.lemmas.Nat.{div_below}
use Rattle.die_alloc.specs.BlocksState.{BlocksState, IsFullIn}
use Rattle.tx_engine.proofs.store.Store.has_room.Goals as goal

none_from : (o : Option Slot) → is_some o ≡ false → IsNone o
none_from None is = refl
none_from (Some at) is = cc

-- one die more is full
full_below : (t : BlocksState) (die : ℕ) → ((k : ℕ) → k < die → IsFullIn t k) → IsFullIn t die → (k : ℕ) →
    k < die + 1 → IsFullIn t k
full_below t die before here k less = elim (cases_lt k die) [
  | inl low ↦ before k low
  | inr past ↦ (let same : die ≡ k = omega arith in subst (IsFullIn t) same here)
]

pub loop-die-preserved : goal.loop-die-preserved
loop-die-preserved g c =
    let S = c.args.self.now in
    let inv = c.loop-die.invariant in
    let here : IsFullIn S.table c.loop-die.die =
    subst (λ (T : StoreState _). IsFullIn T.table c.loop-die.die) inv.0
    (c.slot_in.ensures.full.0 (none_from c.slot_in.result (sym c.is_some.ensures ∙ c.if-is_some.false))) in
    (c.slot_in.ensures.stays ∙ inv.0, full_below S.table c.loop-die.die inv.1 here)

pub returns-clause-full : goal.returns-clause-full
returns-clause-full g c = λ is block within room.
    let S = c.args.self.now in
    let size = S.table.shape.blocks_per_die in
    let some : 0 < size = (let least = c.requires.stored.matches.table.numbers.blocks_least in omega arith) in
    let low : block / size < S.table.shape.dies = div_below block size S.table.shape.dies some (omega (arith, within)) in
    let dies = ap (λ (sh : Shape). sh.dies) c.requires.stored.matches.blocks in
    c.loop-die.invariant.1 (block / size)
    (omega (arith, low, dies, c.loop-die-test.false, c.dies-die-end.ensures)) block within refl room
