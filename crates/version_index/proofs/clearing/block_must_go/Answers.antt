-- The loop goes through the slots of the block.
use Rattle.version_index.proofs.Common.{◌≡◌, ℕ, ◌+◌, ◌-◌, ◌*◌, ◌/◌, ◌<◌, ◌≤◌, refl, sym, ap, ◌∙◌, subst, inl, inr, arith, false≢true, cases_lt, Shape, blocks_of, slots_of}
use Rattle.std.proofs.Common.{◌%◌}
use Rattle.std.proofs.Math.Nat.{mul-le-mul_right}
use Rattle.std.proofs.lemmas.Nat.{div-mul-add, div-add-mod', mod_below}
use Rattle.version_index.specs.Going.{SlotMustGo}
use Rattle.version_index.proofs.clearing.block_must_go.Goals as goal

-- the block of a slot is the one between whose ends it is
inside : (a p block : ℕ) → block * p ≤ a → a < block * p + p → a / p ≡ block
inside a p block low high =
    let same : block * p + (a - block * p) ≡ a = omega arith in
    sym (ap (λ x. x / p) same) ∙ div-mul-add block p (a - block * p) (omega arith)

between : (a p block : ℕ) → 0 < p → a / p ≡ block → (block * p ≤ a) × (a < block * p + p)
between a p block some is =
    let whole = sym (ap (λ b. b * p + a % p) is) ∙ div-add-mod' a p in
    let rest = mod_below a p some in
    (omega arith, omega arith)

pub slot_must_go-requires-clause-slot : goal.slot_must_go-requires-clause-slot
slot_must_go-requires-clause-slot c =
    let s = c.shape-size.result in
    let same = c.shape-size.ensures.shape in
    let below = c.loop-at-test.true in
    let block = subst (λ t. c.args.block.0 < blocks_of t) (sym same) c.requires.block in
    let wide : (c.args.block.0 + 1) * s.pages_per_block ≤ blocks_of s * s.pages_per_block =
    mul-le-mul_right s.pages_per_block (omega arith) in
    let end = c.loop-at.auto.at-end in
    subst (λ t. c.loop-at.at < slots_of t) same (omega arith)

pub returns-then-slot_must_go-clause-goes : goal.returns-then-slot_must_go-clause-goes
returns-then-slot_must_go-clause-goes c =
    let s = c.shape-size.result in
    let low = c.loop-at.auto.at in
    let below = c.loop-at-test.true in (
      λ _. record {
        at = c.loop-at.at;
        inside = subst (λ (t : Shape). c.loop-at.at / t.pages_per_block ≡ c.args.block.0) c.shape-size.ensures.shape
            (inside c.loop-at.at s.pages_per_block c.args.block.0 (omega arith) (omega arith));
        goes = c.slot_must_go.ensures.0 c.if-slot_must_go.true;
      },
      λ _. refl,
    )

pub loop-at-preserved : goal.loop-at-preserved
loop-at-preserved c s low high goes = elim (cases_lt s c.loop-at.at) [
  | inl before ↦ c.loop-at.invariant s low before goes
  | inr past ↦ (
      let same : s ≡ c.loop-at.at = omega arith in
      let now = c.slot_must_go.ensures.1 (subst (SlotMustGo c.args.tables.now c.args.page c.args.below) same goes) in
      false≢true (sym c.if-slot_must_go.false ∙ now))
]

pub returns-clause-goes : goal.returns-clause-goes
returns-clause-goes c =
    let s = c.shape-size.result in (
      λ e. absurd (false≢true e),
      λ h.
          let least = c.shape-size.ensures.kept.shape.pages_least in
          let same = c.shape-size.ensures.shape in
          let here = subst (λ (t : Shape). h.at / t.pages_per_block ≡ c.args.block.0) (sym same) h.inside in
          let some = subst (λ (t : Shape). 0 < t.pages_per_block) (sym same) (omega arith) in
          let ends = between h.at s.pages_per_block c.args.block.0 some here in
          let past = c.loop-at-test.false in
          absurd (c.loop-at.invariant h.at ends.0 (let high = ends.1 in omega arith) h.goes),
    )
