use Rattle.std.proofs.Common.{◌≡◌, ℕ, zero, suc, ◌+◌, ◌*◌, ◌/◌, ◌<◌, ◌≤◌, true, sym, ap, ◌∙◌, subst, inl, inr, refl, arith}
use Rattle.std.proofs.Math.Nat.{mul_comm}
use Rattle.std.proofs.lemmas.Bool.{cases_lt}
use Rattle.std.proofs.lemmas.Nat.{div_below}
use Rattle.tx_types.specs.Config.{slots_of, blocks_of}
use Rattle.tx_types.specs.declared.config.Shape.{Shape}
use Rattle.flash_model.specs.Calls.{seen_of}
use Rattle.flash_model.specs.Flash.{Contents, blank, damaged, complete, slot_at}
use Rattle.flash_model.proofs.ImageLemmas.{block_within}
use Rattle.flash_model.specs.Readings.{reads_blank}
use Rattle.device_tests.proofs.building.may_program.Goals as goal

blank_contents : (contents : Contents) → reads_blank (seen_of contents) ≡ true → contents ≡ blank
blank_contents blank e = refl
blank_contents damaged e = cc
blank_contents (complete bytes spare) e = cc

some_pages : (blocks per at : ℕ) → at < blocks * per → 0 < per
some_pages blocks zero at low = absurd (omega arith)
some_pages blocks (suc per) at low = omega arith

-- the end of a block that has a slot
end_within : (shape : Shape) (at : ℕ) → at < slots_of shape →
    (at / shape.pages_per_block + 1) * shape.pages_per_block ≤ slots_of shape
end_within shape at low =
    let wide : at < blocks_of shape * shape.pages_per_block =
    subst (λ k. at < k) (mul_comm shape.pages_per_block (blocks_of shape)) low in
    let below = div_below at shape.pages_per_block (blocks_of shape)
    (some_pages (blocks_of shape) shape.pages_per_block at wide) wide in
    let end = block_within shape (at / shape.pages_per_block) below in
    omega (arith, end)

pub loop-slot-init : goal.loop-slot-init
loop-slot-init c k low high = absurd (omega arith)

pub seen-requires : goal.seen-requires
seen-requires c =
    let end = end_within c.shape-shape.result c.args.at.0 (omega (arith, c.if-at-slots.false, c.slots.ensures)) in
    omega (arith, end, c.loop-slot-test.true, ap slots_of c.shape-shape.ensures.shape)

pub loop-slot-preserved : goal.loop-slot-preserved
loop-slot-preserved c k low high = elim (cases_lt k c.loop-slot.slot) [
  | inl before ↦ c.loop-slot.invariant k low before
  | inr here ↦ subst (λ j. slot_at c.args.flash.now.image j ≡ blank)
      (let same : c.loop-slot.slot ≡ k = omega arith in same)
      (blank_contents (slot_at c.args.flash.now.image c.loop-slot.slot) (ap reads_blank (sym c.seen.ensures)
      ∙ sym c.is_blank.ensures ∙
      c.if-not-is_blank.false))
]

pub returns : goal.returns
returns c found = record {
  in_range = omega (arith, c.if-at-slots.false, c.slots.ensures, ap slots_of c.shape-shape.ensures.shape);
  blank_on = λ k low high. c.loop-slot.invariant k low
      (let end : k < (c.args.at.0 / c.shape-shape.result.pages_per_block + 1) * c.shape-shape.result.pages_per_block =
      subst (λ (s : Shape). k < (c.args.at.0 / s.pages_per_block + 1) * s.pages_per_block)
      (sym c.shape-shape.ensures.shape) high in
      omega (arith, end, c.loop-slot-test.false));
}
