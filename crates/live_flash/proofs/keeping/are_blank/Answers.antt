use Rattle.live_flash.proofs.Common.{◌≡◌, inl, inr, sym, subst, ◌∙◌, arith, blank, slot_at}
use Rattle.std.proofs.lemmas.Bool.{cases_lt}
use Rattle.file_flash.proofs.Programming.{blank_read}
use Rattle.live_flash.proofs.keeping.are_blank.Goals as goal

pub loop-number-preserved : goal.loop-number-preserved
loop-number-preserved c = λ k from below.
    let image = c.args.memory.now.image in
    let n = c.loop-number.number in
    elim (cases_lt k n) [
      | inl low ↦ c.loop-number.invariant k from low
      | inr high ↦
          let same : k ≡ n = omega (arith, below, high) in
          subst (λ i. slot_at image i ≡ blank) (sym same)
          (blank_read (slot_at image n) (sym c.is_blank.ensures ∙ c.if-not-is_blank.false))
    ]

pub returns : goal.returns
returns c = λ yes k from below. c.loop-number.invariant k from (omega (arith, below, c.loop-number-test.false))
