use Rattle.host_protocol.proofs.Common.{inl, inr, arith, sym}
use Rattle.host_protocol.proofs.NumberLemmas.{leading_outside, leading_large, leading_some}
use Rattle.host_protocol.proofs.numbers.leading_number.Goals as goal
use Rattle.host_protocol.proofs.numbers.leading_number.Goals.{then-digits-eq0-via-then-digits-eq0}
use Rattle.host_protocol.proofs.numbers.leading_number.Goals.{then-digits-eq0-via-else-digits-eq0+then-digits-gt-MAX_DIGITS}

pub returns-then-digits-eq0-clause-number : goal.returns-then-digits-eq0-clause-number
returns-then-digits-eq0-clause-number c =
    sym (leading_outside c.args.text.now c.leading_digits-value.result.1 c.leading_digits-value.ensures.digits
    (elim c.then-digits-eq0.branch [
      | then-digits-eq0-via-then-digits-eq0 w ↦ inl (omega (arith, w.if-digits-eq0))
      | then-digits-eq0-via-else-digits-eq0+then-digits-gt-MAX_DIGITS w ↦ inr (omega (arith, w.if-digits-gt-MAX_DIGITS))
    ]))

pub returns-then-value-gt-MAX_NUMBER-clause-number : goal.returns-then-value-gt-MAX_NUMBER-clause-number
returns-then-value-gt-MAX_NUMBER-clause-number c =
    let read = c.leading_digits-value in
    let large = rw read.ensures.value at c.if-value-gt-MAX_NUMBER.true in
    sym (leading_large c.args.text.now read.result.1 read.ensures.digits (omega (arith, c.if-digits-eq0.false))
    c.if-digits-gt-MAX_DIGITS.false large)

pub returns-clause-number : goal.returns-clause-number
returns-clause-number c =
    let read = c.leading_digits-value in
    let fits = rw read.ensures.value at c.if-value-gt-MAX_NUMBER.false in
    rw read.ensures.value
    (sym (leading_some c.args.text.now read.result.1 read.ensures.digits (omega (arith, c.if-digits-eq0.false))
    c.if-digits-gt-MAX_DIGITS.false fits))
