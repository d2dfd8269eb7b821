-- A product with a reciprocal, in its units, is a quotient.
use Rattle.dense_tables.proofs.Common.{◌≡◌, ℕ, ◌+◌, ◌-◌, ◌*◌, ◌/◌, ◌<◌, ◌≤◌, inl, inr, sym, arith, cases_lt}
use Rattle.std.proofs.Math.Nat.{div-mul-le_self, lt-div-mul-add, mul-le-mul_left, mul-le-mul_right}
use Rattle.std.proofs.lemmas.Nat.{div-mul-add, div_below}

-- by a large number it is 0
quotient_none : (units by of : ℕ) → 65536 < by → of < 65536 → 65536 * 65536 ≡ units →
    of * (units / by + 1) / units ≡ of / by
quotient_none units by of large low e =
    let whole : units / by < 65536 = div_below units by 65536 (omega arith)
    (let more : 65536 * 65536 < 65536 * by = omega arith in omega arith) in
    let most : of * (units / by + 1) ≤ of * 65536 = mul-le-mul_left of (omega arith) in
    let none : of * (units / by + 1) / units < 1 = div_below _ units 1 (omega arith) (omega arith) in
    let zero : of / by < 1 = div_below of by 1 (omega arith) (omega arith) in
    omega arith

module _ (units by of : ℕ) (some : 0 < by) (small : by ≤ 65536) (low : of < 65536) (e : 65536 * 65536 ≡ units) where
  abbrev whole : ℕ
  whole = units / by

  abbrev times : ℕ
  times = of / by

  -- a number is below the reciprocal
  below : of < whole
  below = elim (cases_lt of whole) [
    | inl is ↦ is
    | inr past ↦
        absurd (let last : units < whole * by + by = lt-div-mul-add some in
        let most : (whole + 1) * by ≤ 65536 * by = mul-le-mul_right by (omega arith) in
        let bound : 65536 * by ≤ 65536 * 65536 = mul-le-mul_left 65536 small in
        omega arith)
  ]

  quotient_some : of * (units / by + 1) / units ≡ of / by
  quotient_some =
      let last : units < whole * by + by = lt-div-mul-add some in
      let first : whole * by ≤ units = div-mul-le_self units by in
      let low_of : times * by ≤ of = div-mul-le_self of by in
      let high_of : of < times * by + by = lt-div-mul-add some in
      let from : times * units ≤ times * ((whole + 1) * by) = mul-le-mul_left times (omega arith) in
      let to : (times * by) * (whole + 1) ≤ of * (whole + 1) = mul-le-mul_right (whole + 1) low_of in
      let most : (of + 1) * whole ≤ (times * by + by) * whole = mul-le-mul_right whole (omega arith) in
      let end : (times + 1) * (whole * by) ≤ (times + 1) * units = mul-le-mul_left (times + 1) first in
      let lies : times * units ≤ of * (whole + 1) = omega arith in
      let rest : of * (whole + 1) - times * units < units = omega (arith, below) in
      let place : times * units + (of * (whole + 1) - times * units) ≡ of * (whole + 1) = omega arith in
      rw (sym place) (div-mul-add times units (of * (whole + 1) - times * units) rest)

pub quotient_is : (units by of : ℕ) → 0 < by → of < 65536 → 65536 * 65536 ≡ units →
    of * (units / by + 1) / units ≡ of / by
quotient_is units by of some low e = elim (cases_lt 65536 by) [
  | inl large ↦ quotient_none units by of large low e
  | inr small ↦ quotient_some units by of some small low e
]
