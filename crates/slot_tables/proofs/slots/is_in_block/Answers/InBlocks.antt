-- A slot lies in a block where it is not before the block's first slot, and less than a block behind it.
use Rattle.slot_tables.proofs.Common.{◌≡◌, ◌≢◌, ℕ, ◌+◌, ◌*◌, ◌-◌, ◌/◌, ◌<◌, ◌≤◌, true, false, ltb, eqb, inl, inr, sym, ◌∙◌, ap, arith, lt-div-mul-add, cases_lt, nat_tests}
use Rattle.std.proofs.lemmas.Nat.{div-mul-add}

pub in_block : (at block size : ℕ) → 0 < size → block * size ≤ at → ltb (at - block * size) size ≡ eqb (at / size) block
in_block at block size some low = elim (cases_lt (at - block * size) size) [
  | inl inside ↦
      let whole : at ≡ block * size + (at - block * size) = omega arith in
      let same : at / size ≡ block = ap (λ x. x / size) whole ∙ div-mul-add block size (at - block * size) inside in
      let yes : ltb (at - block * size) size ≡ true = grind (arith, nat_tests) in
      let also : eqb (at / size) block ≡ true = grind (arith, nat_tests) in
      yes ∙ sym also
  | inr past ↦
      let last : at < at / size * size + size = lt-div-mul-add some in
      let other : at / size ≢ block = λ e. (let less : at < block * size + size = rw e at last in
      absurd (omega arith)) in
      let no : ltb (at - block * size) size ≡ false = grind (arith, nat_tests) in
      let nor : eqb (at / size) block ≡ false = grind (arith, nat_tests) in
      no ∙ sym nor
]
