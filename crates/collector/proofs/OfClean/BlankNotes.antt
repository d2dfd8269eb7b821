-- What is noted as blank, and reads so.
use Rattle.collector.proofs.Common.{◌≡◌, ℕ, zero, suc, ◌+◌, ◌*◌, ◌≤◌, ◌&&◌, Bool, true, false, cond, refl, ap, ◌∙◌, arith, eq-eqb, eqb-true, list_all, range_with_len, ne_eqb, Note, Blank, Damaged, Holds, note_at, IndexState, is_blank, is_noted_blank}
use Rattle.std.proofs.Common.{◌==◌}
use Rattle.std.specs.Prelude.{count_by}
use Rattle.std.specs.Cmp.{both_ways}
use Rattle.std.proofs.lemmas.List.FromFn.{length-range_with_len}
use Rattle.std.proofs.lemmas.List.Sums.{count_by-le-length}
use Rattle.list_lemmas.proofs.Counts.{count_first}
use Rattle.judged_records.specs.IndexState.{blanks_of}

-- a note that passes the test is blank
pub noted_blank : (note : Note) → is_blank note ≡ true → note ≡ Blank
noted_blank Blank e = refl
noted_blank Damaged e = cc
noted_blank (Holds rec) e = cc

counted : (b : Bool) (m n : ℕ) → m ≤ n → (cond b 1 0 + m == suc n) ≡ (b && (m == n))
counted true m n few =
    both_ways (1 + m == suc n) (m == n) (λ e. eq-eqb m n (let same = eqb-true (1 + m) (suc n) e in omega arith))
    (λ e. eq-eqb (1 + m) (suc n) (let same = eqb-true m n e in omega arith))
counted false m n few = ne_eqb (0 + m) (suc n) (λ same. omega (arith, few))

-- all numbers of a range pass where as many pass as it has
count_all : (p : ℕ → Bool) (a n : ℕ) → (count_by p (range_with_len a n) == n) ≡ list_all p (range_with_len a n)
count_all p a zero = refl
count_all p a (suc n) =
    let few : count_by p (range_with_len (a + 1) n) ≤ n = omega (
      arith,
      count_by-le-length p (range_with_len (a + 1) n),
      length-range_with_len (a + 1) n,
    ) in
    ap (λ k. k == suc n) (count_first p a n) ∙ counted (p a) (count_by p (range_with_len (a + 1) n)) n few
    ∙ ap (λ b. p a && b) (count_all p (a + 1) n)

-- a block is noted as blank where as many of its slots are as it has
pub all_blank : (n : IndexState) (block : ℕ) → (blanks_of n block == n.config.pages_per_block) ≡ is_noted_blank n block
unfolding blanks_of
all_blank n block = count_all (λ at. is_blank (note_at n.notes at)) (block * n.config.pages_per_block)
    n.config.pages_per_block
