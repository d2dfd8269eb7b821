use Rattle.image_file.proofs.Common.{◌≡◌, ◌+◌, ◌-◌, ◌*◌, sym, ◌∙◌, arith}
use Rattle.image_file.proofs.SlotLemmas.{wrong_bytes-at, wrong_bytes-none}
use Rattle.image_file.proofs.slots.wrong_bytes.Goals as goal

pub returns-then-not-is_filled-clause-first : goal.returns-then-not-is_filled-clause-first
returns-then-not-is_filled-clause-first c =
    let from = c.loop-at.at * c.args.size in
    let whole : from + c.args.size - from ≡ c.args.size = omega arith in
    let filled = rw whole at c.is_filled.ensures in
    sym (wrong_bytes-at c.args.size c.args.seen.now c.args.cells.now c.loop-at.at c.loop-at-test.true
    c.loop-at.invariant
    (sym filled ∙ c.if-not-is_filled.true))

pub returns-clause-first : goal.returns-clause-first
returns-clause-first c = sym (wrong_bytes-none c.args.size c.args.seen.now c.args.cells.now
    (λ k inside. c.loop-at.invariant k (omega arith)))
