use Rattle.page_keys.proofs.Common.{◌∙◌}
use Rattle.page_keys.proofs.OfPut.EntriesLeft.{halves}
use Rattle.page_keys.proofs.reading.read_entry.Goals as goal

pub returns-in_err-key-clause-none : goal.returns-in_err-key-clause-none
returns-in_err-key-clause-none c =
    rw c.from_residual.ensures (λ e is same.
    c.in_err-key.ensures.none e.0 is.most
    (c.split_at.ensures.front ∙ (halves c.args.bytes.now e is same).0))

pub returns-in_err-value-clause-none : goal.returns-in_err-value-clause-none
returns-in_err-value-clause-none c =
    rw c.from_residual-in_err-value.ensures (λ e is same.
    c.in_err-value.ensures.none e.1 is.value
    (c.split_at.ensures.back ∙ (halves c.args.bytes.now e is same).1))
