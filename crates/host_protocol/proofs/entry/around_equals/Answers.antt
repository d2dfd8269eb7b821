use Rattle.host_protocol.proofs.Common.{sym, ◌+◌}
use Rattle.host_protocol.proofs.EntryLemmas.{parts_none, parts_many, parts_one}
use Rattle.host_protocol.proofs.PartLemmas.{rest_is}
use Rattle.host_protocol.proofs.entry.around_equals.Goals as goal

pub returns-in_err-place-clause-none : goal.returns-in_err-place-clause-none
returns-in_err-place-clause-none c = rw c.from_residual.ensures
    (parts_none c.args.word.now (sym c.in_err-place.ensures))

pub returns-in-Some-clause-none : goal.returns-in-Some-clause-none
returns-in-Some-clause-none c =
    let rest = rest_is (c.in_ok-place.place + 1) c.args.word.now in
    parts_many c.args.word.now c.in_ok-place.place _ (sym c.in_ok-place.ensures) (rw rest at (sym c.in-Some.ensures))

pub returns-in-None-clause-some : goal.returns-in-None-clause-some
returns-in-None-clause-some c =
    let rest = rest_is (c.in_ok-place.place + 1) c.args.word.now in
    rw rest (parts_one c.args.word.now c.in_ok-place.place (sym c.in_ok-place.ensures)
    (rw rest at (sym c.in-None.ensures)))
