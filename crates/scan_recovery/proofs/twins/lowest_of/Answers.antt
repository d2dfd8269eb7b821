use Rattle.scan_recovery.proofs.Common.{Some, get_or, sym, ap, ◌∙◌, has_name, name_of, nothing}
use Rattle.list_lemmas.proofs.Tests.{find-position, find-no_position}
use Rattle.scan_recovery.proofs.twins.lowest_of.Goals as goal

pub returns-in_err-place : goal.returns-in_err-place
returns-in_err-place c =
    c.from_residual.ensures ∙ sym (find-no_position (λ g. has_name (name_of c.args.rec) g.rec) c.args.chart.now
    (sym (rw c.name.ensures at c.in_err-place.ensures)))

pub returns : goal.returns
returns c =
    ap (λ l. Some (get_or l c.in_ok-place.place nothing)) c.records.ensures.records
    ∙ sym (find-position (λ g. has_name (name_of c.args.rec) g.rec) c.args.chart.now c.in_ok-place.place nothing
    (sym (rw c.name.ensures at c.in_ok-place.ensures)))
