use Rattle.host_protocol.proofs.Common.{◌≡◌, false, sym, ap, ◌∙◌, codes, Some, bytes_eq, option_map, err_from_is_err_and}
use Rattle.host_protocol.proofs.EntryLemmas.{value_tilde, value_contents, value_fails}
use Rattle.host_protocol.proofs.entry.value.Goals as goal

pub returns-then-eq-clause-value : goal.returns-then-eq-clause-value
returns-then-eq-clause-value c = value_tilde c.args.page_bytes c.args.text.now
    (rw c.as_slice.ensures at (sym c.if-eq.ensures))

pub returns-in_err-contents-clause-value : goal.returns-in_err-contents-clause-value
returns-in_err-contents-clause-value c =
    let other : bytes_eq c.args.text.now (codes "~") ≡ false = rw c.as_slice.ensures at (sym c.if-eq.ensures) in
    let p = err_from_is_err_and c.from_residual.result c.from_residual.ensures.1 in
    rw (p.1, p.2) (value_fails c.args.page_bytes c.args.text.now c.in_err-contents.field-0.0 other
    c.in_err-contents.ensures.contents)

pub returns-clause-value : goal.returns-clause-value
returns-clause-value c =
    let other : bytes_eq c.args.text.now (codes "~") ≡ false = rw c.as_slice.ensures at (sym c.if-eq.ensures) in
    value_contents c.args.page_bytes c.args.text.now other ∙ ap (option_map Some) c.in_ok-contents.ensures.contents
