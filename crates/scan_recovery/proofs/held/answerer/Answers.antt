use Rattle.scan_recovery.proofs.Common.{position, sym, ap, ◌∙◌, has_name}
use Rattle.scan_recovery.proofs.OfSpare.HeldPlaces.{answerer_some}
use Rattle.scan_recovery.proofs.held.answerer.Goals as goal

pub returns-then-version-gt0 : goal.returns-then-version-gt0
returns-then-version-gt0 c =
    let s = c.args.standing.now in
    c.find.ensures
    ∙ ap (position (λ f. has_name record { page = c.args.rec.next.page; version = c.responsible-version.result } f.rec))
    c.sorted_records.ensures
    ∙ answerer_some s.protocol s.list s.logical c.responsible-version.result c.args.rec (sym c.protocol.ensures
    ∙ c.in-Bpcc.is)
    c.responsible-version.ensures (sym c.is_loose.ensures ∙ c.if-not-is_loose.false) c.if-version-gt0.true
