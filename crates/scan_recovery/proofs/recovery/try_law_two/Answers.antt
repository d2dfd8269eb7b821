mod SoundScans
mod Upto
use Rattle.scan_recovery.proofs.Common.{◌*◌, true, All, Some, subst, get_or_default, nothing, FindsFirst, list_of, ReadsAll, ReadsSome, AgreesWithLowest, compared, compared_to}
use Rattle.std.proofs.lemmas.Result.{err_from_is_err_and}
use Rattle.scan_recovery.proofs.recovery.try_law_two.Answers.SoundScans.{scan_copies, scan_breach, reads_whole, reads_until, reads_fault}
use Rattle.scan_recovery.proofs.recovery.try_law_two.Goals as goal

pub returns-in_err-first_contradiction-clause-reads : goal.returns-in_err-first_contradiction-clause-reads
returns-in_err-first_contradiction-clause-reads g c protocol logical a was =
    let b = g.F.Flash.state c.args.flash.now in
    let d = g.F.Flash.state c.first_contradiction.new.flash in
    let p = err_from_is_err_and c.from_residual.result c.from_residual.ensures.1 in
    rw (p.1, p.2)
    (reads_fault protocol logical a b d was.slots _ was.scan was.read
    (subst (λ l. ReadsSome b d true (2 * compared l)) c.list_of-by_slot.ensures
    c.in_err-first_contradiction.ensures.reads))

pub returns-in-None-clause-copies : goal.returns-in-None-clause-copies
returns-in-None-clause-copies g c protocol logical a was =
    let b = g.F.Flash.state c.args.flash.now in
    scan_copies protocol logical a b b was.slots _ was.scan was.read
    (subst (λ l. All (AgreesWithLowest b.shape.page_bytes b.image l) l) c.list_of-by_slot.ensures
    (subst (FindsFirst (AgreesWithLowest b.shape.page_bytes b.image c.list_of-by_slot.result.now)
    c.list_of-by_slot.result.now) c.in-None.is
    c.in_ok-first_contradiction.ensures.first))

pub returns-in-None-clause-reads : goal.returns-in-None-clause-reads
returns-in-None-clause-reads g c protocol logical a was =
    let b = g.F.Flash.state c.args.flash.now in
    let d = g.F.Flash.state c.first_contradiction.new.flash in
    reads_whole protocol logical a b d was.slots _ was.scan was.read
    (subst (λ l. ReadsAll b d (2 * compared l)) c.list_of-by_slot.ensures
    (subst (λ o. ReadsAll b d (2 * compared_to c.list_of-by_slot.result.now o)) c.in-None.is
    c.in_ok-first_contradiction.ensures.reads))

pub returns-in-Some-clause-unsound : goal.returns-in-Some-clause-unsound
returns-in-Some-clause-unsound g c protocol logical a was =
    let b = g.F.Flash.state c.args.flash.now in
    let list = list_of c.args.charted.now.list c.args.charted.now.chart in
    let same = c.list_of-by_slot.ensures in
    let first = subst (λ l. FindsFirst (AgreesWithLowest b.shape.page_bytes b.image l) l (Some c.in-Some.at)) same
    (subst (FindsFirst (AgreesWithLowest b.shape.page_bytes b.image c.list_of-by_slot.result.now)
    c.list_of-by_slot.result.now) c.in-Some.is
    c.in_ok-first_contradiction.ensures.first) in
    rw same
    (scan_breach protocol logical a b b was.slots list was.scan was.read
    c.in-Some.at _ first (get_or_default list c.in-Some.at nothing _ first.0))

pub returns-in-Some-clause-reads : goal.returns-in-Some-clause-reads
returns-in-Some-clause-reads g c protocol logical a was =
    let b = g.F.Flash.state c.args.flash.now in
    let d = g.F.Flash.state c.first_contradiction.new.flash in
    let list = list_of c.args.charted.now.list c.args.charted.now.chart in
    let same = c.list_of-by_slot.ensures in
    let first = subst (λ l. FindsFirst (AgreesWithLowest b.shape.page_bytes b.image l) l (Some c.in-Some.at)) same
    (subst (FindsFirst (AgreesWithLowest b.shape.page_bytes b.image c.list_of-by_slot.result.now)
    c.list_of-by_slot.result.now) c.in-Some.is
    c.in_ok-first_contradiction.ensures.first) in
    rw same
    (reads_until protocol logical a b d was.slots list was.scan was.read
    c.in-Some.at _ first.0 (get_or_default list c.in-Some.at nothing _ first.0)
    (subst (λ l. ReadsAll b d (2 * compared_to l (Some c.in-Some.at))) same
    (subst (λ o. ReadsAll b d (2 * compared_to c.list_of-by_slot.result.now o)) c.in-Some.is
    c.in_ok-first_contradiction.ensures.reads)))
