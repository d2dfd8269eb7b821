use Rattle.version_index.proofs.Common.{◌<◌, None, set, count_by, ap, sym, subst, ◌∙◌, TablesState, is_number}
use Rattle.version_index.proofs.committing.resolve_waiting.Invariants.Answering.{IsAnswering, one_answered, fewer_wait, all_answering, answering_derives}
use Rattle.version_index.proofs.committing.resolve_waiting.Goals as goal

pub returns-clause-judges : goal.returns-clause-judges
returns-clause-judges c = answering_derives _ _ _ _ c.loop-number.invariant

pub returns-clause-answered : goal.returns-clause-answered
returns-clause-answered c =
    all_answering c.args.tables.now c.loop-number.tables c.args.page
    (subst (IsAnswering c.args.tables.now c.loop-number.tables c.args.page) c.newest-newest.ensures.newest
    c.loop-number.invariant)
    c.in_default.ensures.none

pub loop-number-preserved : goal.loop-number-preserved
loop-number-preserved c =
    let k = c.args.tables.now in
    let t = c.loop-number.tables in
    let y = c.in-Some.number in
    let both = c.set_waits.ensures ∙ ap (λ (u : TablesState). record u { waits = set u.waits y None })
    c.set_answerer.ensures in
    subst (λ u. IsAnswering k u c.args.page c.newest-newest.result) (sym both)
    (one_answered k t c.args.page c.newest-newest.result c.shape.ensures.kept c.loop-number.invariant y
    c.in-Some.ensures.some)

pub loop-number-smaller : goal.loop-number-smaller
loop-number-smaller c =
    let k = c.args.tables.now in
    let t = c.loop-number.tables in
    let y = c.in-Some.number in
    let both = c.set_waits.ensures ∙ ap (λ (u : TablesState). record u { waits = set u.waits y None })
    c.set_answerer.ensures in
    subst (λ (u : TablesState). count_by (is_number c.args.page) u.waits < count_by (is_number c.args.page) t.waits)
    (sym both)
    (fewer_wait k t c.args.page c.newest-newest.result c.shape.ensures.kept c.loop-number.invariant y
    c.in-Some.ensures.some)
