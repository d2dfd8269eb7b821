use Rattle.version_index.proofs.Common.{length, arith, set, ap, sym, subst, ◌∙◌, TablesState, number_at, OnlyDerives, IsTaken}
use Rattle.version_index.specs.Written.{fills, pages_written}
use Rattle.version_index.proofs.OfCommit.Taking.{taken_then, taken_derives}
use Rattle.version_index.proofs.committing.make_newest_current.Goals as goal

pub set_current-requires-clause-written : goal.set_current-requires-clause-written
set_current-requires-clause-written c = c.requires.written ∙ sym (ap pages_written c.release_above.ensures.rest)

pub set_current-requires-clause-before : goal.set_current-requires-clause-before
set_current-requires-clause-before c =
    c.is_filled-before.ensures
    ∙ sym (ap (λ (u : TablesState). fills u.records (number_at u.current c.args.page)) c.release_above.ensures.rest)

pub set_current-requires-clause-after : goal.set_current-requires-clause-after
set_current-requires-clause-after c =
    c.fills-after.ensures
    ∙ sym (ap (λ (u : TablesState). fills u.records c.newest-newest.result) c.release_above.ensures.rest)

pub returns-clause-judges : goal.returns-clause-judges
returns-clause-judges c =
    subst (λ u. OnlyDerives c.args.tables.now u) (sym c.set_current.ensures.set)
    (taken_derives c.args.tables.now c.release_above.new.tables c.args.page c.current_version-current.result
    c.release_above.ensures _)

pub returns-clause-taken : goal.returns-clause-taken
returns-clause-taken c =
    let t = c.release_above.new.tables in
    let sizes = c.shape.ensures.kept.current in
    let same = ap (λ (u : TablesState). length u.current) c.release_above.ensures.rest in
    let page = c.requires.page in
    let is = c.set_current.ensures.set ∙ ap (λ n. record t { current = set t.current c.args.page n })
    c.newest-newest.ensures.newest in
    subst (λ u. IsTaken c.args.tables.now u c.args.page) (sym is)
    (taken_then c.args.tables.now t c.args.page c.current_version-current.result c.release_above.ensures
    c.current_version-current.ensures
    (omega arith))
