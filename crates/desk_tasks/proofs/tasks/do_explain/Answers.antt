use Rattle.desk_tasks.proofs.Common.{[], refl, arith, Some, Bytes, Missing, TooLong, Explaining}
use Rattle.desk_io.specs.Disk.{FindsBoth}
use Rattle.desk_tasks.specs.Request.{Explain}
use Rattle.desk_tasks.proofs.Works.{found_more, found_none, unfetched, works}
use Rattle.desk_tasks.proofs.tasks.do_explain.Goals as goal

pub returns-in_err-bytes-clause-works : goal.returns-in_err-bytes-clause-works
returns-in_err-bytes-clause-works g c =
    let old = g.D.Desk.state c.args.desk.now in
    let finds = FindsBoth old (g.D.Desk.disk c.args.desk.now) in
    let new = g.D.Desk.state c.load_file.new.desk in
    unfetched (Some (Explain c.args.image.now)) finds finds old old new 0 c.args.image.now c.in_err-bytes.field-0.0
    c.from_residual.result
    c.from_residual.ensures.1 refl (omega arith) (found_none old)
    (λ found. (Missing, found, (refl, refl))) (λ found. (TooLong, found, (refl, refl))) c.in_err-bytes.ensures.fetches

pub returns-clause-works : goal.returns-clause-works
returns-clause-works g c =
    let fetched = c.in_ok-bytes.ensures.fetches in
    let old = g.D.Desk.state c.args.desk.now in
    let finds = FindsBoth old (g.D.Desk.disk c.args.desk.now) in
    works (Some (Explain c.args.image.now)) finds old (g.D.Desk.state c.load_file.new.desk) 1
    (Explaining c.in_ok-bytes.bytes.items) c.explain_from_bytes.result fetched.1 (omega arith)
    (found_more old c.args.image.now c.in_ok-bytes.bytes.items [] fetched.0.0 (found_none old))
    (λ ending h. (Bytes c.in_ok-bytes.bytes.items, fetched.0, (0, (h, refl), refl))) c.explain_from_bytes.ensures
