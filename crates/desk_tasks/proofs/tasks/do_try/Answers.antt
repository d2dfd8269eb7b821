use Rattle.desk_tasks.proofs.Common.{[], refl, arith, Some, Bytes, Missing, TooLong, Trying}
use Rattle.desk_io.specs.Disk.{FindsBoth}
use Rattle.desk_tasks.specs.Request.{Try}
use Rattle.desk_tasks.proofs.Works.{found_more, found_none, unfetched, works}
use Rattle.desk_tasks.proofs.tasks.do_try.Goals as goal

pub returns-in_err-lines-clause-works : goal.returns-in_err-lines-clause-works
returns-in_err-lines-clause-works g c =
    let old = g.D.Desk.state c.args.desk.now in
    let finds = FindsBoth old (g.D.Desk.disk c.args.desk.now) in
    let new = g.D.Desk.state c.load_file.new.desk in
    unfetched (Some (Try c.args.name.now)) finds finds old old new 0 c.args.name.now c.in_err-lines.field-0.0
    c.from_residual.result
    c.from_residual.ensures.1 refl (omega arith) (found_none old)
    (λ found. (Missing, found, (refl, refl))) (λ found. (TooLong, found, (refl, refl))) c.in_err-lines.ensures.fetches

pub returns-clause-works : goal.returns-clause-works
returns-clause-works g c =
    let fetched = c.in_ok-lines.ensures.fetches in
    let tried = rw c.deref.ensures.value at c.try_from_bytes.ensures in
    let old = g.D.Desk.state c.args.desk.now in
    let finds = FindsBoth old (g.D.Desk.disk c.args.desk.now) in
    works (Some (Try c.args.name.now)) finds old (g.D.Desk.state c.load_file.new.desk) 1
    (Trying c.in_ok-lines.lines.items) c.try_from_bytes.result fetched.1 (omega arith)
    (found_more old c.args.name.now c.in_ok-lines.lines.items [] fetched.0.0 (found_none old))
    (λ ending h. (Bytes c.in_ok-lines.lines.items, fetched.0, (0, (h, refl), refl))) tried
