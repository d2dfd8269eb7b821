use Rattle.desk_tasks.proofs.Common.{refl, arith, Some}
use Rattle.desk_tasks.specs.Steps.{Checking}
use Rattle.desk_tasks.specs.Request.{Check}
use Rattle.desk_tasks.proofs.TwoFiles.{unloaded_both, works_on_both}
use Rattle.desk_tasks.proofs.checking.do_check.Goals as goal

pub returns-in_err-bytes-clause-works : goal.returns-in_err-bytes-clause-works
returns-in_err-bytes-clause-works g c =
    unloaded_both (Some (Check c.args.image.now c.args.report.now)) (g.D.Desk.state c.args.desk.now)
    (g.D.Desk.state c.load_both.new.desk) (g.D.Desk.disk c.args.desk.now) c.args.image.now c.args.report.now
    Checking refl (λ ending loads h. h) c.in_err-bytes.field-0.0 c.from_residual.result
    c.from_residual.ensures.1 c.in_err-bytes.ensures.loads

pub returns-clause-works : goal.returns-clause-works
returns-clause-works g c =
    works_on_both (Some (Check c.args.image.now c.args.report.now)) (g.D.Desk.state c.args.desk.now)
    (g.D.Desk.state c.load_both.new.desk) (g.D.Desk.disk c.args.desk.now) c.args.image.now c.args.report.now
    Checking refl (λ ending loads h. h) (omega arith) c.in_ok-bytes.bytes c.in_ok-bytes.text
    c.check_from_bytes.result c.in_ok-bytes.ensures.loads (rw c.deref.ensures.value at c.check_from_bytes.ensures)
