use Rattle.desk_tasks.proofs.Common.{rests_then}
use Rattle.desk_tasks.proofs.TwoFiles.{both_loaded, first_unloaded, second_unloaded}
use Rattle.desk_tasks.proofs.loading.load_both.Goals as goal

pub returns-in_err-bytes-clause-loads : goal.returns-in_err-bytes-clause-loads
returns-in_err-bytes-clause-loads g c =
    first_unloaded (g.D.Desk.state c.args.desk.now) (g.D.Desk.state c.load_file.new.desk)
    (g.D.Desk.disk c.args.desk.now) c.args.image.now c.args.text.now c.in_err-bytes.field-0.0 c.from_residual.result
    c.from_residual.ensures.1 c.in_err-bytes.ensures.fetches

pub returns-in_err-lines-clause-loads : goal.returns-in_err-lines-clause-loads
returns-in_err-lines-clause-loads g c =
    let image = c.in_ok-bytes.ensures.fetches in
    second_unloaded (g.D.Desk.state c.args.desk.now) (g.D.Desk.state c.load_file.new.desk)
    (g.D.Desk.state c.load_file-2.new.desk) (g.D.Desk.disk c.args.desk.now) (g.D.Desk.disk c.load_file.new.desk)
    c.args.image.now c.args.text.now c.in_ok-bytes.bytes.items c.in_err-lines.field-0.0
    c.from_residual-in_err-lines.result c.from_residual-in_err-lines.ensures.1 image.0 image.1
    c.in_ok-bytes.ensures.disk c.in_err-lines.ensures.fetches

pub returns-clause-loads : goal.returns-clause-loads
returns-clause-loads g c =
    both_loaded (g.D.Desk.state c.args.desk.now) (g.D.Desk.state c.load_file.new.desk)
    (g.D.Desk.state c.load_file-2.new.desk) (g.D.Desk.disk c.args.desk.now) (g.D.Desk.disk c.load_file.new.desk)
    c.args.image.now c.args.text.now c.in_ok-bytes.bytes c.in_ok-lines.lines c.in_ok-bytes.ensures.fetches
    c.in_ok-bytes.ensures.disk c.in_ok-lines.ensures.fetches

pub returns-in_err-lines-clause-disk : goal.returns-in_err-lines-clause-disk
returns-in_err-lines-clause-disk g c =
    rests_then (g.D.Desk.disk c.args.desk.now) (g.D.Desk.disk c.load_file.new.desk)
    (g.D.Desk.disk c.load_file-2.new.desk) c.in_ok-bytes.ensures.disk
    c.in_err-lines.ensures.disk

pub returns-clause-disk : goal.returns-clause-disk
returns-clause-disk g c =
    rests_then (g.D.Desk.disk c.args.desk.now) (g.D.Desk.disk c.load_file.new.desk)
    (g.D.Desk.disk c.load_file-2.new.desk) c.in_ok-bytes.ensures.disk
    c.in_ok-lines.ensures.disk
