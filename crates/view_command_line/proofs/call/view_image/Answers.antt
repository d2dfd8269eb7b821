use Rattle.view_command_line.specs.Request.{request_of}
use Rattle.view_command_line.proofs.PictureEndings.{fetched, unfetched}
use Rattle.view_command_line.proofs.call.view_image.Goals as goal

pub returns-in_err-bytes-clause-works : goal.returns-in_err-bytes-clause-works
returns-in_err-bytes-clause-works g c =
    unfetched (request_of c.args.view) (g.D.Desk.state c.args.desk.now) (g.D.Desk.state c.load_file.new.desk)
    (g.D.Desk.disk c.args.desk.now)
    c.in_err-bytes.field-0.0 c.from_residual.result c.from_residual.ensures.1 c.in_err-bytes.ensures.fetches

pub returns-clause-works : goal.returns-clause-works
returns-clause-works g c =
    fetched (request_of c.args.view) (g.D.Desk.state c.args.desk.now) (g.D.Desk.state c.load_file.new.desk)
    c.in_ok-bytes.bytes.items c.draw_image.result
    c.in_ok-bytes.ensures.fetches.0.0 c.in_ok-bytes.ensures.fetches.1 c.draw_image.ensures.text c.draw_image.ensures.err
