use Rattle.desk_tasks.proofs.KeyEndings.{unscripted}
use Rattle.desk_tasks.proofs.keying.read_script.Goals as goal

pub returns-in_err-list-clause-err : goal.returns-in_err-list-clause-err
returns-in_err-list-clause-err c =
    unscripted c.args.bytes.now c.from_residual.result c.in_err-list.field-0.0 c.from_residual.ensures.1
    c.in_err-list.ensures.line
