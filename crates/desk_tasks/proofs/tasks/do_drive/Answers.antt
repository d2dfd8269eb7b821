use Rattle.desk_tasks.proofs.Common.{◌≡◌, refl, Ending}
use Rattle.desk_tasks.specs.Ending.{SummedUp}
use Rattle.desk_tasks.proofs.Works.{out_of_memory}
use Rattle.desk_tasks.proofs.tasks.do_drive.Goals as goal

pub returns-in_err-line : goal.returns-in_err-line
returns-in_err-line c =
    out_of_memory (λ (ending : Ending). ending ≡ SummedUp c.args.start c.args.count c.args.protocol)
    c.from_residual.result c.in_err-line.field-0.0 c.from_residual.ensures.1 c.in_err-line.ensures.err

pub returns : goal.returns
returns c =
    let line = c.in_ok-line.ensures.ok in (
      SummedUp c.args.start c.args.count c.args.protocol,
      refl,
      refl,
      record { saves_nothing = refl; left = line.left; replies = line.text; run = line.run; said = line.said },
    )
