use Rattle.drive_gen.proofs.Common.{◌∙◌, ap, ◌++◌}
use Rattle.drive_gen.specs.Work.{written_at_once}
use Rattle.drive_gen.proofs.WorkParts.{fill_given}
use Rattle.drive_gen.proofs.work.Work.add_fill.Goals as goal

pub returns-clause-gives : goal.returns-clause-gives
returns-clause-gives c =
    let old = c.args.list.now.items in
    fill_given c.args.self.now old c.add_finish.new.list.items c.requires.page
    (c.in_ok-add_finish.ensures ∙ ap (λ b. old ++ written_at_once 0 b) c.in_ok-batch.ensures)
