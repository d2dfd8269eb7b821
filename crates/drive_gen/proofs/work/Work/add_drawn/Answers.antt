use Rattle.drive_gen.proofs.WorkParts.{drawn_given}
use Rattle.drive_gen.proofs.work.Work.add_drawn.Goals as goal

pub returns-clause-gives : goal.returns-clause-gives
returns-clause-gives c =
    drawn_given c.args.self.now c.add_transaction.new.generator c.args.list.now.items
    c.add_transaction.new.list.items c.requires.filled c.requires.some c.in_ok-add_transaction.ensures.state
    c.in_ok-add_transaction.ensures.commands
