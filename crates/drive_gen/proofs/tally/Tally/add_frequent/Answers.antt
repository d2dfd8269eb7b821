use Rattle.drive_gen.proofs.FrequentLines.{aborted_line, done_line, opened_line}
use Rattle.drive_gen.proofs.tally.Tally.add_frequent.Goals as goal

pub returns-in-Opened-clause-counted : goal.returns-in-Opened-clause-counted
returns-in-Opened-clause-counted c = λ counted.
    rw c.in-Opened.is (opened_line c.args.self.now c.in-Opened.field-0 c.in-Opened.field-1)

pub returns-in_ok-self-in-Done-clause-counted : goal.returns-in_ok-self-in-Done-clause-counted
returns-in_ok-self-in-Done-clause-counted c = λ counted.
    rw c.in-Done.is (done_line c.args.self.now c.in-Done.field-0 _ c.in_ok-self-in-Done.ensures)

pub returns-in_ok-self-in-Aborted-clause-counted : goal.returns-in_ok-self-in-Aborted-clause-counted
returns-in_ok-self-in-Aborted-clause-counted c = λ counted.
    rw c.in-Aborted.is (aborted_line c.args.self.now c.in-Aborted.field-0 _ c.in_ok-self-in-Aborted.ensures)
