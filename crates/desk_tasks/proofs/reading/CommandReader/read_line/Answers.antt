use Rattle.desk_tasks.proofs.Common.{ap, Err}
use Rattle.desk_tasks.proofs.CommandReading.{bad_line, read_command, read_idle}
use Rattle.desk_tasks.proofs.reading.CommandReader.read_line.Goals as goal

pub returns-in-Ok-Some-clause-reads : goal.returns-in-Ok-Some-clause-reads
returns-in-Ok-Some-clause-reads c = λ bytes commands h.
    let r = c.args.self.now in
    read_command r.page_bytes bytes commands r.lines r.rest.now c.args.line.now c.args.behind.now r.commands
    r.entries_left c.in-Ok-Some.command c.entry_count.result h c.requires.line
    (rw c.in-Ok-Some.field-0-is at c.in-Ok-Some.ensures.command) c.entry_count.ensures

pub returns-in-Ok-None-clause-reads : goal.returns-in-Ok-None-clause-reads
returns-in-Ok-None-clause-reads c = λ bytes commands h.
    let r = c.args.self.now in
    read_idle r.page_bytes bytes commands r.lines r.rest.now c.args.line.now c.args.behind.now r.commands
    r.entries_left h c.requires.line (rw c.in-Ok-None.field-0-is at c.in-Ok-None.ensures.idle)

pub returns-in-Err-clause-reads : goal.returns-in-Err-clause-reads
returns-in-Err-clause-reads c = λ bytes commands h.
    let r = c.args.self.now in
    rw c.at.ensures (bad_line r.page_bytes bytes commands r.lines r.rest.now c.args.line.now c.args.behind.now
    r.commands r.entries_left c.in-Err.error h c.requires.line (λ bad. c.in-Err.ensures.bad (ap Err bad)))
