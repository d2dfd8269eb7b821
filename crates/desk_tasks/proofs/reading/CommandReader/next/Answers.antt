use Rattle.desk_tasks.proofs.Common.{subst}
use Rattle.host_protocol.specs.Files.{IsFile}
use Rattle.desk_tasks.proofs.CommandReading.{all_read}
use Rattle.desk_tasks.proofs.reading.CommandReader.next.Goals as goal

-- behind the last line all were read
pub returns-clause-reads : goal.returns-clause-reads
returns-clause-reads c = λ bytes commands h.
    let r = c.loop-line.self in
    subst (λ size. IsFile size bytes commands) c.loop-line.invariant.size
    (all_read r.page_bytes bytes commands r.lines r.rest.now r.commands r.entries_left
    (c.loop-line.invariant.read bytes commands h) c.in_default.ensures.none)
