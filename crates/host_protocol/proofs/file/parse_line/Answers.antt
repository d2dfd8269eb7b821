use Rattle.host_protocol.proofs.Common.{ap, Err}
use Rattle.std.specs.Option.{option_to_list}
use Rattle.host_protocol.proofs.FileLemmas.{ends, file_bad, file_same, only_memory, only_first}
use Rattle.host_protocol.proofs.OneLine.{one_bad, one_file}
use Rattle.host_protocol.proofs.file.parse_line.Goals as goal

pub returns-in-Ok-clause-file : goal.returns-in-Ok-clause-file
returns-in-Ok-clause-file c =
    let line = c.without_return-line.ensures in
    one_file c.args.page_bytes c.args.bytes.now c.in-Ok.found c.requires (rw line at c.in-Ok.ensures.idle)
    (rw line at c.in-Ok.ensures.command)

pub returns-in-Ok-clause-only : goal.returns-in-Ok-clause-only
returns-in-Ok-clause-only c = λ commands file.
    file_same c.args.page_bytes c.args.bytes.now (option_to_list c.in-Ok.found) commands (returns-in-Ok-clause-file c)
    file

pub returns-in-Ok-clause-first : goal.returns-in-Ok-clause-first
returns-in-Ok-clause-first c = λ n bad.
    file_bad c.args.page_bytes c.args.bytes.now (option_to_list c.in-Ok.found) n (returns-in-Ok-clause-file c) bad

pub returns-in-Err-clause-line : goal.returns-in-Err-clause-line
returns-in-Err-clause-line c =
    rw c.at.ensures (ends c.args.page_bytes c.args.bytes.now 1 c.in-Err.e (λ bad.
    one_bad c.args.page_bytes c.args.bytes.now c.requires
    (rw c.without_return-line.ensures at (c.in-Err.ensures.bad (ap Err bad)))))

pub returns-in-Err-clause-only : goal.returns-in-Err-clause-only
returns-in-Err-clause-only c = λ commands file.
    only_memory c.args.page_bytes c.args.bytes.now c.at.result commands (returns-in-Err-clause-line c) file

pub returns-in-Err-clause-first : goal.returns-in-Err-clause-first
returns-in-Err-clause-first c = λ n bad.
    only_first c.args.page_bytes c.args.bytes.now c.at.result n (returns-in-Err-clause-line c) bad
