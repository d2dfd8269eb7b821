use Rattle.host_protocol.proofs.Common.{err_from_is_err_and, lines_of}
use Rattle.std.specs.Prelude.{filter}
use Rattle.host_protocol.specs.Files.{is_command_line}
use Rattle.host_protocol.proofs.CommandLemmas.{file_suits}
use Rattle.host_protocol.proofs.FileLemmas.{file_bad, file_same, only_memory, only_first}
use Rattle.host_protocol.proofs.file.parse.Goals as goal

pub returns-in_err-add_commands-clause-only : goal.returns-in_err-add_commands-clause-only
returns-in_err-add_commands-clause-only c = λ commands file.
    let p = err_from_is_err_and c.from_residual-in_err-add_commands.result
    c.from_residual-in_err-add_commands.ensures.1 in
    rw (p.1, p.2) (only_memory c.args.page_bytes c.args.bytes.now c.in_err-add_commands.field-0.0 commands
    c.in_err-add_commands.ensures.line file)

pub returns-in_err-add_commands-clause-first : goal.returns-in_err-add_commands-clause-first
returns-in_err-add_commands-clause-first c = λ n bad.
    let p = err_from_is_err_and c.from_residual-in_err-add_commands.result
    c.from_residual-in_err-add_commands.ensures.1 in
    rw (p.1, p.2) (only_first c.args.page_bytes c.args.bytes.now c.in_err-add_commands.field-0.0 n
    c.in_err-add_commands.ensures.line bad)

pub returns-clause-suits : goal.returns-clause-suits
returns-clause-suits c =
    file_suits c.args.page_bytes (filter is_command_line (lines_of c.args.bytes.now)) c.add_commands.new.commands.items
    c.in_ok-add_commands.ensures.file.all.each

pub returns-clause-only : goal.returns-clause-only
returns-clause-only c = λ commands file.
    file_same c.args.page_bytes c.args.bytes.now c.add_commands.new.commands.items commands
    c.in_ok-add_commands.ensures.file file

pub returns-clause-first : goal.returns-clause-first
returns-clause-first c = λ n bad.
    file_bad c.args.page_bytes c.args.bytes.now c.add_commands.new.commands.items n
    c.in_ok-add_commands.ensures.file bad
