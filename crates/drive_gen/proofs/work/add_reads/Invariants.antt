use Rattle.drive_gen.proofs.Common.{◌≡◌, ◌++◌, map, range_with_len}
use Rattle.host_protocol.specs.declared.command.Command.TheVariants as command
use Rattle.drive_gen.proofs.work.add_reads.Given as goal

abbrev pub invariant-loop-page : goal.invariant-loop-page
invariant-loop-page l = l.list.items ≡ l.initial.list.items ++ map (λ page. command.Read page) (range_with_len 0 l.page)
