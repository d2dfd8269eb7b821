use Rattle.drive_gen.proofs.Common.{append_assoc, arith, refl}
use Rattle.std.proofs.lemmas.List.FromFn.{map-range_with_len_more}
use Rattle.host_protocol.specs.declared.command.Command.TheVariants as command
use Rattle.drive_gen.proofs.work.add_reads.Goals as goal

pub loop-page-preserved : goal.loop-page-preserved
loop-page-preserved c =
    rw (
      c.in_ok-push.ensures.items,
      c.loop-page.invariant,
      map-range_with_len_more (λ page. command.Read page) 0 c.loop-page.page c.loop-page.page
          (omega arith),
      append_assoc,
    ) refl
