use Rattle.std.proofs.Common.{sym}
use Rattle.die_alloc.proofs.NextSlots.{first_die}
use Rattle.die_alloc.proofs.blocks.Blocks.die_after.Goals as goal

pub returns-else-next-self : goal.returns-else-next-self
returns-else-next-self c =
    let table = c.self.invariant.table in
    let within = rw (← c.self.view_is) at c.requires in
    let past = rw (c.quotient-next.ensures, c.self.invariant.die_blocks) at c.if-next-self.false in
    rw (← c.self.view_is) (sym (first_die c.self.inside.shape c.args.block table.numbers within past))
