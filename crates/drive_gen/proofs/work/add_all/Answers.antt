use Rattle.drive_gen.proofs.Common.{◌∙◌, ap, sym, ◌++◌}
use Rattle.std.proofs.Common.{append-nil}
use Rattle.drive_gen.proofs.work.add_all.Goals as goal

pub returns : goal.returns
returns c =
    let at = c.loop in
    let none = c.in_ok-add_next.ensures.last c.if-branch.false in
    none.1 ∙ sym (ap (λ l. at.list.items ++ l) none.0 ∙ append-nil at.list.items) ∙ at.invariant.gives
