use Rattle.host_protocol.proofs.Common.{refl}
use Rattle.host_protocol.proofs.LeadingLemmas.{number_first}
use Rattle.host_protocol.proofs.PartLemmas.{rest_is}
use Rattle.host_protocol.proofs.operands.number_at_start.Goals as goal

pub returns-then-ends_at : goal.returns-then-ends_at
returns-then-ends_at c =
    let here = c.in_ok-number.ensures.digits in
    rw (rest_is c.in_ok-number.digits c.args.words.now, here)
    (number_first c.args.words.now c.in_ok-number.number c.in_ok-number.ensures.number
    (rw here at (c.if-ends_at.ensures.blank refl)))
