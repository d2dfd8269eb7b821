use Rattle.host_protocol.proofs.Common.{sym, ◌∙◌}
use Rattle.host_protocol.proofs.LeadingLemmas.{alone_whole}
use Rattle.host_protocol.proofs.operands.whole_number.Goals as goal

pub returns-then-digits-bytes : goal.returns-then-digits-bytes
returns-then-digits-bytes c = alone_whole c.args.bytes.now c.in_ok-number.number c.in_ok-number.ensures.number
    (sym c.in_ok-number.ensures.digits ∙ c.if-digits-bytes.true)
