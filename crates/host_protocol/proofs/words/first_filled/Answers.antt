use Rattle.host_protocol.proofs.Common.{sym}
use Rattle.host_protocol.proofs.WordLemmas.{second_filled}
use Rattle.host_protocol.proofs.words.first_filled.Goals as goal

pub returns-then-is_filled : goal.returns-then-is_filled
returns-then-is_filled c = second_filled c.args.line.now c.if-line-gt1.true c.if-line-eq32.true
    (sym c.if-is_filled.ensures)
