mod LengthLemmas
use Rattle.host_protocol.proofs.theorems.lines_are_short.Answers.LengthLemmas.{short_text}
use Rattle.host_protocol.proofs.theorems.lines_are_short.Goals as goal

pub returns : goal.returns
returns c = short_text
