mod ReplyLemmas
use Rattle.host_protocol.proofs.theorems.lines_tell_replies.Answers.ReplyLemmas.{texts_tell}
use Rattle.host_protocol.proofs.theorems.lines_tell_replies.Goals as goal

pub returns : goal.returns
returns c = texts_tell
