use Rattle.host_protocol.proofs.Common.{sym}
use Rattle.host_protocol.specs.Lines.{is_line_feed}
use Rattle.host_protocol.proofs.SearchLemmas.{near_first}
use Rattle.host_protocol.proofs.lines.first_line_feed.Goals as goal

pub returns-in-Some : goal.returns-in-Some
returns-in-Some c = sym (near_first is_line_feed 32 c.args.bytes.now c.in-Some.end (sym c.in-Some.ensures))
