use Rattle.verdict_check.proofs.Common.{arith, left}
use Rattle.verdict_check.proofs.LineLemmas.{none_read, one_read, links_read}
use Rattle.verdict_check.proofs.line.read_links.Goals as goal

pub loop-shown-init : goal.loop-shown-init
loop-shown-init c = none_read c.args.records.now.list.now c.args.page c.args.links (left c.args.reading)
    c.newest_link-link.result c.newest_link-link.ensures

pub loop-shown-preserved : goal.loop-shown-preserved
loop-shown-preserved c = one_read c.args.records.now.list.now c.args.page c.args.links c.loop-shown._shown
    (left c.args.reading) _ _ c.loop-shown.link _
    (omega arith) c.loop-shown.invariant c.read_link-reading.ensures c.newest_link-link-in-loop-shown.ensures

pub returns : goal.returns
returns c = links_read c.args.records.now.list.now c.args.page c.args.links c.loop-shown._shown (left c.args.reading)
    (left c.loop-shown.reading) c.loop-shown.link
    (omega arith) c.loop-shown.invariant
