use Rattle.version_index.proofs.Common.{ap, arith, number_at}
use Rattle.version_index.specs.Written.{fills, pages_written}
use Rattle.version_index.proofs.OfWritten.CountedPages.{same_bit, set_written, is_counted, most_written}
use Rattle.version_index.proofs.counting.set_current.Goals as goal

pub recount-requires-clause-counted : goal.recount-requires-clause-counted
recount-requires-clause-counted c =
    let k = c.args.tables.now in
    let sizes = c.shape.ensures.kept.current in
    let page = c.requires.page in
    let least = is_counted k c.args.page (omega arith) in
    let before = same_bit c.args.before (fills k.records (number_at k.current c.args.page)) c.requires.before in
    let written = c.requires.written in
    omega arith

pub recount-requires-clause-few : goal.recount-requires-clause-few
recount-requires-clause-few c =
    let sizes = c.shape.ensures.kept.current in
    let few = c.requires.few in
    let most = most_written c.args.tables.now in
    let written = c.requires.written in
    omega arith

pub returns-clause-written : goal.returns-clause-written
returns-clause-written c =
    let k = c.args.tables.now in
    let sizes = c.shape.ensures.kept.current in
    let page = c.requires.page in
    let more = set_written k c.args.page c.args.to (omega arith) in
    let before = same_bit c.args.before (fills k.records (number_at k.current c.args.page)) c.requires.before in
    let after = same_bit c.args.after (fills k.records c.args.to) c.requires.after in
    let written = c.requires.written in
    let sum = c.recount.ensures in
    let now = ap pages_written c.set_current.ensures in
    omega arith
