use Rattle.std.proofs.Common.{rules}
use Rattle.desk_io.proofs.Resting.{loads_rests}
use Rattle.program_base.proofs.Fetching.{Becomes, fetched}
use Rattle.program_base.proofs.loading.load_file.Goals as goal

pub returns-clause-disk : goal.returns-clause-disk
returns-clause-disk g c =
    loads_rests c.args.name.now c.load.result (g.D.Desk.disk c.args.desk.now) (g.D.Desk.disk c.load.new.self)
    c.load.ensures.disk

pub returns-clause-fetches : goal.returns-clause-fetches
returns-clause-fetches g c =
    let is : Becomes c.args.name.now c.load.result c.map_err.result = search rules in
    fetched c.args.name.now c.load.result c.map_err.result (g.D.Desk.state c.args.desk.now)
    (g.D.Desk.state c.load.new.self)
    (g.D.Desk.disk c.args.desk.now) (g.D.Desk.disk c.load.new.self) c.load.ensures.loads c.load.ensures.disk is
