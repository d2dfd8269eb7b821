use Rattle.cut_replay.proofs.Telling.{stats_serves}
use Rattle.cut_replay.proofs.calls.stats.Goals as goal

pub returns : goal.returns
returns g c = stats_serves g.F.Flash.state c.args.device.now c.stats.result c.stats.ensures
