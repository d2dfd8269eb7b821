use Rattle.cut_replay.proofs.Devices.{cached_stays}
use Rattle.cut_replay.proofs.executing.execute.Goals as goal

pub returns-in-Write-clause-cached : goal.returns-in-Write-clause-cached
returns-in-Write-clause-cached g c =
    cached_stays c.args.device.now c.write.new.device c.args.cache.now.entries c.write.ensures.serves.config
    c.write.ensures.serves.versions c.requires.cached
