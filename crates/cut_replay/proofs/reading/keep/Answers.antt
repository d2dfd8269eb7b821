use Rattle.cut_replay.proofs.Caching.{keep_cached}
use Rattle.cut_replay.proofs.reading.keep.Goals as goal

pub returns-clause-cached : goal.returns-clause-cached
returns-clause-cached g c =
    keep_cached c.args.device.now c.args.page c.version-version.result c.args.room.now c.args.cache.now c.keep.new.self
    c.keep.result c.requires.exists
    c.requires.bytes
    c.requires.cached c.version-version.ensures c.keep.ensures.ok c.keep.ensures.err
