use Rattle.cut_replay.proofs.Common.{sym, ◌∙◌}
use Rattle.cut_replay.proofs.Caching.{look_up, look_up_cached, missed_stays}
use Rattle.cut_replay.proofs.reading.find.Goals as goal

pub returns-clause-bytes : goal.returns-clause-bytes
returns-clause-bytes g c = λ held.
    look_up c.args.device.now c.args.page c.version-version.result c.args.cache.now.entries c.args.room.now
    c.find.new.into c.find.result c.requires.cached
    c.version-version.ensures c.find.ensures.found c.find.ensures.bytes held

pub returns-clause-cached : goal.returns-clause-cached
returns-clause-cached g c =
    look_up_cached c.args.device.now c.args.page c.version-version.result c.args.cache.now c.find.new.self
    c.requires.cached c.find.ensures.front

pub returns-clause-stays : goal.returns-clause-stays
returns-clause-stays g c = λ missed.
    missed_stays c.args.page c.version-version.result c.args.cache.now c.find.new.self
    (sym c.find.ensures.found ∙ missed)
    c.find.ensures.front
