use Rattle.cut_replay.proofs.server.Server.flush.Goals as goal

pub returns-clause-flushes : goal.returns-clause-flushes
returns-clause-flushes g c = rw c.open_flushed.ensures.flushed c.make_durable-flushed.ensures.flushes
