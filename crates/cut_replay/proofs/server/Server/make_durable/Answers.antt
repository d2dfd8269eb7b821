use Rattle.cut_replay.proofs.Common.{refl, subst}
use Rattle.cut_replay.specs.ServerCalls.{FlushesServer}
use Rattle.cut_replay.specs.ServerState.{ServerState}
use Rattle.cut_replay.proofs.Flushes.{flushed_fits, flushes_server}
use Rattle.cut_replay.proofs.server.Server.make_durable.Goals as goal

pub invariant_of-self : goal.invariant_of-self
invariant_of-self g c =
    let s = c.self.inside in
    record {
      rule = c.self.invariant.rule;
      fits = flushed_fits g.F.Flash.state s.config s.cache.entries s.session c.flush.new.session
          c.flush.ensures.stays c.self.invariant.fits;
      room = c.self.invariant.room;
      size = c.self.invariant.size;
    }

pub returns-clause-stays : goal.returns-clause-stays
returns-clause-stays g c =
    let s = c.self.inside in
    let old : ServerState g.row.F.Denot = record { config = s.config; session = s.session; cache = s.cache } in
    let new : ServerState g.row.F.Denot =
    record { config = s.config; session = c.flush.new.session; cache = s.cache } in
    subst (λ (x : ServerState g.row.F.Denot). FlushesServer g.F.Flash.state x.config x new) c.self.view_is
    (flushes_server g.F.Flash.state s.config old new refl refl c.flush.ensures.stays)

pub returns-clause-flushes : goal.returns-clause-flushes
returns-clause-flushes g c = rw (← c.self.view_is) c.flush.ensures.flushes
