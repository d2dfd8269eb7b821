use Rattle.cut_replay.proofs.Common.{Err, refl, sym, ap, subst, ◌∙◌, length}
use Rattle.host_protocol.specs.Commands.{Suits}
use Rattle.tx_engine.proofs.OfTables.StoreCalls.{as_long}
use Rattle.cut_replay.specs.ServerCalls.{ServesNext}
use Rattle.cut_replay.specs.ServerState.{ServerState}
use Rattle.cut_replay.proofs.ServerCalls.{answered_next, where_answered, ends_next, ended_fits}
use Rattle.cut_replay.proofs.server.Server.answer_next.Goals as goal

pub serve_one-served-requires-clause-suits : goal.serve_one-served-requires-clause-suits
serve_one-served-requires-clause-suits g c =
    subst (λ (x : ServerState g.row.F.Denot). Suits x.config.page_bytes c.args.command.now) (sym c.self.view_is)
    c.requires

pub serve_one-served-requires-clause-room : goal.serve_one-served-requires-clause-room
serve_one-served-requires-clause-room g c = ap length c.deref_mut.ensures.value ∙ c.self.invariant.room

pub invariant_of-self-in_default : goal.invariant_of-self-in_default
invariant_of-self-in_default g c = record {
  rule = c.self.invariant.rule;
  fits = where_answered c.serve_one-served.result c.in_default.not-Err c.serve_one-served.ensures.fits;
  room = as_long c.self.inside.room c.serve_one-served.new.room c.self.inside.config.page_bytes c.self.invariant.room;
  size = c.serve_one-served.ensures.size ∙ c.self.invariant.size;
}

pub returns-in_default : goal.returns-in_default
returns-in_default g c =
    let s = c.self.inside in
    let old : ServerState g.row.F.Denot = record { config = s.config; session = s.session; cache = s.cache } in
    let new : ServerState g.row.F.Denot =
    record { config = s.config; session = c.serve_one-served.new.session; cache = c.serve_one-served.new.cache } in
    subst (λ (x : ServerState g.row.F.Denot).
    ServesNext g.F.Flash.state x.config c.args.command.now x c.serve_one-served.result new) c.self.view_is
    (answered_next g.F.Flash.state s.config c.args.command.now c.serve_one-served.result old new c.in_default.not-Err
    refl c.serve_one-served.ensures)

pub invariant_of-self : goal.invariant_of-self
invariant_of-self g c =
    let s = c.self.inside in
    record {
      rule = c.self.invariant.rule;
      fits = ended_fits g.F.Flash.state s.config c.args.command.now c.in-Err.why c.serve_one-served.new.session
          s.session c.unmount.new.self s.cache c.serve_one-served.new.cache c.serve_one-served.new.cache.entries
          c.self.invariant.fits c.unmount.ensures c.in-Err.ensures;
      room = as_long s.room c.serve_one-served.new.room s.config.page_bytes c.self.invariant.room;
      size = c.in-Err.ensures.size ∙ c.self.invariant.size;
    }

pub returns-in-Err : goal.returns-in-Err
returns-in-Err g c =
    let s = c.self.inside in
    let old : ServerState g.row.F.Denot = record { config = s.config; session = s.session; cache = s.cache } in
    let new : ServerState g.row.F.Denot =
    record { config = s.config; session = c.unmount.new.self; cache = c.serve_one-served.new.cache } in
    subst (λ (x : ServerState g.row.F.Denot).
    ServesNext g.F.Flash.state x.config c.args.command.now x (Err c.in-Err.why) new) c.self.view_is
    (ends_next g.F.Flash.state s.config c.args.command.now c.in-Err.why c.serve_one-served.new.session old new
    c.serve_one-served.new.cache refl c.unmount.ensures c.in-Err.ensures)
