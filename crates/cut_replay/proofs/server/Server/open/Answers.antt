use Rattle.cut_replay.proofs.Common.{List, refl, sym, subst, CachedPage, Fits, Unmounted}
use Rattle.flash_model.proofs.CallLemmas.{Carries-nothing}
use Rattle.mounted_session.proofs.Mounting.{nothing_done}
use Rattle.cut_replay.proofs.Begun.{first_fits}
use Rattle.cut_replay.proofs.Mountings.{refused_as}
use Rattle.cut_replay.proofs.ServerCalls.{opens_server}
use Rattle.cut_replay.proofs.server.Server.open.Goals as goal

pub returns-in_default-clause-failed : goal.returns-in_default-clause-failed
returns-in_default-clause-failed g c = nothing_done (g.F.Flash.state c.args.flash)

pub invariant_of-result : goal.invariant_of-result
invariant_of-result g c = record {
  rule = c.requires.rule;
  fits = subst (λ (entries : List CachedPage). Fits g.F.Flash.state c.args.config entries c.in-Ok-begin.session)
      (sym c.in-Ok.ensures.empty)
      (first_fits g.F.Flash.state c.args.config c.args.flash c.in-Ok-begin.session
      (record { mounts = c.in-Ok-begin.ensures.begins; met = c.in-Ok-begin.ensures.met }) c.requires.check);
  room = c.in-Ok.ensures.room;
  size = c.in-Ok.ensures.size;
}

pub returns-in-Ok-begin-clause-opens : goal.returns-in-Ok-begin-clause-opens
returns-in-Ok-begin-clause-opens g c =
    opens_server g.F.Flash.state c.args.config c.args.flash
    (record { config = c.args.config; session = c.in-Ok-begin.session; cache = c.in-Ok.cache }) refl
    (record { mounts = c.in-Ok-begin.ensures.begins; met = c.in-Ok-begin.ensures.met })

pub returns-in-Err-clause-failed : goal.returns-in-Err-clause-failed
returns-in-Err-clause-failed g c =
    subst (Unmounted g.F.Flash.state c.args.config c.args.flash c.in-Err.flash) (sym c.from.ensures)
    (refused_as g.F.Flash.state c.args.config c.args.flash c.in-Err.flash c.in-Err.why c.in-Err.ensures.failed)

pub returns-in_default-clause-calls : goal.returns-in_default-clause-calls
returns-in_default-clause-calls g c = Carries-nothing (g.F.Flash.state c.args.flash)
