use Rattle.cut_replay.proofs.Common.{◌≡◌, Ok, sym, subst, checked}
use Rattle.cut_replay.specs.ServerState.{ServerState}
use Rattle.cut_replay.proofs.Begun.{fits_shape}
use Rattle.cut_replay.proofs.server.Server.close.Goals as goal

pub returns-clause-check : goal.returns-clause-check
returns-clause-check g c =
    let s = c.self.inside in
    subst (λ (x : ServerState g.row.F.Denot). checked x.config ≡ Ok (g.F.Flash.state c.close.result).shape)
    c.self.view_is
    (subst (λ flash. checked s.config ≡ Ok (g.F.Flash.state flash).shape) (sym c.close.ensures)
    (fits_shape g.F.Flash.state s.config s.cache.entries s.session c.self.invariant.fits))
