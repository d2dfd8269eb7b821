use Rattle.std.proofs.Common.{◌≡◌, sym, ap, ◌∙◌, subst}
use Rattle.flash_model.specs.Flash.{FlashState}
use Rattle.flash_model.specs.Operations.{CanDo, fire}
use Rattle.flash_model.specs.Firing.{no_loads, loads_in}
use Rattle.live_tests.specs.declared.pictures.TheConstants.{SHAPE}
use Rattle.live_tests.proofs.Firing.{none_can}
use Rattle.live_tests.proofs.steps.fire_none.Goals as goal

pub fire-requires : goal.fire-requires
fire-requires g c =
    let old : FlashState = g.F.Flash.state c.args.flash.now in
    subst (λ registers. CanDo (g.F.Flash.state c.clear.new.self).shape (g.F.Flash.state c.clear.new.self).image
    (fire (loads_in registers))) (sym c.clear.ensures.empty)
    (subst (λ (s : FlashState). CanDo s.shape s.image (fire (loads_in (no_loads old.shape))))
    (sym c.clear.ensures.stays) (none_can old.shape old.image))
