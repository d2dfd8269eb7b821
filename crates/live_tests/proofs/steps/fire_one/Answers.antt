use Rattle.std.proofs.Common.{◌≡◌, ◌<◌, length, sym, ap, ap₂, ◌∙◌, subst, arith}
use Rattle.tx_types.specs.declared.config.Shape.{Shape}
use Rattle.flash_model.specs.Flash.{FlashState}
use Rattle.flash_model.specs.Operations.{Load, CanDo, die_of, fire}
use Rattle.flash_model.specs.Firing.{no_loads, loads_in, with_load}
use Rattle.live_tests.specs.declared.pictures.TheConstants.{SHAPE}
use Rattle.live_tests.proofs.Firing.{one_can}
use Rattle.live_tests.proofs.steps.fire_one.Goals as goal

pub fire-requires : goal.fire-requires
fire-requires g c =
    let old : FlashState = g.F.Flash.state c.args.flash.now in
    let load : Load = record { at = c.args.at.0; bytes = c.args.bytes.now; spare_area = c.args.spare_area.now } in
    let loaded : g.F.Wide.registers c.load.new.self ≡ with_load SHAPE (no_loads SHAPE) load =
    c.load.ensures.loaded
    ∙ ap₂ (λ (s : FlashState) registers. with_load s.shape registers load) c.clear.ensures.stays c.clear.ensures.empty
    ∙ ap (λ (s : Shape). with_load s (no_loads s) load) c.requires.shape
    in
    let below : load.at < 8 = c.requires.may.in_range in
    let can : CanDo SHAPE old.image (fire (loads_in (with_load SHAPE (no_loads SHAPE) load))) =
    one_can SHAPE old.image load (omega arith) (c.requires.may, c.requires.page, c.told-spare_area) in
    subst (λ registers. CanDo (g.F.Flash.state c.load.new.self).shape (g.F.Flash.state c.load.new.self).image
    (fire (loads_in registers))) (sym loaded)
    (subst (λ (s : FlashState). CanDo s.shape s.image (fire (loads_in (with_load SHAPE (no_loads SHAPE) load))))
    (sym (c.load.ensures.stays ∙ c.clear.ensures.stays))
    (subst (λ (s : Shape). CanDo s old.image (fire (loads_in (with_load SHAPE (no_loads SHAPE) load))))
    (sym c.requires.shape) can))
