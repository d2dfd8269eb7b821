use Rattle.std.proofs.Common.{◌≡◌, ◌<◌, length, sym, ap, ap₂, ◌∙◌, subst, arith}
use Rattle.tx_types.specs.declared.config.Shape.{Shape}
use Rattle.flash_model.specs.Flash.{FlashState}
use Rattle.flash_model.specs.Operations.{Load, CanDo, die_of, fire}
use Rattle.flash_model.specs.Firing.{no_loads, loads_in, with_load}
use Rattle.live_tests.specs.declared.pictures.TheConstants.{SHAPE}
use Rattle.live_tests.proofs.Firing.{both_can}
use Rattle.live_tests.proofs.steps.fire_two.Goals as goal

pub fire-requires : goal.fire-requires
fire-requires g c =
    let old : FlashState = g.F.Flash.state c.args.flash.now in
    let load : Load = record { at = c.args.at.0; bytes = c.args.bytes.now; spare_area = c.args.spare_area.now } in
    let other : Load =
    record { at = c.args.other_at.0; bytes = c.args.other_bytes.now; spare_area = c.args.spare_area.now } in
    let loaded : g.F.Wide.registers c.load.new.self ≡ with_load SHAPE (no_loads SHAPE) load =
    c.load.ensures.loaded
    ∙ ap₂ (λ (s : FlashState) registers. with_load s.shape registers load) c.clear.ensures.stays c.clear.ensures.empty
    ∙ ap (λ (s : Shape). with_load s (no_loads s) load) c.requires.shape
    in
    let shape_is : (g.F.Flash.state c.load.new.self).shape ≡ SHAPE =
    ap (λ (s : FlashState). s.shape) (c.load.ensures.stays ∙ c.clear.ensures.stays) ∙ c.requires.shape in
    let both : g.F.Wide.registers c.load-2.new.self ≡ with_load SHAPE (with_load SHAPE (no_loads SHAPE) load) other =
    c.load-2.ensures.loaded ∙ ap₂ (λ (s : Shape) registers. with_load s registers other) shape_is loaded in
    let below : other.at < 8 = c.requires.other_may.in_range in
    let can
    : CanDo SHAPE old.image (fire (loads_in (with_load SHAPE (with_load SHAPE (no_loads SHAPE) load) other))) =
    both_can SHAPE old.image load (omega arith) (c.requires.may, c.requires.page, c.told-spare_area) other (omega arith)
    (omega arith) (c.requires.other_may, c.requires.other_page, c.told-spare_area) in
    subst (λ registers. CanDo (g.F.Flash.state c.load-2.new.self).shape (g.F.Flash.state c.load-2.new.self).image
    (fire (loads_in registers))) (sym both)
    (subst (λ (s : FlashState). CanDo s.shape s.image
    (fire (loads_in (with_load SHAPE (with_load SHAPE (no_loads SHAPE) load) other))))
    (sym (c.load-2.ensures.stays ∙ c.load.ensures.stays ∙ c.clear.ensures.stays))
    (subst (λ (s : Shape). CanDo s old.image
    (fire (loads_in (with_load SHAPE (with_load SHAPE (no_loads SHAPE) load) other)))) (sym c.requires.shape) can))
