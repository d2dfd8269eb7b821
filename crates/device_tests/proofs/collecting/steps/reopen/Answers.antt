use Rattle.std.proofs.Common.{Ok, sym, ap, ◌∙◌, subst}
use Rattle.tx_types.specs.Config.{checked}
use Rattle.tx_types.specs.declared.config.Config.{Config}
use Rattle.flash_model.specs.Operations.{Moment}
use Rattle.mem_flash.specs.MemFlashState.{MemFlashState, state_of}
use Rattle.judged_records.specs.Images.{IsSoundImage}
use Rattle.collector.proofs.OfSettle.SettledExits.{matches_still}
use Rattle.tx_engine.proofs.OfMount.Mounted.{opened_matches}
use Rattle.device_tests.proofs.collecting.steps.reopen.Goals as goal

pub returns-in_default-clause-matches : goal.returns-in_default-clause-matches
returns-in_default-clause-matches g c =
    matches_still (state_of c.args.kept.now.flash) (state_of c.recover.new.flash) _ _ _
    (c.recover.ensures.carries.shape ∙ ap (λ (m : MemFlashState). m.shape) c.power_on.ensures.exact)
    (ap (λ (m : Moment). m.image) c.recover.ensures.moment
    ∙ ap (λ (m : MemFlashState). m.image) c.power_on.ensures.exact) c.requires.matches

pub returns-clause-matches : goal.returns-clause-matches
returns-clause-matches g c =
    let opened = c.in-Ok.ensures in
    let before = state_of c.power_on.new.self in
    let its = c.config-config.result in
    let still = matches_still (state_of c.args.kept.now.flash) before _ _ _
    (ap (λ (m : MemFlashState). m.shape) c.power_on.ensures.exact)
    (ap (λ (m : MemFlashState). m.image) c.power_on.ensures.exact) c.requires.matches in
    opened_matches c.opened_tables_match.ensures its before (state_of c.recover.new.flash) _ _
    (ap checked c.config-config.ensures.config ∙ still.noted.check ∙ ap Ok (sym still.shape)) still.flash
    (subst (λ q. IsSoundImage q its.logical before.shape before.image)
    (sym (ap (λ (k : Config). k.protocol) c.config-config.ensures.config ∙
    c.requires.rule)) opened.sound)
    opened.tables opened.carries.shape opened.moment
