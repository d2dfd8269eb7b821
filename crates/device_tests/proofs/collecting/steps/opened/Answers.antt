use Rattle.std.proofs.Common.{sym, subst}
use Rattle.mem_flash.specs.MemFlashState.{state_of}
use Rattle.judged_records.specs.Images.{IsSoundImage}
use Rattle.tx_engine.proofs.OfMount.Mounted.{opened_matches}
use Rattle.device_tests.proofs.collecting.steps.opened.Goals as goal

pub returns-in-Ok-clause-matches : goal.returns-in-Ok-clause-matches
returns-in-Ok-clause-matches g c =
    let opened = c.in-Ok.ensures in
    opened_matches c.opened_tables_match.ensures c.args.config (state_of c.args.flash)
    (state_of c.recover.new.flash) _ _ c.requires.check c.shape.ensures.whole
    (subst (λ q. IsSoundImage q c.args.config.logical c.args.flash.shape c.args.flash.image)
    (sym c.requires.rule) opened.sound)
    opened.tables opened.carries.shape opened.moment
