mod HeldAlways
use Rattle.tx_engine.proofs.always.device_facts.Answers.HeldAlways.{holds_always}
use Rattle.tx_engine.proofs.always.device_facts.Goals as goal

pub returns-clause-always : goal.returns-clause-always
returns-clause-always g c =
    let s = c.args.device.now in
    let stands = c.config.ensures.stands in
    let rule = c.config.ensures.rule in
    holds_always g.F.Flash.state g.R.CommitRule.protocol s c.requires.kept stands rule
    (c.device_invariant.ensures.sound s stands rule)
    (c.device_invariant.ensures.array s stands rule)
    (c.device_invariant.ensures.records s stands rule) (c.device_invariant.ensures.mentions s stands rule)
    (λ old there tag. c.crash_states.ensures.step old s there tag stands rule)
    (λ old there. c.crash_states.ensures.settled old s there stands rule)
