mod FinishCalls
use Rattle.cut_replay.proofs.finishing.finish.Answers.FinishCalls.{last_serves, wrote_serves, step_fewer}
use Rattle.cut_replay.proofs.finishing.finish.Goals as goal

pub steps-smaller : goal.steps-smaller
steps-smaller g c =
    step_fewer g.F.Flash.state c.steps.device c.step.new.device c.in-Wrote.field-0 c.args.tag c.in-Wrote.field-1
    c.in-Wrote.field-2 c.in-Wrote.ensures.serves

pub steps-preserved : goal.steps-preserved
steps-preserved g c = (
  c.step.ensures.always,
  λ new r rest. c.steps.invariant.1 new r
      (wrote_serves g.F.Flash.state c.steps.device c.step.new.device new c.in-Wrote.field-0 c.args.tag
      c.in-Wrote.field-1 c.in-Wrote.field-2 r
      c.in-Wrote.ensures.serves rest),
)

pub returns-in_default : goal.returns-in_default
returns-in_default g c = record {
  serves = c.steps.invariant.1 c.step.new.device c.step.result
      (last_serves g.F.Flash.state c.steps.device c.step.new.device c.args.tag c.step.result
      (λ own done all. c.in_default.not-Wrote own done all) c.step.ensures.serves);
  always = c.step.ensures.always;
}
