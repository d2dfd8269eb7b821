use Rattle.verdict_check.proofs.Common.{arith, subst, ◌≤◌}
use Rattle.verdict_check.specs.WalkEnds.{IsCounted}
use Rattle.verdict_check.proofs.checker.Checker.links.Goals as goal

pub overflow_add-result : goal.overflow_add-result
overflow_add-result c =
    let low : c.in-Ends.after ≤ c.args.self.now.logical = subst (IsCounted c.args.self.now.logical) c.in-Ends.is
    c.requires.counted in
    let few = c.requires.logical in
    omega arith

pub overflow_add-result-in-Long : goal.overflow_add-result-in-Long
overflow_add-result-in-Long c = let few = c.requires.logical in omega arith
