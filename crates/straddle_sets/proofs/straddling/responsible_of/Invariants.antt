use Rattle.straddle_sets.specs.Responsible.{FindsAnswer}
use Rattle.straddle_sets.proofs.straddling.responsible_of.Given as goal

abbrev pub invariant-loop-at : goal.invariant-loop-at
invariant-loop-at l = FindsAnswer l.list l.link l.current l.at l.answer
