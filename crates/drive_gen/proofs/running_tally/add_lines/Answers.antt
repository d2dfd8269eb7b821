use Rattle.drive_gen.proofs.Common.{ℕ, ◌<◌, List, length, ap, sym, ◌∙◌}
use Rattle.std.proofs.Common.{subst}
use Rattle.drive_gen.proofs.running_tally.add_lines.Goals as goal

pub returns-clause-some : goal.returns-clause-some
returns-clause-some c = λ some.
    c.in_ok-replace.ensures.some (subst (λ (l : List ℕ). 0 < length l) (sym c.count_lines.ensures.stats) some)
    ∙ c.count_lines.ensures.stats

pub returns-clause-none : goal.returns-clause-none
returns-clause-none c = λ none. c.in_ok-replace.ensures.none (ap length c.count_lines.ensures.stats ∙ none)
