use Rattle.drive_gen.proofs.Common.{List, ℕ, sym, ap, ◌∙◌, ◌++◌}
use Rattle.std.proofs.Common.{subst}
use Rattle.drive_gen.specs.Counting.{IsTally}
use Rattle.drive_gen.specs.Summary.{summary_line}
use Rattle.drive_gen.proofs.running_tally.RunningTally.add_summary.Goals as goal

pub returns : goal.returns
returns c = λ bytes h.
    let counted = subst (λ (l : List ℕ). IsTally bytes c.count_open.new.self.tally l) (sym c.deref.ensures.value)
    (c.in_ok-count_open.ensures.counted bytes h) in
    c.in_ok-add_counted.ensures bytes counted
    ∙ ap (λ n. c.args.out.now.items ++ summary_line c.args.start c.args.count c.args.protocol n bytes)
    c.count_open.ensures.replies
