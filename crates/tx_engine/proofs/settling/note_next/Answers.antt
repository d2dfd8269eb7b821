use Rattle.tx_engine.proofs.Common.{ap, ◌∙◌, ◌+◌}
use Rattle.tx_engine.proofs.OfSettle.NextSet.{next_whole}
use Rattle.tx_engine.proofs.settling.note_next.Goals as goal

pub returns-then-noted-pages : goal.returns-then-noted-pages
returns-then-noted-pages c =
    next_whole c.args.transactions.now c.set_noted_count.new.self c.set_mark.new.self c.args.at _ c.requires.at
    c.set_noted_count.ensures
    (ap (λ n. n + 1) c.noted_count-noted.ensures) (c.if-noted-pages.true ∙ c.pages-pages.ensures) c.set_mark.ensures
