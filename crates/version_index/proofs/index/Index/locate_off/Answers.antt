use Rattle.version_index.proofs.Common.{ap, subst, sym, ◌∙◌, ◌<◌, IsNoted, current_name_of, slot_off}
use Rattle.judged_records.proofs.OfNotes.NotedFacts.{off_located}
use Rattle.version_index.proofs.OfReadings.KeptReadings.{read_off}
use Rattle.version_index.proofs.index.Index.locate_off.Goals as goal

pub returns-clause-lowest : goal.returns-clause-lowest
returns-clause-lowest g c =
    let below = subst (λ n. c.args.page < n.config.logical) (sym c.self.view_is) c.requires.page in
    c.locate_off.ensures ∙ read_off _ _ _ _ c.self.invariant.indexed c.args.page c.args.block.0 below
    ∙ ap (λ n. slot_off n c.args.block.0 (current_name_of n c.args.page)) c.self.view_is

pub returns-clause-holds : goal.returns-clause-holds
returns-clause-holds g c =
    off_located _ c.args.self.now (subst (IsNoted _) c.self.view_is c.self.invariant.indexed.noted) c.args.block.0
    (current_name_of c.args.self.now c.args.page)
    c.locate_off.result (returns-clause-lowest g c)
