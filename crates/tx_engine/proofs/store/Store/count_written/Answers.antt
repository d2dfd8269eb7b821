use Rattle.tx_engine.proofs.Common.{sym, ap, ◌∙◌}
use Rattle.version_index.specs.Written.{written_of}
use Rattle.tx_engine.proofs.OfTables.WrittenPages.{written_known}
use Rattle.tx_engine.proofs.store.Store.count_written.Goals as goal

pub returns : goal.returns
returns g c =
    let n = c.args.self.now.noted in
    let s = g.F.Flash.state c.args.self.now.flash in
    let t = c.args.self.now.table in
    let u = c.args.self.now.unsure in
    let stored = c.requires.stored in
    let notes = c.known_image_is_sound.ensures.notes s n t u stored.matches stored.rule in
    let array = c.known_image_is_sound.ensures.array s n t u stored.matches stored.rule in
    c.count_written.ensures
    ∙ ap (λ own. written_of own.noted) c.self.view_is
    ∙ sym (written_known g.R.CommitRule.protocol s n t u stored.matches stored.rule notes array)
