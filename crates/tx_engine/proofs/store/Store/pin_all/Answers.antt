mod Pinning
use Rattle.tx_engine.proofs.Common.{◌≡◌, ℕ, List, length, ◌<◌, ap, sym, ◌∙◌, subst, arith, Link, found_in, mention_of, no_name, transaction_at, StoreState, IsStoreState}
use Rattle.std.proofs.lemmas.List.Elements.{All-get_or}
use Rattle.judged_records.specs.IndexState.{pinned}
use Rattle.tx_engine.proofs.OfSubmit.Submitted.{above_mention}
use Rattle.tx_engine.proofs.OfSubmit.Submitting.{pins_more}
use Rattle.tx_engine.proofs.store.Store.pin_all.Answers.Pinning.{pinned_matches}
use Rattle.tx_engine.proofs.store.Store.pin_all.Goals as goal

pub loop-place-preserved : goal.loop-place-preserved
loop-place-preserved g c =
    let state = g.F.Flash.state in
    let first = c.args.self.now in
    let now = c.loop-place.self in
    let n = now.noted in
    let so_far = c.loop-place.invariant in
    let pages = c.requires.pages in
    let names = (transaction_at c.args.transactions.now c.args.at).naming.names in
    let place = c.loop-place.place in
    let name = c.name-name.result in
    let inside : place < length names = omega (arith, c.loop-place-test.true, c.pages-place-end.ensures, pages.named) in
    let low : name.page < first.noted.config.logical =
    subst (λ (a : Link). a.page < first.noted.config.logical) (sym c.name-name.ensures)
    (All-get_or (λ (a : Link). a.page < first.noted.config.logical) names place no_name inside pages.range) in
    let above : mention_of first.noted name.page < name.version =
    subst (λ (a : Link). mention_of first.noted a.page < a.version) (sym c.name-name.ensures)
    (All-get_or (λ (a : Link). mention_of first.noted a.page < a.version) names place no_name inside pages.above) in
    let same : n.config.logical ≡ first.noted.config.logical =
    ap (λ (s : StoreState g.row.F.Denot). s.noted.config.logical) so_far.pinned in
    let mentioned : mention_of n name.page ≡ mention_of first.noted name.page =
    ap (λ (s : StoreState g.row.F.Denot). mention_of s.noted name.page) so_far.pinned in
    let within : name.page < n.config.logical = omega (arith, low, same) in
    let bound = so_far.stored.matches.noted.mentioned name.page within in
    let absent = above_mention (found_in n.notes) (record { page = name.page; version = name.version })
    (omega (arith, bound, mentioned, above)) in
    record {
      pinned = c.pin.ensures
          ∙ ap (λ (s : StoreState g.row.F.Denot). record s { noted = pinned s.noted name.page name.version })
          so_far.pinned
          ∙ ap (λ (ps : List ℕ). record first { noted = record first.noted { pins = ps } })
          (pins_more first.noted.pins names place name inside c.name-name.ensures);
      stored = subst (IsStoreState state g.R.CommitRule.protocol) (sym c.pin.ensures) (record {
        matches = pinned_matches n name.page name.version absent (state now.flash) now.table now.unsure
            so_far.stored.matches;
        rule = so_far.stored.rule;
      });
    }
