use Rattle.tx_engine.proofs.Common.{◌≡◌, ◌≢◌, ◌+◌, ◌<◌, ℕ, length, ap, sym, ◌∙◌, subst, set, arith, ◌↔◌, length-set, get_or_default, Link, pinned_names, transaction_at, name_at, no_name, StoreState}
use Rattle.std.specs.Prelude.{Contains}
use Rattle.tx_engine.proofs.OfTables.PinnedNames.{unpin_more}
use Rattle.tx_engine.proofs.OfAbort.Removal.{pins_then}
use Rattle.tx_engine.proofs.closing.unpin.Goals as goal

pub loop-place-preserved : goal.loop-place-preserved
loop-place-preserved g c =
    let x = (transaction_at c.args.transactions.now c.args.at).naming in
    let pins : c.unpin.new.self.noted.pins ≡ set c.loop-place.store.noted.pins c.name.result.page 0 =
    ap (λ (s : StoreState _). s.noted.pins) c.unpin.ensures in
    record {
      pins = pins_then c.args.store.now c.loop-place.store c.unpin.new.self c.name.result.page
          c.loop-place.invariant.pins c.unpin.ensures;
      pages = ap length pins ∙ length-set c.loop-place.store.noted.pins c.name.result.page 0
          ∙ c.loop-place.invariant.pages;
      gone = subst (λ ps. (name : Link) →
          Contains (pinned_names ps)
          name ↔ (Contains (pinned_names c.args.store.now.noted.pins) name
          × ((k : ℕ) → k < c.loop-place.place + 1 → (name_at x k).page ≢ name.page)))
          (sym pins)
          (unpin_more c.args.store.now.noted.pins c.loop-place.store.noted.pins (λ k. (name_at x k).page)
          c.loop-place.place c.name.result.page
          (ap (λ (a : Link). a.page) c.name.ensures) c.loop-place.invariant.gone);
    }

pub returns : goal.returns
returns g c = record {
  pins = c.loop-place.invariant.pins;
  pages = c.loop-place.invariant.pages;
  gone = λ name.
      let inv = c.loop-place.invariant.gone name in
      let x = (transaction_at c.args.transactions.now c.args.at).naming in
      let long : length x.names ≡ c.pages-place-end.result = c.requires.named ∙ sym c.pages-place-end.ensures in
      let past = c.loop-place-test.false in
      let upto = c.loop-place.auto.place-end in (
        (λ pin. let both = inv.0 pin in (
          both.0,
          λ k d inside same. both.1 k (omega arith)
              (ap (λ (a : Link). a.page) (get_or_default x.names k no_name d inside) ∙ same),
        )),
        (λ both. inv.1 (both.0, λ k less. both.1 k no_name (omega arith))),
      );
}
