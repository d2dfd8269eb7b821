use Rattle.tx_engine.proofs.Common.{◌≡◌, ◌≢◌, ◌<◌, ℕ, length, Contains, ◌↔◌, Link, pinned_names, transaction_at, name_at}
use Rattle.tx_engine.proofs.closing.unpin.Given as goal

abbrev pub invariant-loop-place : goal.invariant-loop-place
invariant-loop-place g l = record {
  pins : l.store ≡ record l.initial.store { noted = record l.initial.store.noted { pins = l.store.noted.pins } };
  pages : length l.store.noted.pins ≡ length l.initial.store.noted.pins;
  gone : (name : Link) → Contains (pinned_names l.store.noted.pins) name
      ↔ (Contains (pinned_names l.initial.store.noted.pins) name
      × ((k : ℕ) → k < l.place → (name_at (transaction_at l.transactions l.at).naming k).page ≢ name.page));
}
