use Rattle.tx_engine.proofs.Common.{◌≡◌, transaction_at, with_pins, IsStoreState}
use Rattle.std.proofs.Common.{take}
use Rattle.tx_engine.proofs.store.Store.pin_all.Given as goal

abbrev pub invariant-loop-place : goal.invariant-loop-place
invariant-loop-place g l =
    let n = l.initial.self.noted in
    record {
      pinned : l.self ≡ record l.initial.self {
        noted = record n {
          pins = with_pins n.pins
              (take l.place (transaction_at l.transactions l.at).naming.names);
        };
      };
      stored : IsStoreState g.F.Flash.state g.R.CommitRule.protocol l.self;
    }
