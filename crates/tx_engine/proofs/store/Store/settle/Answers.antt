use Rattle.tx_engine.proofs.Common.{◌≡◌, Ok, ap, ◌∙◌, sym, refl, subst, rules, Config, FlashState, Carries-nothing, IndexState, BlocksState, Unsure, Matches, StoreState}
use Rattle.collector.specs.Settling.{Settles}
use Rattle.collector.specs.StoreParts.{store_parts}
use Rattle.collector.specs.declared.unsure.Settled.TheVariants.{Other}
use Rattle.collector.specs.declared.unsure.Unsure.TheVariants as unsure
use Rattle.tx_engine.specs.StoreCalls.{SettlesStored}
use Rattle.tx_engine.proofs.OfTables.StoreCalls.{same_config, as_long}
use Rattle.tx_engine.proofs.store.Store.settle.Goals as goal

-- where no place is unsure nothing is looked at
settles_nothing : (s : FlashState) (n : IndexState) (t : BlocksState) → Matches s n t unsure.Nothing →
    Settles (store_parts s n t unsure.Nothing) (store_parts s n t unsure.Nothing) (Ok Other)
settles_nothing s n t matches = record {
  matches = matches;
  found = record { noted = refl; table = refl; answer = refl };
  sure = refl;
  failed = tt;
  moment = refl;
  carries = Carries-nothing s;
  reads = refl;
  first_failed = tt;
}

settles_idle : {F : Type 0} (state : F → FlashState) (s : StoreState F) →
    Matches (state s.flash) s.noted s.table s.unsure → s.unsure ≡ unsure.Nothing → SettlesStored state s s (Ok Other)
settles_idle state s matches idle = record {
  settles = subst
      (λ (u : Unsure). Matches (state s.flash) s.noted s.table u →
      Settles (store_parts (state s.flash) s.noted s.table u)
      (store_parts (state s.flash) s.noted s.table u) (Ok Other))
      (sym idle) (settles_nothing (state s.flash) s.noted s.table) matches;
  failed = tt;
  idle = λ is. (refl, refl);
}

pub settle-requires : goal.settle-requires
settle-requires g c =
    let stored = rw (← c.self.view_is) at c.requires.stored in
    record {
      kept = record { matches = stored.matches; rule = stored.rule };
      own = rw (← c.self.view_is) at c.requires.own;
      room = search rules;
    }

pub invariant_of-self : goal.invariant_of-self
invariant_of-self g c =
    let same = same_config _ _ c.settle.result c.settle.ensures in
    record {
      room = as_long c.self.inside.room c.settle.new.room _ (c.self.invariant.room
          ∙ ap (λ (x : Config). x.page_bytes) (sym same));
    }

pub returns : goal.returns
returns g c = record {
  settles = rw (← c.self.view_is) c.settle.ensures;
  failed = search rules;
  idle = search rules;
}

pub returns-then-eq : goal.returns-then-eq
returns-then-eq g c =
    settles_idle g.F.Flash.state c.args.self.now c.requires.stored.matches (search rules)
