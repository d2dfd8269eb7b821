use Rattle.collector.proofs.Common.{Ok, refl, sym, subst, FlashState, IndexState, BlocksState, Unsure, store_parts}
use Rattle.collector.specs.declared.unsure.Settled.TheVariants.{Other}
use Rattle.collector.specs.declared.unsure.Unsure.TheVariants as unsure
use Rattle.collector.specs.Settling.{Finds}
use Rattle.collector.proofs.OfSettle.BlockReadings.{looks_none}
use Rattle.collector.proofs.broken_operation.settle_place.Goals as goal

-- where no place is unsure nothing is read
finds_none : (s : FlashState) (n : IndexState) (t : BlocksState) →
    Finds (store_parts s n t unsure.Nothing) s n t (Ok Other)
finds_none s n t = record {
  found = record { noted = refl; table = refl; answer = refl };
  failed = tt;
  looks = looks_none s;
}

pub returns-in-Nothing : goal.returns-in-Nothing
returns-in-Nothing g c =
    let s = g.F.Flash.state c.args.flash.now in
    subst (λ (u : Unsure). Finds (store_parts s c.args.index.now c.args.blocks.now u) s c.args.index.now
    c.args.blocks.now (Ok Other))
    (sym c.in-Nothing.is) (finds_none s c.args.index.now c.args.blocks.now)
