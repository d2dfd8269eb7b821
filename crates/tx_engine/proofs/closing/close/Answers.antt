use Rattle.tx_engine.proofs.OfAbort.Removal.{names_low, names_long, closed_stands}
use Rattle.tx_engine.proofs.closing.close.Goals as goal

pub unpin-requires : goal.unpin-requires
unpin-requires g c = record {
  at = c.requires.at;
  range = names_low g.F.Flash.state c.args.store.now c.args.transactions.now c.requires.ready.stands c.args.at
      c.requires.at;
  named = names_long g.F.Flash.state c.args.store.now c.args.transactions.now c.requires.ready.stands c.args.at
      c.requires.at;
}

pub returns : goal.returns
returns g c = record {
  stands = closed_stands g.F.Flash.state c.args.store.now c.args.transactions.now c.requires.ready.stands c.args.at
      c.requires.at c.requires.ready.sure
      c.unpin.new.store c.remove.new.self c.unpin.ensures.pins c.unpin.ensures.pages c.unpin.ensures.gone
      c.remove.ensures;
  gone = c.remove.ensures;
  pins = c.unpin.ensures.pins;
}
