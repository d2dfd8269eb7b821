use Rattle.tx_engine.proofs.Common.{ap, ◌∙◌, sym, Config}
use Rattle.tx_engine.proofs.store.Store.write.Goals as goal

pub write_record-requires-clause-sure : goal.write_record-requires-clause-sure
write_record-requires-clause-sure g c = rw (← c.self.view_is) at c.requires.sure

pub write_record-requires-clause-can : goal.write_record-requires-clause-can
write_record-requires-clause-can g c = rw (← c.self.view_is) at c.requires.can

pub invariant_of-self : goal.invariant_of-self
invariant_of-self g c = record {
  room = c.self.invariant.room
      ∙ ap (λ (x : Config). x.page_bytes) (sym c.write_record.ensures.config);
}

pub returns : goal.returns
returns g c = rw (← c.self.view_is) c.write_record.ensures
