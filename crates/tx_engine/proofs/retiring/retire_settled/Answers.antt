use Rattle.tx_engine.proofs.OfWrite.Leaving.{tables_left}
use Rattle.tx_engine.proofs.OfDevice.KeptDevices.{ready_sure}
use Rattle.tx_engine.proofs.retiring.retire_settled.Goals as goal

pub retire-requires : goal.retire-requires
retire-requires g c = record {
  sure = ready_sure g.F.Flash.state g.R.CommitRule.protocol c.args.store.now c.args.transactions.now c.requires.ready;
  exists = c.requires.exists;
  left = c.requires.left;
}

pub returns : goal.returns
returns g c =
    let h = c.retire.ensures in
    record {
      left = tables_left g.F.Flash.state c.args.store.now c.retire.new.self c.args.transactions.now
          _ g.R.CommitRule.protocol c.array_stays.ensures c.image_is_sound.ensures
          c.requires.ready.rule c.requires.ready.stands h.keeps.tables c.requires.ready.sure;
      retires = h;
    }
