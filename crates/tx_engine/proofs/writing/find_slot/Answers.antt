use Rattle.tx_engine.proofs.Common.{ap, StoreState, name_due}
use Rattle.tx_engine.proofs.OfWrite.Leaving.{left_by}
use Rattle.tx_engine.proofs.OfWrite.PageWrites.{next_of_due}
use Rattle.tx_engine.proofs.OfWrite.RecordWrites.{finds_slot}
use Rattle.tx_engine.proofs.OfDevice.KeptDevices.{ready_sure}
use Rattle.tx_engine.proofs.writing.find_slot.Goals as goal

pub allocate_slot-requires : goal.allocate_slot-requires
allocate_slot-requires g c = record {
  sure = ready_sure g.F.Flash.state g.R.CommitRule.protocol c.args.store.now c.args.transactions.now c.requires.ready;
  next = (let next = next_of_due g.F.Flash.state g.R.CommitRule.protocol c.args.store.now c.args.transactions.now
      c.args.at c.requires.ready c.requires.due in
      (next.0, name_due c.args.transactions.now c.args.at, next.1));
}

pub returns : goal.returns
returns g c =
    let name = name_due c.args.transactions.now c.args.at in
    record {
      left = left_by g.F.Flash.state c.args.store.now c.allocate_slot.new.self c.args.transactions.now
          _ g.R.CommitRule.protocol c.array_stays.ensures c.image_is_sound.ensures
          c.requires.ready.rule c.requires.ready.stands c.allocate_slot.ensures.finds.keeps c.requires.ready.sure;
      finds = c.allocate_slot.ensures.finds;
      clear = c.allocate_slot.ensures.finds.still_clear name.page name.version c.requires.clear;
      direct = λ room. let d = c.allocate_slot.ensures.direct room in (d.1, ap (λ (s : StoreState _). s.flash) d.2);
      slot = finds_slot c.args.store.now c.allocate_slot.new.self c.allocate_slot.result c.allocate_slot.ensures.direct
          c.allocate_slot.ensures.finds.collects;
    }
