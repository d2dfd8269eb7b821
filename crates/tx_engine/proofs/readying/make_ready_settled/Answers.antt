use Rattle.tx_engine.proofs.Common.{sym, ◌∙◌}
use Rattle.tx_engine.proofs.OfStep.AdvanceExits.{due_plain}
use Rattle.tx_engine.proofs.OfStep.NextThere.{not_due_there}
use Rattle.tx_engine.proofs.OfWrite.RoomMaking.{left_still, readied}
use Rattle.tx_engine.proofs.readying.make_ready_settled.Goals as goal

pub returns-then-not-must_program : goal.returns-then-not-must_program
returns-then-not-must_program g c =
    let state = g.F.Flash.state in let S = c.args.store.now in let O = c.args.transactions.now in
    record {
      left = left_still state g.R.CommitRule.protocol S O c.requires.ready;
      sure = c.requires.ready.sure;
      ready = λ absent. absurd (absent (not_due_there state S O c.args.at c.requires.ready.stands c.requires.ready.sure
          c.requires.at (sym c.must_program.ensures ∙ c.if-not-must_program.true)));
      breaks = tt;
    }

pub make_room-requires : goal.make_room-requires
make_room-requires g c =
    let its = due_plain g.F.Flash.state c.args.store.now c.args.transactions.now c.args.at c.requires.ready.stands
    c.requires.ready.sure c.requires.at (sym c.must_program.ensures ∙ c.if-not-must_program.false) in
    record {
      ready = c.requires.ready;
      due = record { exists = c.requires.at; plain = its.0; unnoted = its.1 };
    }

pub returns : goal.returns
returns g c = readied g.F.Flash.state c.args.store.now c.make_room.new.store c.args.transactions.now c.args.at
    c.make_room.result c.make_room.ensures
