use Rattle.tx_engine.proofs.Common.{sym, ap, refl, ◌∙◌, position-Some, by_err, Plain, is_doubted, SettlesDevice, OpenTransactionsState, TransactionState, no_transaction, device_in}
use Rattle.tx_engine.proofs.OfDevice.Kept.{from_stands}
use Rattle.tx_engine.proofs.OfDevice.OpenNames.{marked_names, noted_names}
use Rattle.tx_engine.proofs.OfDevice.OpenOnes.{can_take}
use Rattle.tx_engine.proofs.OfSettle.SettleExits.{settle_failed, settle_done, own_settled, own_within, own_short, own_none, doubt_gone, none_gone, none_doubted}
use Rattle.tx_engine.proofs.OfSettle.SettleExits.{not_present}
use Rattle.tx_engine.proofs.settling.settle.Goals as goal

pub writer-writer-requires : goal.writer-writer-requires
writer-writer-requires g c = λ k d inside.
    ((from_stands g.F.Flash.state c.args.store.now c.args.transactions.now c.requires.stands).each k d
    inside).named.within

pub settle-requires-clause-stored : goal.settle-requires-clause-stored
settle-requires-clause-stored g c = record { matches = c.requires.stands.matches; rule = c.requires.rule }

pub settle-requires-clause-own : goal.settle-requires-clause-own
settle-requires-clause-own g c = can_take g.F.Flash.state
    (device_in g.F.Flash.state c.args.store.now c.args.transactions.now) c.requires.stands

pub returns-in_err-found : goal.returns-in_err-found
returns-in_err-found g c =
    let S = c.args.store.now in let O = c.args.transactions.now in
    by_err c.from_residual.result (SettlesDevice g.F.Flash.state S c.settle.new.self O O)
    c.from_residual.ensures.0 (λ y.
    settle_failed g.F.Flash.state S c.settle.new.self O O _ y c.requires.stands c.in_err-found.ensures.settles
    c.in_err-found.ensures.failed
    (λ none. (let both = (c.in_err-found.ensures.idle none).0 in cc)) refl)

pub note_next-requires-clause-at : goal.note_next-requires-clause-at
note_next-requires-clause-at g c =
    own_within g.F.Flash.state c.args.store.now c.args.transactions.now c.requires.stands g.R.CommitRule.protocol
    c.requires.rule c.image_is_sound.ensures
    c.settle.new.self.noted c.settle.new.self.table c.in_ok-found.found c.in_ok-found.ensures.settles.found
    c.noting_keeps.ensures
    c.writer-writer.result c.writer-writer.ensures c.in-Present.is c.in-Some.at c.in-Some.is

pub note_next-requires-clause-short : goal.note_next-requires-clause-short
note_next-requires-clause-short g c =
    own_short g.F.Flash.state c.args.store.now c.args.transactions.now c.requires.stands g.R.CommitRule.protocol
    c.requires.rule c.image_is_sound.ensures
    c.settle.new.self.noted c.settle.new.self.table c.in_ok-found.found c.in_ok-found.ensures.settles.found
    c.noting_keeps.ensures
    c.writer-writer.result c.writer-writer.ensures c.in-Present.is c.in-Some.at c.in-Some.is

pub returns-in-Some : goal.returns-in-Some
returns-in-Some g c =
    let S = c.args.store.now in let O = c.args.transactions.now in let O' = c.note_next.new.transactions in
    let found = c.in_ok-found.ensures.settles in
    let at = own_within g.F.Flash.state S O c.requires.stands g.R.CommitRule.protocol c.requires.rule
    c.image_is_sound.ensures
    c.settle.new.self.noted c.settle.new.self.table c.in_ok-found.found found.found c.noting_keeps.ensures
    c.writer-writer.result c.writer-writer.ensures c.in-Present.is c.in-Some.at c.in-Some.is in
    settle_done g.F.Flash.state S c.settle.new.self O O'
    (own_settled g.F.Flash.state S O c.requires.stands g.R.CommitRule.protocol c.requires.rule c.image_is_sound.ensures
    c.settle.new.self.noted c.settle.new.self.table c.in_ok-found.found found.found c.noting_keeps.ensures
    c.writer-writer.result c.writer-writer.ensures c.in-Present.is c.in-Some.at c.in-Some.is O' c.note_next.ensures)
    found.sure found.moment found.carries c.in_ok-found.found found
    (record {
      page_bytes = ap (λ (o : OpenTransactionsState). o.page_bytes) c.note_next.ensures;
      logical = ap (λ (o : OpenTransactionsState). o.logical) c.note_next.ensures;
      pending = ap (λ (o : OpenTransactionsState). o.pending) c.note_next.ensures;
    })
    (noted_names O O' c.in-Some.at at c.note_next.ensures)
    (λ none. absurd (let both = (c.in_ok-found.ensures.idle none).0 in let is = c.in-Present.is in cc))

pub returns-in_default : goal.returns-in_default
returns-in_default g c = absurd
    (own_none g.F.Flash.state c.args.store.now c.args.transactions.now c.requires.stands g.R.CommitRule.protocol
    c.requires.rule c.image_is_sound.ensures
    c.settle.new.self.noted c.settle.new.self.table c.in_ok-found.found c.in_ok-found.ensures.settles.found
    c.noting_keeps.ensures
    c.writer-writer.result c.writer-writer.ensures c.in-Present.is c.in_default.is)

pub position_in_doubt-doubted-requires : goal.position_in_doubt-doubted-requires
position_in_doubt-doubted-requires g c = c.requires.stands

pub returns-in-Some-doubted : goal.returns-in-Some-doubted
returns-in-Some-doubted g c =
    let S = c.args.store.now in let O = c.args.transactions.now in let O' = c.set_mark.new.self in
    let found = c.in_ok-found.ensures.settles in
    let there = sym c.position_in_doubt-doubted.ensures ∙ c.in-Some-doubted.is in
    settle_done g.F.Flash.state S c.settle.new.self O O'
    (doubt_gone g.F.Flash.state S O c.requires.stands g.R.CommitRule.protocol c.requires.rule c.image_is_sound.ensures
    c.settle.new.self.noted c.settle.new.self.table c.in_ok-found.found found.found c.array_stays.ensures
    (not_present c.in_ok-found.found c.in-Missing.is)
    c.in-Some-doubted.at there O' c.set_mark.ensures)
    found.sure found.moment found.carries c.in_ok-found.found found
    (record {
      page_bytes = ap (λ (o : OpenTransactionsState). o.page_bytes) c.set_mark.ensures;
      logical = ap (λ (o : OpenTransactionsState). o.logical) c.set_mark.ensures;
      pending = ap (λ (o : OpenTransactionsState). o.pending) c.set_mark.ensures;
    })
    (marked_names O O' c.in-Some-doubted.at Plain (position-Some (λ (o : TransactionState). is_doubted o.entry.mark)
    O.all c.in-Some-doubted.at no_transaction there).0
    c.set_mark.ensures)
    (λ none. absurd (none_doubted g.F.Flash.state S O c.requires.stands none c.in-Some-doubted.at there))

pub returns-in_default-doubted : goal.returns-in_default-doubted
returns-in_default-doubted g c =
    let S = c.args.store.now in let O = c.args.transactions.now in let found = c.in_ok-found.ensures.settles in
    settle_done g.F.Flash.state S c.settle.new.self O O
    (none_gone g.F.Flash.state S O c.requires.stands g.R.CommitRule.protocol c.requires.rule c.image_is_sound.ensures
    c.settle.new.self.noted c.settle.new.self.table c.in_ok-found.found found.found c.array_stays.ensures
    (not_present c.in_ok-found.found c.in-Missing.is)
    (sym c.position_in_doubt-doubted.ensures ∙ c.in_default-doubted.is))
    found.sure found.moment found.carries c.in_ok-found.found found
    (record { page_bytes = refl; logical = refl; pending = refl }) refl
    (λ none. ((c.settle.ensures.idle none).1, refl))
