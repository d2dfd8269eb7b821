use Rattle.tx_engine.proofs.Common.{length, sym, subst, ◌<◌, by_err, WritesPage, transaction_at}
use Rattle.tx_engine.proofs.OfWrite.PageWrites.{place, page_low, can_write, clearing_breaks, ready_cleared, slot_breaks, ready_found, size_found}
use Rattle.tx_engine.proofs.OfWrite.PageWrites.{program_breaks, page_written}
use Rattle.tx_engine.proofs.writing.write_next.Goals as goal

pub evict_blocks_to_go-requires : goal.evict_blocks_to_go-requires
evict_blocks_to_go-requires g c = record { ready = c.requires.ready; due = c.requires.due }

pub returns-in_err-evict_blocks_to_go : goal.returns-in_err-evict_blocks_to_go
returns-in_err-evict_blocks_to_go g c =
    let S = c.args.store.now in let O = c.args.transactions.now in
    by_err c.from_residual.result (WritesPage g.F.Flash.state S c.evict_blocks_to_go.new.store O O c.args.at)
    c.from_residual.ensures.0 (λ y.
    clearing_breaks g.F.Flash.state g.R.CommitRule.protocol S O c.args.at c.requires.ready c.requires.due
    c.evict_blocks_to_go.new.store _ y c.in_err-evict_blocks_to_go.ensures)

pub find_slot-requires : goal.find_slot-requires
find_slot-requires g c = record {
  ready = ready_cleared g.F.Flash.state g.R.CommitRule.protocol c.args.store.now c.args.transactions.now c.args.at
      c.requires.ready c.requires.due c.evict_blocks_to_go.new.store
      c.in_ok-evict_blocks_to_go.ensures;
  due = c.requires.due;
  clear = c.in_ok-evict_blocks_to_go.ensures.clears.cleared;
}

pub returns-in_err-slot : goal.returns-in_err-slot
returns-in_err-slot g c =
    let S = c.args.store.now in let O = c.args.transactions.now in
    by_err c.from_residual-in_err-slot.result (WritesPage g.F.Flash.state S c.find_slot.new.store O O c.args.at)
    c.from_residual-in_err-slot.ensures.0 (λ y.
    slot_breaks g.F.Flash.state g.R.CommitRule.protocol S O c.args.at c.requires.ready c.requires.due
    c.evict_blocks_to_go.new.store c.in_ok-evict_blocks_to_go.ensures
    c.find_slot.new.store _ y c.in_err-slot.ensures)

pub next_record-rec-requires-clause-next : goal.next_record-rec-requires-clause-next
next_record-rec-requires-clause-next g c = place g.F.Flash.state g.R.CommitRule.protocol c.args.store.now
    c.args.transactions.now c.args.at c.requires.ready
    c.requires.due

pub next_record-rec-requires-clause-page : goal.next_record-rec-requires-clause-page
next_record-rec-requires-clause-page g c =
    let p = g.R.CommitRule.protocol in let S = c.args.store.now in let O = c.args.transactions.now in
    page_low g.F.Flash.state p c.find_slot.new.store O c.args.at
    (ready_found g.F.Flash.state p S O c.args.at c.requires.ready c.requires.due c.evict_blocks_to_go.new.store
    c.in_ok-evict_blocks_to_go.ensures c.find_slot.new.store c.in_ok-slot.slot
    c.in_ok-slot.ensures c.requires.size) c.requires.due

pub program-requires : goal.program-requires
program-requires g c = record {
  next = place g.F.Flash.state g.R.CommitRule.protocol c.args.store.now c.args.transactions.now c.args.at
      c.requires.ready c.requires.due;
  sure = (let ready = ready_found g.F.Flash.state g.R.CommitRule.protocol c.args.store.now c.args.transactions.now
      c.args.at c.requires.ready c.requires.due
      c.evict_blocks_to_go.new.store c.in_ok-evict_blocks_to_go.ensures
      c.find_slot.new.store c.in_ok-slot.slot c.in_ok-slot.ensures c.requires.size in
      record { matches = ready.stands.matches; rule = ready.rule; nothing = ready.sure });
  can = (let state = g.F.Flash.state in let p = g.R.CommitRule.protocol in let S = c.args.store.now in
      let O = c.args.transactions.now in let S2 =
      c.find_slot.new.store in
      can_write state p S2 O c.args.at
      (ready_found state p S O c.args.at c.requires.ready c.requires.due c.evict_blocks_to_go.new.store
      c.in_ok-evict_blocks_to_go.ensures S2 c.in_ok-slot.slot c.in_ok-slot.ensures
      c.requires.size) c.requires.due
      c.next_record-rec.result c.next_record-rec.ensures c.in_ok-slot.ensures.clear c.in_ok-slot.slot
      c.in_ok-slot.ensures.finds.free
      (size_found state p S O c.args.at c.requires.ready c.requires.due c.evict_blocks_to_go.new.store
      c.in_ok-evict_blocks_to_go.ensures S2 c.in_ok-slot.slot c.in_ok-slot.ensures
      c.requires.size));
}

pub mark_doubt_at_last-requires : goal.mark_doubt_at_last-requires
mark_doubt_at_last-requires g c = place g.F.Flash.state g.R.CommitRule.protocol c.args.store.now c.args.transactions.now
    c.args.at c.requires.ready c.requires.due

pub returns-in-Err : goal.returns-in-Err
returns-in-Err g c =
    program_breaks g.F.Flash.state g.R.CommitRule.protocol c.args.store.now c.args.transactions.now c.args.at
    c.requires.ready c.requires.due c.evict_blocks_to_go.new.store
    c.in_ok-evict_blocks_to_go.ensures
    c.find_slot.new.store c.in_ok-slot.slot c.in_ok-slot.ensures c.requires.size c.next_record-rec.result
    c.next_record-rec.ensures c.image_is_sound.ensures
    c.noting_keeps.ensures
    c.program.new.store c.mark_doubt_at_last.new.transactions c.in-Err.broken c.in-Err.ensures c.mark_doubt_at_last.ensures

pub note_next-requires-clause-short : goal.note_next-requires-clause-short
note_next-requires-clause-short g c =
    subst (λ k. k < length (transaction_at c.args.transactions.now c.args.at).entry.writes) (sym c.requires.due.unnoted)
    (place g.F.Flash.state g.R.CommitRule.protocol c.args.store.now c.args.transactions.now c.args.at c.requires.ready
    c.requires.due).within

pub returns : goal.returns
returns g c =
    page_written g.F.Flash.state g.R.CommitRule.protocol c.args.store.now c.args.transactions.now c.args.at
    c.requires.ready c.requires.due c.evict_blocks_to_go.new.store
    c.in_ok-evict_blocks_to_go.ensures
    c.find_slot.new.store c.in_ok-slot.slot c.in_ok-slot.ensures c.requires.size c.next_record-rec.result
    c.next_record-rec.ensures c.image_is_sound.ensures
    c.noting_keeps.ensures
    c.program.new.store c.note_next.new.transactions c.in_default.ensures c.note_next.ensures
