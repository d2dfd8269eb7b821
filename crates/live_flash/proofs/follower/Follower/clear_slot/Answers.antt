use Rattle.live_flash.proofs.Calls.{keep_told, mark_told, blank_read}
use Rattle.live_flash.proofs.Common.{Ok, slot_at}
use Rattle.live_flash.proofs.Runs.{one_erased}
use Rattle.live_flash.proofs.follower.Follower.clear_slot.Goals as goal

pub returns-in-Complete-clause-turns : goal.returns-in-Complete-clause-turns
returns-in-Complete-clause-turns g c = λ old how.
    let m = c.args.memory.now in
    keep_told m.shape m.image c.shape-shape.ensures.whole c.args.at c.requires.exists (Ok tt)
    (g.S.Store.told c.args.self.now.store) (g.S.Store.told c.args.self.now.store) old c.in-Complete.ensures how

pub returns-in-Damaged-clause-turns : goal.returns-in-Damaged-clause-turns
returns-in-Damaged-clause-turns g c = λ old how.
    let m = c.args.memory.now in
    mark_told m.shape m.image c.shape-shape.ensures.whole c.args.at c.requires.exists c.mark_slot.result
    (g.S.Store.told c.args.self.now.store) (g.S.Store.told c.mark_slot.new.self.store)
    c.shape-shape.result old c.shape-shape.ensures.shape c.in-Damaged.ensures c.mark_slot.ensures.writes

pub returns-in-Blank-clause-turns : goal.returns-in-Blank-clause-turns
returns-in-Blank-clause-turns g c = λ old how.
    let m = c.args.memory.now in
    one_erased m.shape c.shape-shape.result c.args.at.0 (slot_at m.image c.args.at.0) old c.erase_slots.result
    (g.S.Store.told c.args.self.now.store) (g.S.Store.told c.erase_slots.new.self.store)
    c.shape-shape.ensures.whole.bounds.page_most c.shape-shape.ensures.shape
    (blank_read (slot_at m.image c.args.at.0) c.in-Blank.ensures) c.erase_slots.ensures.writes
