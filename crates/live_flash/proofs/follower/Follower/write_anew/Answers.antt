use Rattle.live_flash.proofs.Common.{◌*◌, slot_at, subst, BothTell, WritesFile, erased, slot_bytes, slot_offset, blank, Shape}
use Rattle.live_flash.proofs.Runs.{erases_told}
use Rattle.live_flash.proofs.OfTold.{opened_run, kept_run, erased_told, erased_loses_told}
use Rattle.live_flash.proofs.follower.Follower.write_anew.Goals as goal

pub returns-then-are_blank-clause-tears : goal.returns-then-are_blank-clause-tears
returns-then-are_blank-clause-tears g c = λ old cleared f.
    let m = c.args.memory.now in
    let writes = subst (λ (s : Shape). BothTell (WritesFile (slot_offset s c.args.first)
    (erased (c.args.count * slot_bytes s.page_bytes)) c.erase_slots.result)
    (g.S.Store.told c.args.self.now.store) (g.S.Store.told c.erase_slots.new.self.store))
    c.shape-shape.ensures.shape c.erase_slots.ensures.writes in
    erased_told m.shape old m.image c.args.first c.args.count (c.are_blank.ensures c.if-are_blank.true)
    (g.S.Store.told c.args.self.now.store) (g.S.Store.told c.erase_slots.new.self.store) c.erase_slots.result
    (erases_told m.shape c.args.first c.args.count c.erase_slots.result (g.S.Store.told c.args.self.now.store)
    (g.S.Store.told c.erase_slots.new.self.store) c.shape-shape.ensures.whole.bounds.page_most (λ k. slot_at old k)
    writes) f

pub returns-then-are_blank-clause-loses : goal.returns-then-are_blank-clause-loses
returns-then-are_blank-clause-loses g c = λ old is cleared f.
    let m = c.args.memory.now in
    let writes = subst (λ (s : Shape). BothTell (WritesFile (slot_offset s c.args.first)
    (erased (c.args.count * slot_bytes s.page_bytes)) c.erase_slots.result)
    (g.S.Store.told c.args.self.now.store) (g.S.Store.told c.erase_slots.new.self.store))
    c.shape-shape.ensures.shape c.erase_slots.ensures.writes in
    erased_loses_told m.shape old m.image c.args.first c.args.count (c.are_blank.ensures c.if-are_blank.true)
    (g.S.Store.told c.args.self.now.store) (g.S.Store.told c.erase_slots.new.self.store) c.erase_slots.result
    (erases_told m.shape c.args.first c.args.count c.erase_slots.result (g.S.Store.told c.args.self.now.store)
    (g.S.Store.told c.erase_slots.new.self.store) c.shape-shape.ensures.whole.bounds.page_most (λ k. slot_at old k)
    writes) is c.requires.opened f

pub returns-then-are_blank-clause-opened : goal.returns-then-are_blank-clause-opened
returns-then-are_blank-clause-opened g c =
    let m = c.args.memory.now in
    let writes = subst (λ (s : Shape). BothTell (WritesFile (slot_offset s c.args.first)
    (erased (c.args.count * slot_bytes s.page_bytes)) c.erase_slots.result)
    (g.S.Store.told c.args.self.now.store) (g.S.Store.told c.erase_slots.new.self.store))
    c.shape-shape.ensures.shape c.erase_slots.ensures.writes in
    opened_run m.shape c.args.first c.args.count (λ k. blank) (λ k. blank) c.erase_slots.result
    (g.S.Store.told c.args.self.now.store) (g.S.Store.told c.erase_slots.new.self.store)
    (erases_told m.shape c.args.first c.args.count c.erase_slots.result (g.S.Store.told c.args.self.now.store)
    (g.S.Store.told c.erase_slots.new.self.store) c.shape-shape.ensures.whole.bounds.page_most (λ k. blank)
    writes) c.requires.opened

pub returns-then-are_blank-clause-kept : goal.returns-then-are_blank-clause-kept
returns-then-are_blank-clause-kept g c = λ head f.
    let m = c.args.memory.now in
    let writes = subst (λ (s : Shape). BothTell (WritesFile (slot_offset s c.args.first)
    (erased (c.args.count * slot_bytes s.page_bytes)) c.erase_slots.result)
    (g.S.Store.told c.args.self.now.store) (g.S.Store.told c.erase_slots.new.self.store))
    c.shape-shape.ensures.shape c.erase_slots.ensures.writes in
    kept_run m.shape c.args.first c.args.count (λ k. blank) (λ k. blank) c.erase_slots.result
    (g.S.Store.told c.args.self.now.store) (g.S.Store.told c.erase_slots.new.self.store)
    (erases_told m.shape c.args.first c.args.count c.erase_slots.result (g.S.Store.told c.args.self.now.store)
    (g.S.Store.told c.erase_slots.new.self.store) c.shape-shape.ensures.whole.bounds.page_most (λ k. blank)
    writes) head f
