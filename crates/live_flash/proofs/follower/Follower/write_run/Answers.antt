use Rattle.live_flash.proofs.Common.{◌<◌, ◌+◌, ◌≤◌, length, sym, subst, ◌∙◌, arith, slots_of, Slot, slot_at, blank, BothTell, TurnsSlots}
use Rattle.std.proofs.lemmas.List.{get_or_default}
use Rattle.live_flash.specs.Waiting.{no_slot}
use Rattle.live_flash.proofs.Once.{exist}
use Rattle.live_flash.proofs.OfTold.{opened_run, kept_run}
use Rattle.live_flash.proofs.Written.{written_follows, written_loses}
use Rattle.live_flash.proofs.follower.Follower.write_run.Goals as goal

pub program_slots-requires-clause-exist : goal.program_slots-requires-clause-exist
program_slots-requires-clause-exist g c =
    let m = c.args.memory.now in
    let slots = c.args.self.now.waiting.items in
    let low : c.args.from < length slots = omega (arith, c.requires.within, c.requires.some) in
    let here = c.index-first.ensures ∙ get_or_default slots c.args.from c.index-first.result.now no_slot low in
    subst (λ (at : Slot). at.0 + c.args.count ≤ slots_of m.shape) (sym here)
    (exist slots c.args.from c.args.count c.requires.within c.requires.run m.shape m.image
    c.shape.ensures.whole c.requires.programmed c.requires.some)

pub returns-clause-opened : goal.returns-clause-opened
returns-clause-opened g c =
    opened_run c.args.memory.now.shape _ c.args.count (λ k. blank) (λ k. slot_at c.args.memory.now.image k)
    c.program_slots.result (g.S.Store.told c.args.self.now.store) (g.S.Store.told c.program_slots.new.self.store)
    c.program_slots.ensures.turns c.requires.opened

pub returns-clause-kept : goal.returns-clause-kept
returns-clause-kept g c = λ head f.
    kept_run c.args.memory.now.shape _ c.args.count (λ k. blank) (λ k. slot_at c.args.memory.now.image k)
    c.program_slots.result (g.S.Store.told c.args.self.now.store) (g.S.Store.told c.program_slots.new.self.store)
    c.program_slots.ensures.turns head f

pub returns-clause-follows : goal.returns-clause-follows
returns-clause-follows g c =
    let m = c.args.memory.now in
    let slots = c.args.self.now.waiting.items in
    let low : c.args.from < length slots = omega (arith, c.requires.within, c.requires.some) in
    let here = c.index-first.ensures ∙ get_or_default slots c.args.from c.index-first.result.now no_slot low in
    let turns = subst (λ (at : Slot). BothTell (TurnsSlots m.shape at.0 c.args.count (λ k. blank)
    (λ k. slot_at m.image k) c.program_slots.result) (g.S.Store.told c.args.self.now.store)
    (g.S.Store.told c.program_slots.new.self.store)) here c.program_slots.ensures.turns in
    written_follows m.shape m.image c.shape.ensures.whole slots c.args.from c.args.count
    c.requires.within c.requires.run c.program_slots.result (g.S.Store.told c.args.self.now.store)
    (g.S.Store.told c.program_slots.new.self.store) turns c.requires.follows c.requires.once

pub returns-clause-loses : goal.returns-clause-loses
returns-clause-loses g c =
    let m = c.args.memory.now in
    let slots = c.args.self.now.waiting.items in
    let low : c.args.from < length slots = omega (arith, c.requires.within, c.requires.some) in
    let here = c.index-first.ensures ∙ get_or_default slots c.args.from c.index-first.result.now no_slot low in
    let turns = subst (λ (at : Slot). BothTell (TurnsSlots m.shape at.0 c.args.count (λ k. blank)
    (λ k. slot_at m.image k) c.program_slots.result) (g.S.Store.told c.args.self.now.store)
    (g.S.Store.told c.program_slots.new.self.store)) here c.program_slots.ensures.turns in
    written_loses m.shape m.image c.shape.ensures.whole slots c.args.from c.args.count
    c.requires.within c.requires.run c.program_slots.result (g.S.Store.told c.args.self.now.store)
    (g.S.Store.told c.program_slots.new.self.store) turns c.requires.follows c.requires.opened
