mod FoundSlots
use Rattle.collector.proofs.Common.{Ok, Err, refl, sym, subst, BlocksState, CollectsVictim, store_parts}
use Rattle.collector.specs.Calls.{AllocatesSlot}
use Rattle.collector.proofs.making_room.allocate_slot.Answers.FoundSlots.{found_at_once, found_none, found_then}
use Rattle.collector.proofs.OfNotes.KeepsLemmas.{by_err}
use Rattle.collector.proofs.OfRoom.RoomCalls.{full_collects}
use Rattle.collector.proofs.making_room.allocate_slot.Goals as goal

pub returns-in-Some-clause-finds : goal.returns-in-Some-clause-finds
returns-in-Some-clause-finds g c =
    found_at_once g.R.CommitRule.protocol _ c.requires.sure _ c.in-Some.ensures.cursor c.in-Some.ensures.table
    (λ full. (let e = c.in-Some.ensures.full.1 full in cc)) c.in-Some.at c.in-Some.ensures.free

pub returns-in_err-_collected-clause-finds : goal.returns-in_err-_collected-clause-finds
returns-in_err-_collected-clause-finds g c =
    let p = g.R.CommitRule.protocol in
    let a = store_parts (g.F.Flash.state c.args.flash.now) c.args.index.now c.args.blocks.now c.args.unsure.now in
    let b = store_parts (g.F.Flash.state c.collect_victim.new.flash) c.collect_victim.new.index
    c.collect_victim.new.blocks c.collect_victim.new.unsure in
    let made : CollectsVictim p a b (Err c.in_err-_collected.field-0.0) =
    subst (λ (t : BlocksState). CollectsVictim p (store_parts (g.F.Flash.state c.args.flash.now) c.args.index.now t
    c.args.unsure.now) b
    (Err c.in_err-_collected.field-0.0)) c.in_default.ensures.unchanged c.in_err-_collected.ensures in
    by_err c.from_residual.result (AllocatesSlot p a b) c.from_residual.ensures.0
    (λ y. found_none p a c.requires.sure b _ y made)

pub returns-in_err-_collected-clause-direct : goal.returns-in_err-_collected-clause-direct
returns-in_err-_collected-clause-direct g c = λ room. absurd (room (c.in_default.ensures.full.0 refl))

pub unreachable-requires : goal.unreachable-requires
unreachable-requires g c =
    let p = g.R.CommitRule.protocol in
    let a = store_parts (g.F.Flash.state c.args.flash.now) c.args.index.now c.args.blocks.now c.args.unsure.now in
    let b = store_parts (g.F.Flash.state c.collect_victim.new.flash) c.collect_victim.new.index
    c.collect_victim.new.blocks c.collect_victim.new.unsure in
    let made : CollectsVictim p a b (Ok c.in_ok-_collected._collected) =
    subst (λ (t : BlocksState). CollectsVictim p (store_parts (g.F.Flash.state c.args.flash.now) c.args.index.now t
    c.args.unsure.now) b
    (Ok c.in_ok-_collected._collected)) c.in_default.ensures.unchanged c.in_ok-_collected.ensures in
    made.room (full_collects p a b c.requires.sure (c.in_default.ensures.full.0 refl) c.requires.next _ made)
    (c.in_default-next_slot.ensures.full.0 refl)

pub returns-clause-finds : goal.returns-clause-finds
returns-clause-finds g c =
    let p = g.R.CommitRule.protocol in
    let a = store_parts (g.F.Flash.state c.args.flash.now) c.args.index.now c.args.blocks.now c.args.unsure.now in
    let b = store_parts (g.F.Flash.state c.collect_victim.new.flash) c.collect_victim.new.index
    c.collect_victim.new.blocks c.collect_victim.new.unsure in
    let made : CollectsVictim p a b (Ok c.in_ok-_collected._collected) =
    subst (λ (t : BlocksState). CollectsVictim p (store_parts (g.F.Flash.state c.args.flash.now) c.args.index.now t
    c.args.unsure.now) b
    (Ok c.in_ok-_collected._collected)) c.in_default.ensures.unchanged c.in_ok-_collected.ensures in
    let any = full_collects p a b c.requires.sure (c.in_default.ensures.full.0 refl) c.requires.next _ made in
    found_then p a c.requires.sure b (subst (λ x. CollectsVictim p a b (Ok x)) any made)
    _ c.in-Some-next_slot.ensures.cursor c.in-Some-next_slot.ensures.table
    c.in-Some-next_slot.at (sym c.in-Some-next_slot.ensures.slot) c.in-Some-next_slot.ensures.free

pub returns-clause-direct : goal.returns-clause-direct
returns-clause-direct g c = λ room. absurd (room (c.in_default.ensures.full.0 refl))
