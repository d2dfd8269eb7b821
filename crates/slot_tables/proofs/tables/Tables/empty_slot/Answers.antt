-- Where the slot was needed, the home of its record is so now, and else all is needed as before.
use Rattle.slot_tables.proofs.Common.{◌≡◌, ◌<◌, true, false, length, ◌∙◌, sym, slots_of, is_needed, tables_state}
use Rattle.slot_tables.proofs.OfSlots.SlotSetting.{set_sized, none_below, slot_emptied, emptied_off, needs_moved, moved_lies}
use Rattle.slot_tables.proofs.tables.Tables.empty_slot.Goals as goal

pub invariant_of-self : goal.invariant_of-self
invariant_of-self c =
    let t = c.self.inside in
    let h = c.self.invariant in
    let at = c.args.at.0 in
    let low : at < length t.base.slots = rw h.sized.kept.slots (rw (← c.self.view_is) at c.requires.slot) in
    let numbered = none_below (slots_of t.base.shape) c.args.to c.requires.none in
    let off : is_needed (tables_state t.base) at ≡ false =
    sym (h.live.needed at) ∙ sym c.is_needed.ensures ∙ c.if-not-is_needed.true in
    rw (c.set_blank.ensures, c.set.ensures)
    (slot_emptied t h at c.args.to low numbered c.requires.none c.is_blank.result c.is_blank.ensures
    t.live.needed h.live.slots
    (emptied_off t h at c.args.to low numbered c.requires.none off))

pub need_home-requires-clause-sized : goal.need_home-requires-clause-sized
need_home-requires-clause-sized c =
    let t = c.self.inside in
    let h = c.self.invariant in
    let low : c.args.at.0 < length t.base.slots = rw h.sized.kept.slots (rw (← c.self.view_is) at c.requires.slot) in
    rw c.set.ensures (set_sized t h c.args.at.0 c.args.to low
    (none_below (slots_of t.base.shape) c.args.to c.requires.none))

pub invariant_of-self-2 : goal.invariant_of-self-2
invariant_of-self-2 c =
    let t = c.self.inside in
    let h = c.self.invariant in
    let at = c.args.at.0 in
    let low : at < length t.base.slots = rw h.sized.kept.slots (rw (← c.self.view_is) at c.requires.slot) in
    let numbered = none_below (slots_of t.base.shape) c.args.to c.requires.none in
    let on : is_needed (tables_state t.base) at ≡ true =
    sym (h.live.needed at) ∙ sym c.is_needed.ensures ∙ c.if-not-is_needed.false in
    rw (c.need_home.ensures, c.mark.ensures, c.set.ensures, c.number_in-left.ensures, c.get.ensures)
    (slot_emptied t h at c.args.to low numbered c.requires.none c.is_blank-2.result c.is_blank-2.ensures _
    (moved_lies t h at c.args.to low numbered c.requires.none)
    (needs_moved t h at c.args.to low numbered c.requires.none on))
