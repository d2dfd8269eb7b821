-- The homes of the old and of the new record, before and after, are refreshed.
use Rattle.slot_tables.proofs.Common.{◌<◌, length}
use Rattle.slot_tables.proofs.OfSlots.SlotSetting.{slot_set, set_sized, old_lies}
use Rattle.slot_tables.proofs.tables.Tables.refill.Goals as goal

pub refresh_moved-requires-clause-before : goal.refresh_moved-requires-clause-before
refresh_moved-requires-clause-before c =
    let t = c.self.inside in
    let h = c.self.invariant in
    let low : c.args.at.0 < length t.base.slots = rw h.sized.kept.slots (rw (← c.self.view_is) at c.requires.slot) in
    let numbered = rw (← c.self.view_is) at c.requires.number in
    rw (c.home_of-old.ensures, c.set.ensures) (old_lies t h c.args.at.0 c.args.to low numbered c.number_in-left.result)

pub refresh_moved-requires-2-clause-sized : goal.refresh_moved-requires-2-clause-sized
refresh_moved-requires-2-clause-sized c =
    let t = c.self.inside in
    let h = c.self.invariant in
    let low : c.args.at.0 < length t.base.slots = rw h.sized.kept.slots (rw (← c.self.view_is) at c.requires.slot) in
    let numbered = rw (← c.self.view_is) at c.requires.number in
    rw c.set.ensures (set_sized t h c.args.at.0 c.args.to low numbered)

pub refresh_moved-requires-2-clause-before : goal.refresh_moved-requires-2-clause-before
refresh_moved-requires-2-clause-before c =
    let t = c.self.inside in
    let h = c.self.invariant in
    let low : c.args.at.0 < length t.base.slots = rw h.sized.kept.slots (rw (← c.self.view_is) at c.requires.slot) in
    let numbered = rw (← c.self.view_is) at c.requires.number in
    rw (c.home_of-other.ensures, c.set.ensures) (old_lies t h c.args.at.0 c.args.to low numbered
    c.number_in-joined.result)

pub refresh_moved-requires-clause-sized : goal.refresh_moved-requires-clause-sized
refresh_moved-requires-clause-sized c =
    let t = c.self.inside in
    let h = c.self.invariant in
    let low : c.args.at.0 < length t.base.slots = rw h.sized.kept.slots (rw (← c.self.view_is) at c.requires.slot) in
    let numbered = rw (← c.self.view_is) at c.requires.number in
    rw c.set.ensures (set_sized t h c.args.at.0 c.args.to low numbered)

pub invariant_of-self : goal.invariant_of-self
invariant_of-self c =
    let t = c.self.inside in
    let h = c.self.invariant in
    let low : c.args.at.0 < length t.base.slots = rw h.sized.kept.slots (rw (← c.self.view_is) at c.requires.slot) in
    let numbered = rw (← c.self.view_is) at c.requires.number in
    rw (
      c.set_blank.ensures,
      c.refresh_moved-2.ensures,
      c.refresh_moved.ensures,
      c.home_of-other.ensures,
      c.home_of-old.ensures,
      c.set.ensures,
      c.number_in-joined.ensures,
      c.number_in-left.ensures,
      c.get.ensures,
    )
    (slot_set t h c.args.at.0 c.args.to low numbered c.is_blank.result c.is_blank.ensures)
