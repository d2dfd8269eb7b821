-- No program goes to the block before or after.
use Rattle.slot_tables.proofs.Common.{refl, sym, ◌∙◌, false≢true, is_marked}
use Rattle.slot_tables.proofs.OfLiveSlots.Keeping.{keep_shut, apart}
use Rattle.slot_tables.proofs.live_slots.SlotMarks.stays_shut.Goals as goal

pub returns-then-is_last : goal.returns-then-is_last
returns-then-is_last c = λ no blank. absurd (false≢true no)

pub returns : goal.returns
returns c = λ shut blank.
    rw c.requires.block (keep_shut c.args.self.now c.requires.sized.0 c.args.at
    (is_marked c.args.self.now.needed.marks c.args.at) blank c.requires.sized.1 c.requires.slot
    (rw c.requires.block at (apart c.args.at _ (sym c.is_last.ensures ∙ c.if-is_last.false)))
    (rw c.requires.block at (sym c.is_shut.ensures ∙ shut)) refl)
