-- The slot counts as before.
use Rattle.slot_tables.proofs.Common.{sym, ◌∙◌, eqb-true, false≢true, is_marked}
use Rattle.slot_tables.proofs.OfLiveSlots.Keeping.{keep_open, keep_last, blank_lies, filled_parts, not_true, apart}
use Rattle.slot_tables.proofs.live_slots.SlotMarks.keeps_garbage.Goals as goal

pub is_filled-requires-clause-blanks : goal.is_filled-requires-clause-blanks
is_filled-requires-clause-blanks c =
    blank_lies c.args.self.now c.requires.sized.0 c.args.at c.args.needed c.args.blank c.requires.sized.1
    c.requires.slot

pub returns-then-not-is_filled : goal.returns-then-not-is_filled
returns-then-not-is_filled c = λ no. absurd (false≢true no)

pub returns-then-is_last : goal.returns-then-is_last
returns-then-is_last c = λ single.
    let m = c.args.self.now in
    let parts = filled_parts c.args.needed c.args.blank (is_marked m.needed.marks c.args.at)
    (is_marked m.blanks.marks c.args.at) (sym c.is_filled.ensures ∙ c.if-not-is_filled.false) in
    rw c.requires.block (keep_last m c.requires.sized.0 c.args.at c.args.needed c.args.blank c.requires.sized.1
    c.requires.slot (parts.2 ∙ sym parts.1) (parts.3 ∙ sym parts.0)
    (rw c.requires.block at (eqb-true c.args.at _ (sym c.is_last.ensures ∙ c.if-is_last.true)))
    parts.0
    (rw c.requires.block at (c.has_one_blank.ensures.unclosed single))
    (rw c.requires.block at (c.has_one_blank.ensures.blank single)))

pub returns : goal.returns
returns c = λ not_shut.
    let m = c.args.self.now in
    let parts = filled_parts c.args.needed c.args.blank (is_marked m.needed.marks c.args.at)
    (is_marked m.blanks.marks c.args.at) (sym c.is_filled.ensures ∙ c.if-not-is_filled.false) in
    rw c.requires.block (keep_open m c.requires.sized.0 c.args.at c.args.needed c.args.blank c.requires.sized.1
    c.requires.slot (parts.2 ∙ sym parts.1) (parts.3 ∙ sym parts.0)
    (rw c.requires.block at (apart c.args.at _ (sym c.is_last.ensures ∙ c.if-is_last.false)))
    (rw c.requires.block at (sym c.is_shut.ensures ∙ not_true _ not_shut)))
