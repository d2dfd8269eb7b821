use Rattle.flash_picture.proofs.Common.{◌∙◌, ◌++◌, [], sym, ap, arith, found_in, note_at}
use Rattle.std.proofs.lemmas.List.{take_all}
use Rattle.std.specs.List.{cons_option}
use Rattle.judged_records.specs.Notes.{found_at}
use Rattle.judged_records.proofs.OfNotes.FoundIn.{found_in_nil, found_in_more}
use Rattle.flash_picture.proofs.picture.noted_records.Goals as goal

pub loop-at-init : goal.loop-at-init
loop-at-init c =
    (c.in_ok-list.ensures.items ∙ sym found_in_nil, omega (arith, c.in_ok-list.ensures.len), c.in_ok-list.ensures.exact)

pub loop-at-preserved : goal.loop-at-preserved
loop-at-preserved c = (
  c.keep.ensures.items
      ∙ ap (λ l. l ++ cons_option (found_at c.loop-at.at (note_at c.args.notes.now c.loop-at.at)) [])
      c.loop-at.invariant.0
      ∙ sym (found_in_more c.args.notes.now c.loop-at.at (omega arith)),
  omega (arith, c.keep.ensures.len, c.loop-at.invariant.1),
  c.keep.ensures.room ∙ c.loop-at.invariant.2,
)

pub keep-requires : goal.keep-requires
keep-requires c = omega (arith, c.loop-at.invariant.1, c.loop-at.invariant.2)

pub returns : goal.returns
returns c =
    c.loop-at.invariant.0 ∙ ap found_in (take_all c.loop-at.at c.args.notes.now c.loop-at-test.false)
