use Rattle.std.proofs.Common.{◌≡◌, ℕ, ◌+◌, ◌<◌, ◌≤◌, ◌++◌, [], length, ap₂, Option, Some, None, is_some, false, true, refl, sym, ap, ◌∙◌, arith}
use Rattle.std.specs.List.{cons_option}
use Rattle.std.proofs.lemmas.Bool.{false≢true}
use Rattle.std.proofs.lemmas.List.{take_all}
use Rattle.tx_types.specs.declared.record.Rec.{Rec}
use Rattle.judged_records.specs.Notes.{note_at, found_in}
use Rattle.judged_records.proofs.OfNotes.FoundIn.{found_in_nil, found_in_more, no_record}
use Rattle.device_tests.proofs.indexing.tables.has_no_record.Goals as goal

no_some : (o : Option Rec) → is_some o ≡ false → o ≡ None
no_some None e = refl
no_some (Some r) e = absurd (false≢true (sym e))

pub loop-at-init : goal.loop-at-init
loop-at-init g c = found_in_nil

pub loop-at-preserved : goal.loop-at-preserved
loop-at-preserved g c =
    let notes = c.args.index.now.notes in
    let at = c.loop-at.at in
    let long = c.slot_count-at-end.ensures.notes in
    let test = c.loop-at-test.true in
    let within : at < length notes = omega arith in
    let none = no_some c.rec.result (sym c.is_some.ensures ∙ c.if-is_some.false) in
    found_in_more notes at within
    ∙ ap₂ (λ xs o. xs ++ cons_option o []) c.loop-at.invariant
    (no_record (note_at notes at) (sym c.rec.ensures ∙ none) at)

pub returns : goal.returns
returns g c none =
    let notes = c.args.index.now.notes in
    let at = c.loop-at.at in
    let long = c.slot_count-at-end.ensures.notes in
    let test = c.loop-at-test.false in
    let past : length notes ≤ at = omega arith in
    ap found_in (sym (take_all at notes past)) ∙ c.loop-at.invariant
