use Rattle.std.proofs.Common.{◌≡◌, ℕ, ◌+◌, ◌<◌, ◌++◌, ◌∷◌, [], length, take, ap₂, Some, sym, ap, ◌∙◌, arith}
use Rattle.std.specs.List.{cons_option}
use Rattle.std.proofs.lemmas.List.{append-nil}
use Rattle.std.proofs.lemmas.Option.{none-some, same_Some}
use Rattle.tx_types.specs.declared.record.Rec.{Rec}
use Rattle.record_list.specs.declared.found.Found.{Found}
use Rattle.judged_records.specs.declared.note.Note.{Note}
use Rattle.judged_records.specs.declared.note.Note.TheVariants.{Blank, Damaged, Holds}
use Rattle.judged_records.specs.Notes.{note_at, rec_of, found_at, found_in}
use Rattle.judged_records.proofs.OfNotes.FoundIn.{found, found_in_nil, found_in_more, no_record}
use Rattle.device_tests.proofs.indexing.tables.records.Goals.{in-Some+in_ok-push, in_default}
use Rattle.device_tests.proofs.indexing.tables.records.Goals as goal

some_record : (note : Note) (rec : Rec) → rec_of note ≡ Some rec → (m : ℕ) → found_at m note ≡ Some (found m rec)
some_record Blank rec e m = absurd (none-some rec e)
some_record Damaged rec e m = absurd (none-some rec e)
some_record (Holds r) rec e m = ap (λ s. Some (found m s)) (same_Some r rec e)

found_is : (f : Found) (slot : ℕ) (rec : Rec) → f.slot.0 ≡ slot → f.rec ≡ rec → f ≡ found slot rec
found_is f slot rec s r = ap₂ found s r

pub loop-at-init : goal.loop-at-init
loop-at-init g c = c.new-list.ensures.items ∙ sym found_in_nil

pub loop-at-preserved : goal.loop-at-preserved
loop-at-preserved g c =
    let notes = c.args.index.now.notes in
    let at = c.loop-at.at in
    let long = c.slot_count-at-end.ensures.notes in
    let test = c.loop-at-test.true in
    let within : at < length notes = omega arith in
    let more = found_in_more notes at within in
    let front = found_in (take at notes) in
    elim c.match-rec.branch [
      | in-Some+in_ok-push w ↦ (
          let rec = w.in-Some.rec in
          ap (λ l. l.items) w.list-is ∙ w.in_ok-push.ensures.items
          ∙ ap₂ (λ xs f. xs ++ f ∷ []) c.loop-at.invariant
          (found_is w.found.result at rec w.found.ensures.slot w.found.ensures.rec)
          ∙ ap (λ o. front ++ cons_option o [])
          (sym (some_record (note_at notes at) rec (sym c.rec.ensures ∙ w.in-Some.is) at)) ∙ sym more)
      | in_default w ↦ (
          ap (λ l. l.items) w.list-is ∙ c.loop-at.invariant ∙ sym (append-nil front)
          ∙ ap (λ o. front ++ cons_option o [])
          (sym (no_record (note_at notes at) (sym c.rec.ensures ∙ w.in_default.is) at)) ∙ sym more)
    ]
