-- The noted records, one slot more at a time.
use Rattle.tx_engine.proofs.Common.{◌≡◌, ℕ, ◌+◌, ◌<◌, List, [], ◌∷◌, ◌++◌, length, Option, Some, None, refl, sym, ap, ◌∙◌, cons_option, append-nil, none-some, Rec, Found, Blank, note_at, found_in}
use Rattle.std.proofs.Common.{take}
use Rattle.judged_records.specs.declared.note.Note.{Note}
use Rattle.judged_records.specs.declared.note.Note.TheVariants.{Damaged, Holds}
use Rattle.judged_records.specs.Notes.{rec_of, found_at}
use Rattle.judged_records.proofs.OfNotes.FoundIn.{found, found_in_more}

found_some : (at : ℕ) (note : Note) (rec : Rec) → rec_of note ≡ Some rec → found_at at note ≡ Some (found at rec)
found_some at Blank rec e = absurd (none-some rec e)
found_some at Damaged rec e = absurd (none-some rec e)
found_some at (Holds r) rec e = ap (λ (o : Option Rec). given o) e
  where
    given : Option Rec → Option Found
    given None = None
    given (Some r) = Some (found at r)

found_none : (at : ℕ) (note : Note) → rec_of note ≡ None → found_at at note ≡ None
found_none at Blank e = refl
found_none at Damaged e = refl
found_none at (Holds r) e = absurd (none-some r (sym e))

module _ (notes : List Note) (at : ℕ) (within : at < length notes) (items : List Found)
    (so_far : items ≡ found_in (take at notes)) where
  -- a slot with a record
  pub with_record : (rec : Rec) → rec_of (note_at notes at) ≡ Some rec →
      items ++ found at rec ∷ [] ≡ found_in (take (at + 1) notes)
  with_record rec holds =
      ap (λ l. l ++ found at rec ∷ []) so_far
      ∙ ap (λ o. found_in (take at notes) ++ cons_option o []) (sym (found_some at (note_at notes at) rec holds))
      ∙ sym (found_in_more notes at within)

  -- and one without
  pub without_record : rec_of (note_at notes at) ≡ None → items ≡ found_in (take (at + 1) notes)
  without_record none =
      so_far ∙ sym (append-nil (found_in (take at notes)))
      ∙ ap (λ o. found_in (take at notes) ++ cons_option o []) (sym (found_none at (note_at notes at) none))
      ∙ sym (found_in_more notes at within)
