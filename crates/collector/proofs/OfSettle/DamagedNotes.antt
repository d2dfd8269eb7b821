-- A slot that was blank and is damaged: nothing of what is preserved changes.
use Rattle.collector.proofs.Common.{◌≡◌, ℕ, ◌<◌, true, length, refl, sym, ap, subst, Blank, note_at, IndexState, current_of, held_of, current_name_of, damaged_at, is_present, InProgress, cur, is_held, Preserves}
use Rattle.judged_records.proofs.OfNotes.FoundIn.{found_in_damaged}

-- a damaged slot that was blank changes nothing of what is preserved
pub damaged_preserves : (n : IndexState) (at : ℕ) → at < length n.notes → note_at n.notes at ≡ Blank →
    Preserves n (damaged_at n at)
unfolding current_of held_of
damaged_preserves n at within was =
    let same = found_in_damaged n.notes at within was in
    record {
      config = refl;
      pins = refl;
      mentions = refl;
      current = λ page low. ap (λ l. cur n.config.protocol l n.config.logical page) same;
      fewer = λ name there. subst (λ l. is_present l name ≡ true) same there;
      pinned = λ name pin there. subst (λ l. is_present l name ≡ true) (sym same) there;
      present = λ page low there. subst (λ l. is_present l (current_name_of n page) ≡ true) (sym same) there;
      held = λ r h. subst (λ l. is_held n.config.protocol l n.config.logical r ≡ true) same h;
      in_progress = λ names h. subst (λ l. InProgress n.config.protocol l n.config.logical names) (sym same) h;
    }
