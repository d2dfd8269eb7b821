-- What an image keeps of a device in which each name that is noted has the text that it had.
use Rattle.tx_engine.proofs.Common.{◌≡◌, ◌≢◌, ℕ, ◌<◌, List, length, refl, sym, ap, ◌∙◌, inl, inr, arith, option_and_then, cases_eq, lt-ltb, Link, Contents, text_at, value_of, written_in, found_in, IndexState, IsNoted, current_of, current_name_of, page_known, array_known, IsThere, Entry, Mark, Plain, Doubt, Whole, Naming, IsUnderWay, IsAsMarked, name_at, TransactionState}
use Rattle.record_list.proofs.OfLosses.LossCounted.{counted_present}
use Rattle.record_list.proofs.OfFacts.SoundNames.{sound_map}
use Rattle.tx_engine.proofs.OfDevice.Kept.{IsTransaction}
use Rattle.collector.proofs.OfImages.KnownArrays.{same_known}
use Rattle.collector.proofs.OfImages.KeptArrays.{none_at_zero}

-- each name that is noted has the text that it had
abbrev pub KeepsNoted : IndexState → List Contents → List Contents → Type 0
KeepsNoted n image image' =
    (name : Link) → IsThere n name → text_at (written_in n.config.protocol image') name
    ≡ text_at (written_in n.config.protocol image) name

-- a page without a current version has no record of it, and else the record is noted
pub current_noted : (n : IndexState) → IsNoted n.config.protocol n → (page : ℕ) → current_of n page ≢ 0 →
    IsThere n (current_name_of n page)
unfolding current_of
current_noted n is page some =
    counted_present n.config.protocol (found_in n.notes) n.config.logical
    (sound_map n.config.protocol (found_in n.notes) n.config.logical is.sound is.scanned) (current_name_of n page)
    (omega arith) (inl refl)

module _ (n : IndexState) (image image' : List Contents) (stay : KeepsNoted n image image') where
  pub current_same : IsNoted n.config.protocol n → (page : ℕ) → page_known n image' page ≡ page_known n image page
  current_same is page = ap (option_and_then value_of) (elim (cases_eq (current_of n page) 0) [
    | inl zero ↦ none_at_zero n.config.protocol image' (current_name_of n page)
        zero ∙ sym (none_at_zero n.config.protocol image (current_name_of n page) zero)
    | inr some ↦ stay (current_name_of n page) (current_noted n is page some)
  ])

  -- the array stays
  pub image_array : IsNoted n.config.protocol n → array_known n image' ≡ array_known n image
  image_array is = same_known n n image image' refl (λ page within. current_same is page)

  pub image_under : (e : Entry) (x : Naming) → IsUnderWay image n e x → IsUnderWay image' n e x
  image_under e x w = record {
    in_progress = w.in_progress;
    least = w.least;
    most = w.most;
    short = w.short;
    noted = w.noted;
    texts = λ k h.
        let inside : k < length x.names = let short = w.short in omega arith in
        stay (name_at x k) (w.noted k inside ∙ lt-ltb k x.noted_count h) ∙ w.texts k h;
  }

  image_marked : (mark : Mark) (e : Entry) (x : Naming) → IsAsMarked image n e x mark → IsAsMarked image' n e x mark
  image_marked Plain e x w = image_under e x w
  image_marked Doubt e x w = (image_under e x w.0, w.1)
  image_marked Whole e x w = w

  -- and so does each open transaction
  pub image_transaction : (o : TransactionState) → IsTransaction image n o → IsTransaction image' n o
  image_transaction o w = record { named = w.named; marked = image_marked o.entry.mark o.entry o.naming w.marked }
