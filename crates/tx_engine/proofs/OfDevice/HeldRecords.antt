-- Which records are held in a later list: by the changes of a list, and one after another.
use Rattle.tx_engine.proofs.Common.{◌≡◌, ◌≢◌, ℕ, ◌<◌, ◌≤◌, true, List, refl, sym, ap, ◌∙◌, subst, inl, inr, arith, All-contains, all_from, shape_of, slots_of, Config, Protocol, Link, Rec, Found, Contents, cur, name_of, is_present, records_in, Blank, note_at, found_in, IndexState, IsNoted, IsNextRecord, programmed, current_of, Preserves, NotingKeeps}
use Rattle.record_list.specs.Current.{is_held}
use Rattle.record_list.specs.Changes.{PartialWriteKeeps, CompletingWriteKeeps}
use Rattle.record_list.proofs.OfWalks.Rounds.{cases_page}
unfoldable use Rattle.judged_records.specs.IndexState.{held_of}
use Rattle.collector.proofs.OfSettle.Programming.{all, missing, are_there}
use Rattle.tx_engine.specs.Held.{AddsNoHeld, AddsNoHeldIn}

module _ (p : Protocol) (logical : ℕ) where
  pub held_itself : (list : List Found) → AddsNoHeld p logical list list
  held_itself list = record { versions = λ page low. omega arith; held = λ r low h. inl h }

  -- one list after another
  pub held_then : (a b c : List Found) → AddsNoHeld p logical a b → AddsNoHeld p logical b c → AddsNoHeld p logical a c
  held_then a b c first second = record {
    versions = λ page low.
        let up = first.versions page low in let more = second.versions page low in omega arith;
    held = λ r low h. elim (second.held r low h) [
      | inl before ↦ first.held r low before
      | inr above ↦ inr (let up = first.versions r.page low in omega (arith, above))
    ];
  }

  -- a record that does not complete its cycle
  pub held_partial : (a b : List Found) (names : List Link) → PartialWriteKeeps p a b logical names →
      AddsNoHeld p logical a b
  held_partial a b names w = record {
    versions = λ page low. omega (arith, w.same_current page low);
    held = λ r low h. inl (sym (w.same_held r) ∙ h);
  }

  -- and one that completes it
  pub held_completing : (a b : List Found) (names : List Link) → CompletingWriteKeeps p a b logical names →
      AddsNoHeld p logical a b
  held_completing a b names w = record {
    versions = λ page low. elim (cases_page names page) [
      | inl found ↦ (
          let up = All-contains (λ a'. cur p a logical a'.page < a'.version) names found.0 w.rises found.1 in
          let now = All-contains (λ a'. cur p b logical a'.page ≡ a'.version) names found.0 w.committed found.1 in
          subst (λ q. cur p a logical q ≤ cur p b logical q) found.2 (omega (arith, up, now)))
      | inr none ↦ omega (arith, w.elsewhere page low (all_from (λ (a' : Link). a'.page ≢ page) names none))
    ];
    held = λ r low h. elim (w.held r h) [
      | inl before ↦ inl before
      | inr own ↦ inr (All-contains (λ a'. cur p a logical a'.page < a'.version) names (name_of r) w.rises own)
    ];
  }

-- a record more is noted that a transaction asks for
pub held_noted : (p : Protocol) → NotingKeeps p → (n : IndexState) (at : ℕ) (rec : Rec) → IsNoted p n →
    IsNextRecord n rec → at < slots_of (shape_of n.config) → note_at n.notes at ≡ Blank →
    AddsNoHeld p n.config.logical (found_in n.notes) (found_in (programmed n at rec).notes)
held_noted p notes n at rec noted next within was =
    let more = found_in (programmed n at rec).notes in
    elim (are_there more next.names) [
      | all each ↦ held_completing p n.config.logical (found_in n.notes) more next.names
          (notes.completing n at rec next noted within was
          (all_from (λ name. is_present more name ≡ true) next.names each))
      | missing name i absent ↦ held_partial p n.config.logical (found_in n.notes) more next.names
          (notes.partial n at rec next noted within was (i.0, name, i.1, i.2, absent))
    ]

-- what is noted is kept
pub held_kept : (n m : IndexState) → Preserves n m →
    AddsNoHeld n.config.protocol n.config.logical (found_in n.notes) (found_in m.notes)
unfolding current_of held_of
held_kept n m keep = record {
  versions = λ page low. omega (
    arith,
    subst (λ (c : Config). cur c.protocol (found_in m.notes) c.logical page
        ≡ cur n.config.protocol (found_in n.notes) n.config.logical page) keep.config (keep.current page low),
  );
  held = λ r low h. inl (keep.held r
      (subst (λ (c : Config). is_held c.protocol (found_in m.notes) c.logical r ≡ true) (sym keep.config) h));
}

-- two images with these records
pub held_between : (p : Protocol) (logical : ℕ) (old new : List Contents) (a b : List Found) → records_in p old ≡ a →
    records_in p new ≡ b → AddsNoHeld p logical a b → AddsNoHeldIn p logical old new
held_between p logical old new a b was is h =
    subst (λ l. AddsNoHeld p logical l (records_in p new)) (sym was) (subst (AddsNoHeld p logical a) (sym is) h)

-- the image stayed
pub held_same : (p : Protocol) (logical : ℕ) (old new : List Contents) → new ≡ old → AddsNoHeldIn p logical old new
held_same p logical old new same = held_between p logical old new (records_in p old) (records_in p old) refl
    (ap (records_in p) same) (held_itself p logical (records_in p old))
