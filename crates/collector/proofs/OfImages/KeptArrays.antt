-- What is kept of an array and of texts is known too.
use Rattle.collector.proofs.Common.{◌≡◌, ℕ, ◌<◌, ◌≤◌, true, List, None, Contains, sym, ap, ◌∙◌, subst, inl, inr, arith, cases_Bool, All-contains, Config, Protocol, Link, FlashState, Contents, is_present, text_at, value_at, found_named, records_in, written_in, IndexState, current_name_of, pinned_names, records_scanned, BlocksState, Unsure, page_known, array_known, Matches, Preserves, KeepsArray, IsThere}
use Rattle.std.specs.Prelude.{option_and_then}
use Rattle.record_list.specs.Written.{value_of}
use Rattle.record_list.proofs.OfChanges.Arrays.{text_absent}
use Rattle.judged_records.proofs.OfNotes.NotedFacts.{noted_present}
use Rattle.collector.proofs.OfImages.KnownArrays.{same_known}
use Rattle.collector.proofs.OfImages.WantedImages.{current_present, pinned_present}

-- no record of an image has version 0
pub none_at_zero : (p : Protocol) (image : List Contents) (name : Link) → name.version ≡ 0 →
    text_at (written_in p image) name ≡ None
none_at_zero p image name zero = text_absent (written_in p image) name
    (elim (cases_Bool (is_present (records_in p image) name)) [
      | inl there ↦
          (let f = found_named (records_in p image) name there in
          let low : 1 ≤ f.0.rec.version =
          (All-contains (λ g. (1 ≤ g.rec.version) × (1 ≤ g.rec.next.version)) (records_in p image) f.0
          (records_scanned p image).versions f.1).0 in
          let is : f.0.rec.version ≡ name.version = ap (λ (y : Link). y.version) f.2 in
          absurd (omega arith))
      | inr absent ↦ absent
    ])

module _ (p : Protocol) (s s' : FlashState) (n n' : IndexState) (t t' : BlocksState) (u u' : Unsure)
    (m : Matches s n t u) (m' : Matches s' n' t' u')
    (rule : n.config.protocol ≡ p)
    (kept : Preserves n n') (keeps : KeepsArray p n.config.logical s.image s'.image) where
  rule' : n'.config.protocol ≡ p
  rule' = ap (λ (c : Config). c.protocol) kept.config ∙ rule

  -- a pinned name that is there has its text
  pub pinned_texts : (name : Link) → Contains (pinned_names n.pins) name → IsThere n name →
      text_at (written_in p s'.image) name ≡ text_at (written_in p s.image) name
  pinned_texts name pin there =
      keeps.texts name (subst (λ q. is_present (records_in q s'.image) name ≡ true) rule'
      (pinned_present s' n' t' u' m' name (kept.pinned name pin there)
      (subst (λ l. Contains (pinned_names l) name) (sym kept.pins) pin)))

  -- and so has the current one of a page
  current_texts : (page : ℕ) → page < n.config.logical → IsThere n (current_name_of n page) →
      text_at (written_in p s'.image) (current_name_of n page) ≡ text_at (written_in p s.image) (current_name_of n page)
  current_texts page within there =
      let same : current_name_of n' page ≡ current_name_of n page =
      ap (λ v. record { page = page; version = v }) (kept.current page within) in
      keeps.texts (current_name_of n page)
      (subst (λ q. is_present (records_in q s'.image) (current_name_of n page) ≡ true) rule'
      (subst (λ y. is_present (records_in n'.config.protocol s'.image) y ≡ true) same
      (current_present s' n' t' u' m' page (subst (IsThere n') (sym same) (kept.present page within there)))))

  page_same : (page : ℕ) → page < n.config.logical → page_known n' s'.image page ≡ page_known n s.image page
  page_same page within =
      ap (λ q. value_at (written_in q s'.image) (current_name_of n' page)) rule'
      ∙ ap (λ v. value_at (written_in p s'.image) (record { page = page; version = v })) (kept.current page within)
      ∙ ap (option_and_then value_of) (elim (noted_present n.config.protocol n m.noted page) [
        | inl none ↦ none_at_zero p s'.image (current_name_of n page) none
            ∙ sym (none_at_zero p s.image (current_name_of n page) none)
        | inr there ↦ current_texts page within there
      ])
      ∙ ap (λ q. value_at (written_in q s.image) (current_name_of n page)) (sym rule)

  -- the array is the one that was known
  pub known_stays : array_known n' s'.image ≡ array_known n s.image
  known_stays = same_known n n' s.image s'.image kept.config page_same
