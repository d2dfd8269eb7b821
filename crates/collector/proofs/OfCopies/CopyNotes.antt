-- Copying a record to a slot of the spare: what is noted then.
use Rattle.collector.proofs.Common.{◌≡◌, ℕ, ◌<◌, true, List, length, set, refl, sym, ap, ◌∙◌, subst, inl, inr, Contains, All-contains, all_from, from_filter, in_filter, shape_of, Link, Rec, Found, name_of, is_present, IsInserted, left, CopyLaw, Pages, PagesExist, is_outside, is_wanted, found_named, present_as, wanted_cases, counted_wanted, pinned_wanted, Blank, Holds, note_at, found_in, IndexState, IsNoted, current_of, current_name_of, held_of, pinned_names, copied, CanSpare, IsThere, Preserves, found, found_in_programmed}
use Rattle.record_list.specs.Changes.{CopyKeeps}
use Rattle.record_list.proofs.OfChanges.OneMore.{inserted_in, in_inserted}
use Rattle.judged_records.proofs.OfNotes.FoundIn.{noted_in}

module _ (n : IndexState) (noted : IsNoted n.config.protocol n) (law : CopyLaw n.config.protocol)
    (from to : ℕ) (rec : Rec)
    (source : note_at n.notes from ≡ Holds rec) (from_within : from < length n.notes) (within : to < length n.notes)
    (was : note_at n.notes to ≡ Blank)
    (noted' : IsNoted n.config.protocol (copied n from to)) where
  abbrev pub old : List Found
  old = found_in n.notes

  abbrev pub more : List Found
  more = found_in (copied n from to).notes

  pub added : IsInserted old (found to rec) more
  added = subst (λ note. IsInserted old (found to rec) (found_in (set n.notes to note))) (sym source)
      (found_in_programmed n.notes to rec within was)

  pub first : Contains old (found from rec)
  first = noted_in n.notes from rec from_within source

  pub kept : CopyKeeps n.config.protocol old more n.config.logical
  kept =
      law old more n.config.logical (found to rec) noted.sound (record {
        scanned = noted.scanned;
        scanned' = noted'.scanned;
        added = added;
        source = (first.0, found from rec, first.1, first.2, refl);
      })

  -- a record of the new list is one of the old list, under its name
  was_there : (f : Found) → Contains more f → (g : Found) × Contains old g × (g.rec ≡ f.rec)
  was_there f i = elim (inserted_in old more (found to rec) added f i) [
    | inl e ↦ (found from rec, first, ap (λ (x : Found). x.rec) e)
    | inr j ↦ (f, j, refl)
  ]

  grows : (name : Link) → IsThere n name → IsThere (copied n from to) name
  grows name there =
      let f = found_named old name there in
      present_as more f.0 name (in_inserted old more (found to rec) added f.0 f.1) f.2

  current_same : (page : ℕ) → page < n.config.logical → current_of (copied n from to) page ≡ current_of n page
  unfolding current_of
  current_same page in_range = kept.same_current page in_range

  held_same : (r : Rec) → held_of (copied n from to) r ≡ held_of n r
  unfolding held_of
  held_same r = kept.same_held r

  pub copy_preserves : Preserves n (copied n from to)
  copy_preserves = record {
    config = refl;
    pins = refl;
    mentions = refl;
    current = current_same;
    fewer = λ name there.
        let f = found_named more name there in
        let g = was_there f.0 f.1 in
        present_as old g.0 name g.1 (ap name_of g.2 ∙ f.2);
    pinned = λ name pin there. grows name there;
    present = λ page in_range there. grows (current_name_of n page) there;
    held = λ r h. sym (held_same r) ∙ h;
    in_progress = λ names h. kept.in_progress names h;
  }

  -- a wanted record was wanted
  wanted_before : (f g : Found) → Contains old g → g.rec ≡ f.rec →
      is_wanted n.config.protocol more n.config.logical (pinned_names n.pins) f.rec ≡ true →
      is_wanted n.config.protocol old n.config.logical (pinned_names n.pins) g.rec ≡ true
  wanted_before f g i e w =
      let page_within : g.rec.page < n.config.logical =
      (All-contains (PagesExist n.config.logical) old g (noted.sound Pages) i).0 in
      subst (λ r. is_wanted n.config.protocol old n.config.logical (pinned_names n.pins) r ≡ true) (sym e)
      (elim (wanted_cases n.config.protocol more n.config.logical (pinned_names n.pins) f.rec w) [
        | inl current ↦ counted_wanted n.config.protocol old n.config.logical (pinned_names n.pins) f.rec
            (inl (current ∙ kept.same_current f.rec.page
            (subst (λ (r : Rec). r.page < n.config.logical) e page_within)))
        | inr (inl held) ↦ counted_wanted n.config.protocol old n.config.logical (pinned_names n.pins) f.rec
            (inr (sym (kept.same_held f.rec) ∙ held))
        | inr (inr pin) ↦ pinned_wanted n.config.protocol old n.config.logical (pinned_names n.pins) f.rec pin
      ])

  -- a block that could be spared can be spared
  pub copy_spared : (block : ℕ) → CanSpare n block → CanSpare (copied n from to) block
  copy_spared block spared =
      all_from (λ f. is_wanted n.config.protocol more n.config.logical (pinned_names n.pins) f.rec ≡ true →
      is_present (left (is_outside (shape_of n.config) block) more) (name_of f.rec) ≡ true) more
      (λ f i w.
      let g = was_there f i in
      let kept_there : is_present (left (is_outside (shape_of n.config) block) old) (name_of g.0.rec) ≡ true =
      All-contains (λ f. is_wanted n.config.protocol old n.config.logical (pinned_names n.pins) f.rec ≡ true →
      is_present (left (is_outside (shape_of n.config) block) old) (name_of f.rec) ≡ true) old g.0 spared g.1
      (wanted_before f g.0 g.1 g.2 w) in
      let h = found_named (left (is_outside (shape_of n.config) block) old) (name_of g.0.rec) kept_there in
      let parts = from_filter (λ f. is_outside (shape_of n.config) block f.slot.0) h.0 old h.1 in
      present_as (left (is_outside (shape_of n.config) block) more) h.0 (name_of f.rec)
      (in_filter (λ f. is_outside (shape_of n.config) block f.slot.0) h.0 more
      (in_inserted old more (found to rec) added h.0 parts.0) parts.1)
      (h.2 ∙ ap name_of g.2))
