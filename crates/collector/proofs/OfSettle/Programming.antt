-- A record that a transaction in progress asks for is noted in a slot outside the spare: what can be spared then.
use Rattle.collector.proofs.Common.{◌≡◌, ◌≢◌, ℕ, ◌<◌, Bool, true, false, eq-eqb, eqb-true, List, [], ◌∷◌, length, refl, sym, ap, ◌∙◌, subst, inl, inr, Contains, ◌==◌, cases_Bool, All-contains, all_from, from_filter, in_filter, Contains-cases, Contains-first, Contains-nil, Contains-rest, shape_of, Protocol, Link, Rec, Found, name_of, is_present, IsInserted, left, PartialWriteLaw, CompletingWriteLaw, cur, IsCurrent, Pages, PagesExist, is_outside, is_wanted, found_named, present_as, wanted_cases, counted_wanted, pinned_wanted, Blank, note_at, found_in, IndexState, IsNoted, pinned_names, programmed, CanSpare, CanTakeOwn, found, found_in_programmed, BlocksState}
use Rattle.record_list.specs.Changes.{IsWrite, PartialWriteKeeps, CompletingWriteKeeps}
use Rattle.record_list.proofs.OfChanges.OneMore.{inserted_in, in_inserted, new_in}

-- a page is one of a transaction's, or none of them
pub data OfPages (names : List Link) (page : ℕ) : Type 0 where
  one : (name : Link) → Contains names name → name.page ≡ page → OfPages names page
  none : ((name : Link) → Contains names name → name.page ≢ page) → OfPages names page

pub of_pages : (names : List Link) (page : ℕ) → OfPages names page
of_pages [] page = none (λ name i. absurd (Contains-nil name i))
of_pages (n ∷ ns) page = elim (cases_Bool (n.page == page)) [
  | inl e ↦ one n (Contains-first n ns) (eqb-true n.page page e)
  | inr e ↦ elim (of_pages ns page) [
    | one name i is ↦ one name (Contains-rest n ns name i) is
    | none other ↦ none (λ name i. elim (Contains-cases n ns name i) [
      | inl is ↦ λ same. let yes = eq-eqb n.page page (ap (λ (x : Link). x.page) is ∙ same) in cc
      | inr j ↦ other name j
    ])
  ]
]

-- each name is there, or one is not
pub data AreThere (l : List Found) (names : List Link) : Type 0 where
  all : ((name : Link) → Contains names name → is_present l name ≡ true) → AreThere l names
  missing : (name : Link) → Contains names name → is_present l name ≡ false → AreThere l names

pub are_there : (l : List Found) (names : List Link) → AreThere l names
are_there l [] = all (λ name i. absurd (Contains-nil name i))
are_there l (n ∷ ns) = elim (cases_Bool (is_present l n)) [
  | inr e ↦ missing n (Contains-first n ns) e
  | inl e ↦ elim (are_there l ns) [
    | missing name i is ↦ missing name (Contains-rest n ns name i) is
    | all each ↦ all (λ name i. elim (Contains-cases n ns name i) [
      | inl is ↦ subst (λ x. is_present l x ≡ true) is e
      | inr j ↦ each name j
    ])
  ]
]

module _ (n : IndexState) (noted : IsNoted n.config.protocol n) (partial : PartialWriteLaw n.config.protocol)
    (completing : CompletingWriteLaw n.config.protocol)
    (at : ℕ) (rec : Rec) (within : at < length n.notes) (was : note_at n.notes at ≡ Blank)
    (t : BlocksState) (take : CanTakeOwn n t rec) (out : is_outside (shape_of n.config) t.spare at ≡ true)
    (noted' : IsNoted n.config.protocol (programmed n at rec)) where
  abbrev p : Protocol
  p = n.config.protocol

  abbrev old : List Found
  old = found_in n.notes

  abbrev more : List Found
  more = found_in (programmed n at rec).notes

  abbrev names : List Link
  names = take.next.names

  added : IsInserted old (found at rec) more
  added = found_in_programmed n.notes at rec within was

  pub write : IsWrite p old more n.config.logical names (found at rec)
  write = record {
    scanned = noted.scanned;
    scanned' = noted'.scanned;
    in_progress = take.next.in_progress;
    added = added;
    named = take.next.named;
    fresh = take.next.fresh;
    asked = take.next.asked;
    clear = take.next.clear;
  }

  abbrev keep : ℕ → Bool
  keep = is_outside (shape_of n.config) t.spare

  -- what has a slot outside the spare still has one
  stays_out : (name : Link) → is_present (left keep old) name ≡ true → is_present (left keep more) name ≡ true
  stays_out name h =
      let f = found_named (left keep old) name h in
      let parts = from_filter (λ f. keep f.slot.0) f.0 old f.1 in
      present_as (left keep more) f.0 name (in_filter (λ f. keep f.slot.0) f.0 more
      (in_inserted old more (found at rec) added f.0 parts.0) parts.1) f.2

  -- the new record is outside it
  new_out : is_present (left keep more) (name_of rec) ≡ true
  new_out = present_as (left keep more) (found at rec) (name_of rec)
      (in_filter (λ f. keep f.slot.0) (found at rec) more (new_in old more (found at rec) added) out) refl

  -- a record of the transaction that was there has a slot outside
  own_out : (f : Found) → Contains old f → Contains names (name_of f.rec) →
      is_present (left keep more) (name_of f.rec) ≡ true
  own_out f i named =
      stays_out (name_of f.rec)
      (All-contains (λ name. is_present old name ≡ true → is_present (left keep old) name ≡ true) names (name_of f.rec)
      take.outside named
      (present_as old f (name_of f.rec) i refl))

  old_out : (f : Found) → Contains old f → CanSpare n t.spare →
      is_wanted p old n.config.logical (pinned_names n.pins) f.rec ≡ true →
      is_present (left keep more) (name_of f.rec) ≡ true
  old_out f i spared w =
      stays_out (name_of f.rec)
      (All-contains (λ f. is_wanted p old n.config.logical (pinned_names n.pins) f.rec ≡ true →
      is_present (left keep old) (name_of f.rec) ≡ true) old f spared
      i w)

  page_within : (f : Found) → Contains old f → f.rec.page < n.config.logical
  page_within f i = (All-contains (PagesExist n.config.logical) old f (noted.sound Pages) i).0

  -- where the cycle stays open
  open_case : PartialWriteKeeps p old more n.config.logical names → CanSpare n t.spare → (f : Found) → Contains old f →
      is_wanted p more n.config.logical (pinned_names n.pins) f.rec ≡ true →
      is_present (left keep more) (name_of f.rec) ≡ true
  open_case kept spared f i w = old_out f i spared
      (elim (wanted_cases p more n.config.logical (pinned_names n.pins) f.rec w) [
        | inl current ↦ counted_wanted p old n.config.logical (pinned_names n.pins) f.rec
            (inl (current ∙ kept.same_current f.rec.page (page_within f i)))
        | inr (inl held) ↦ counted_wanted p old n.config.logical (pinned_names n.pins) f.rec
            (inr (sym (kept.same_held f.rec) ∙ held))
        | inr (inr pin) ↦ pinned_wanted p old n.config.logical (pinned_names n.pins) f.rec pin
      ])

  -- where it is completed, and the record is current then
  current_case : CompletingWriteKeeps p old more n.config.logical names → CanSpare n t.spare → (f : Found) →
      Contains old f →
      IsCurrent p more n.config.logical f.rec → OfPages names f.rec.page →
      is_present (left keep more) (name_of f.rec) ≡ true
  current_case kept spared f i current (one name named is) =
      let version : f.rec.version ≡ name.version =
      current ∙ ap (cur p more n.config.logical) (sym is)
      ∙ All-contains (λ name. cur p more n.config.logical name.page ≡ name.version) names name kept.committed named in
      let same : name_of f.rec ≡ name = ap (λ v. record { page = f.rec.page; version = v }) version
      ∙ ap (λ q. record { page = q; version = name.version }) (sym is) in
      own_out f i (subst (Contains names) (sym same) named)
  current_case kept spared f i current (none other) =
      let away = all_from (λ name. name.page ≢ f.rec.page) names other in
      old_out f i spared (counted_wanted p old n.config.logical (pinned_names n.pins) f.rec
      (inl (current ∙ kept.elsewhere f.rec.page (page_within f i) away)))

  whole_case : CompletingWriteKeeps p old more n.config.logical names → CanSpare n t.spare → (f : Found) →
      Contains old f →
      is_wanted p more n.config.logical (pinned_names n.pins) f.rec ≡ true →
      is_present (left keep more) (name_of f.rec) ≡ true
  whole_case kept spared f i w = elim (wanted_cases p more n.config.logical (pinned_names n.pins) f.rec w) [
    | inl current ↦ current_case kept spared f i current (of_pages names f.rec.page)
    | inr (inl held) ↦ elim (kept.held f.rec held) [
      | inl was_held ↦ old_out f i spared (counted_wanted p old n.config.logical (pinned_names n.pins) f.rec
          (inr was_held))
      | inr named ↦ own_out f i named
    ]
    | inr (inr pin) ↦ old_out f i spared (pinned_wanted p old n.config.logical (pinned_names n.pins) f.rec pin)
  ]

  each_out : AreThere more names → CanSpare n t.spare → (f : Found) → Contains old f →
      is_wanted p more n.config.logical (pinned_names n.pins) f.rec ≡ true →
      is_present (left keep more) (name_of f.rec) ≡ true
  each_out (all there) spared =
      whole_case (completing old more n.config.logical names (found at rec) noted.sound write
      (all_from (λ name. is_present more name ≡ true) names there))
      spared
  each_out (missing name named absent) spared =
      open_case (partial old more n.config.logical names (found at rec) noted.sound write (
        named.0,
        name,
        named.1,
        named.2,
        absent,
      )) spared

  pub programmed_spared : CanSpare n t.spare → CanSpare (programmed n at rec) t.spare
  programmed_spared spared =
      all_from (λ f. is_wanted p more n.config.logical (pinned_names n.pins) f.rec ≡ true →
      is_present (left keep more) (name_of f.rec) ≡ true) more
      (λ f i w. elim (inserted_in old more (found at rec) added f i) [
        | inl new ↦ subst (λ (g : Found). is_present (left keep more) (name_of g.rec) ≡ true) new new_out
        | inr j ↦ each_out (are_there more names) spared f j w
      ])
