-- What is read of noted records, by what is derived from them: held, wanted and needed ones, and those that must go.
use Rattle.judged_records.proofs.Common.{◌≡◌, ◌≢◌, ℕ, ◌<◌, ◌≤◌, Bool, true, false, eqb, ltb, ◌&&◌, ◌||◌, ◌↔◌, ◌⊎◌, List, get_or, All, Any, Contains, None, Some, sym, ap, ◌∙◌, subst, inl, inr, arith, eqb-true, eq-eqb, ltb-true, lt-ltb, cond_both, and_parts, and_from, or_cases, none-some, All-contains, all_from, in_any, Rec, Protocol, Scc, Bpcc, shape_of, Found, nothing, newest, name_of, record_named, cur, is_loose, must_go, is_held, Pages, PagesExist, is_slot, home, present_in, greatest_least, IsSoundMap, Holds, note_at, rec_of, found_in, IndexState, IsNoted, current_of, home_of, needed_of, loose_of, waits_of, answerer, answerer_of, is_waiting, goes_of}
use Rattle.std.proofs.lemmas.Bool.{or_left, or_right}
use Rattle.std.proofs.lemmas.List.Elements.{at_from_Contains}
use Rattle.list_lemmas.proofs.Membership.{any_in}
use Rattle.record_list.specs.Records.{version_of, mentions_below}
use Rattle.record_list.specs.Written.{is_wanted}
use Rattle.record_list.proofs.OfFacts.Facts.{scc_loose}
use Rattle.record_list.proofs.OfFacts.Names.{newest_bound}
use Rattle.judged_records.specs.IndexState.{pinned_names, held_of}
use Rattle.judged_records.specs.Derived.{wanted_of, IsNewestUncommitted, WaitsBelow, AnswersForSome}
use Rattle.judged_records.proofs.OfNotes.FoundIn.{found, found_in_ascending, noted_from, noted_in, holds_within}
use Rattle.judged_records.proofs.OfNotes.NotedFacts.{noted_map}
use Rattle.judged_records.proofs.OfChanges.Pins.{pinned_at_page}
use Rattle.judged_records.proofs.OfNotes.Places.{needed_at, needed_none}
use Rattle.judged_records.proofs.OfNotes.Derived.{held_answers, held_from}

-- which records must go under Simple Cyclic Commit
must_go_scc : (l : List Found) (logical page below : ℕ) (f : Found) → Contains l f →
    must_go Scc l logical page below f.rec ≡ true →
    ((f.rec.page ≡ page) × (newest l page ≡ f.rec.version) × (is_loose Scc l logical f.rec ≡ true)
    × (f.rec.version < below))
    ⊎ ((is_waiting Scc l logical f.rec ≡ true) × (f.rec.next.page ≡ page) × (f.rec.next.version < below))
must_go_scc l logical page below f i goes =
    let r = f.rec in
    let parts = and_parts (is_loose Scc l logical r) (mentions_below page below r) goes in
    let loose = ltb-true (cur Scc l logical r.page) r.version parts.0 in
    elim (or_cases (eqb r.page page && ltb r.version below) (eqb r.next.page page && ltb r.next.version below)
    parts.1) [
      | inl own ↦ (
          let both = and_parts (eqb r.page page) (ltb r.version below) own in
          let at = eqb-true r.page page both.0 in
          let top = (scc_loose l logical (name_of r) (present_in l f i) loose).0 in
          inl (at, ap (newest l) (sym at) ∙ sym top, parts.0, ltb-true r.version below both.1))
      | inr link ↦ (
          let both = and_parts (eqb r.next.page page) (ltb r.next.version below) link in
          inr (parts.0, eqb-true r.next.page page both.0, ltb-true r.next.version below both.1))
    ]

module _ (n : IndexState) where
  -- a slot with a record is needed where it is the record's home and the record is wanted
  pub needed_reading : (at : ℕ) (rec : Rec) → note_at n.notes at ≡ Holds rec →
      needed_of n at ≡ (is_slot at (home_of n (name_of rec)) && wanted_of n rec)
  unfolding needed_of home_of wanted_of
  needed_reading at rec here =
      let p = n.config.protocol in
      let l = found_in n.notes in
      let logical = n.config.logical in
      let i = noted_in n.notes at rec (holds_within n.notes at rec here) here in
      let place = at_from_Contains l (found at rec) i in
      let e = place.2 nothing in
      let u : Found → Bool = λ f. is_slot at (home (shape_of n.config) n.spare l (name_of f.rec))
      && is_wanted p l logical
      (pinned_names n.pins) f.rec in
      needed_at p l logical (shape_of n.config) n.spare (pinned_names n.pins) at place.0 (found_in_ascending n.notes)
      place.1 (ap (λ f. f.slot.0) e)
      ∙ ap u e

  -- and one without is not
  pub unneeded_reading : (at : ℕ) → rec_of (note_at n.notes at) ≡ None → needed_of n at ≡ false
  unfolding needed_of
  unneeded_reading at none =
      needed_none n.config.protocol (found_in n.notes) n.config.logical (shape_of n.config) n.spare
      (pinned_names n.pins) at (λ f i e.
      let here = (noted_from n.notes f i).1 in
      none-some f.rec (sym none ∙ ap (λ s. rec_of (note_at n.notes s)) (sym e) ∙ ap rec_of here))

module _ (protocol : Protocol) (n : IndexState) (k : IsNoted protocol n) where
  configured_map : IsSoundMap n.config.protocol (found_in n.notes) n.config.logical
  configured_map = subst (λ p. IsSoundMap p (found_in n.notes) n.config.logical) (sym k.rule) (noted_map protocol n k)

  -- a noted record is held exactly where it answers for some
  pub held_reading : All (λ f. (held_of n f.rec ≡ true) ↔ AnswersForSome n (name_of f.rec)) (found_in n.notes)
  unfolding held_of answerer_of
  held_reading =
      let p = n.config.protocol in
      let l = found_in n.notes in
      let logical = n.config.logical in
      all_from (λ f. (is_held p l logical f.rec ≡ true) ↔ Any (λ g. answerer p l logical g.rec ≡ Some (name_of f.rec))
      l) l (λ f i. (
        (λ held. let g = held_answers p l logical f.rec held in
            any_in (λ h. answerer p l logical h.rec ≡ Some (name_of f.rec)) l g.0 g.1 g.2),
        (λ any.
            let g = in_any (λ h. answerer p l logical h.rec ≡ Some (name_of f.rec)) l any in
            held_from p l logical configured_map f g.0 i g.1 g.2),
      ))

  -- it is wanted exactly where it is current, held or pinned
  pub wanted_reading : All (λ f. wanted_of n f.rec
      ≡ ((eqb f.rec.version (current_of n f.rec.page) || held_of n f.rec)
      || eqb f.rec.version (get_or n.pins f.rec.page 0))) (found_in n.notes)
  unfolding wanted_of current_of held_of
  wanted_reading =
      let p = n.config.protocol in
      let l = found_in n.notes in
      let logical = n.config.logical in
      all_from (λ f. is_wanted p l logical (pinned_names n.pins) f.rec
      ≡ ((eqb f.rec.version (cur p l logical f.rec.page) || is_held p l logical f.rec)
      || eqb f.rec.version (get_or n.pins f.rec.page 0))) l (λ f i.
      let pages = All-contains (PagesExist logical) l f (k.sound Pages) i in
      let versions = All-contains (λ g. (1 ≤ g.rec.version) × (1 ≤ g.rec.next.version)) l f k.scanned.versions i in
      let below = pages.0 in
      let long = k.pages in
      ap (λ b. (eqb f.rec.version (cur p l logical f.rec.page) || is_held p l logical f.rec) || b)
      (pinned_at_page f.rec n.pins versions.0 (omega arith)))

  -- what must go under Simple Cyclic Commit: the newest record of the page, where it is loose and below, and those that
  -- wait for the page and link to it below
  pub going_reading : n.config.protocol ≡ Scc → (page below : ℕ) →
      All (λ f. (goes_of n page below f.rec ≡ true) ↔ (IsNewestUncommitted n page below f.rec
      ⊎ WaitsBelow n page below f.rec)) (found_in n.notes)
  unfolding goes_of loose_of waits_of
  going_reading scc page below =
      let p = n.config.protocol in
      let l = found_in n.notes in
      let logical = n.config.logical in
      all_from (λ f. (must_go p l logical page below f.rec ≡ true)
      ↔ (IsNewestUncommitted n page below f.rec ⊎ WaitsBelow n page below f.rec)) l (λ f i.
      let r = f.rec in (
        (λ goes. elim (must_go_scc l logical page below f i
            (subst (λ q. must_go q l logical page below r ≡ true) scc goes)) [
              | inl own ↦ inl (record {
                own_page = own.0;
                top = own.1;
                loose = subst (λ q. is_loose q l logical r ≡ true) (sym scc) own.2;
                low = own.3;
              })
              | inr link ↦ inr (record {
                waits = subst (λ q. is_waiting q l logical r ≡ true) (sym scc) link.0;
                next_page = link.1;
                low = link.2;
              })
            ]),
        (λ parts. subst (λ q. must_go q l logical page below r ≡ true) (sym scc) (elim parts [
          | inl own ↦ and_from (is_loose Scc l logical r) (mentions_below page below r)
              (subst (λ q. is_loose q l logical r ≡ true) scc own.loose)
              (or_left (eqb r.page page && ltb r.version below) (eqb r.next.page page && ltb r.next.version below)
              (and_from (eqb r.page page) (ltb r.version below) (eq-eqb r.page page own.own_page)
              (lt-ltb r.version below own.low)))
          | inr link ↦ and_from (is_loose Scc l logical r) (mentions_below page below r)
              (subst (λ q. is_waiting q l logical r ≡ true) scc link.waits)
              (or_right (eqb r.page page && ltb r.version below) (eqb r.next.page page && ltb r.next.version below)
              (and_from (eqb r.next.page page) (ltb r.next.version below) (eq-eqb r.next.page page link.next_page)
              (lt-ltb r.next.version below link.low)))
        ])),
      ))

  -- under Back Pointer Cyclic Commit none must go
  pub none_goes : n.config.protocol ≡ Bpcc → (page below : ℕ) (r : Rec) → goes_of n page below r ≡ false
  unfolding goes_of
  none_goes bpcc page below r = ap (λ q. must_go q (found_in n.notes) n.config.logical page below r) bpcc

-- the newest version of a page is that of a record with none above it
pub newest_is : (l : List Found) (f : Found) → Contains l f →
    ((g : Found) → Contains l g → g.rec.page ≡ f.rec.page → g.rec.version ≤ f.rec.version) →
    newest l f.rec.page ≡ f.rec.version
newest_is l f i most =
    let page = f.rec.page in
    let bound = newest_bound l (name_of f.rec) (present_in l f i) in
    let least = greatest_least (version_of page) l f.rec.version (λ g j.
    cond_both (eqb g.rec.page page) g.rec.version 0 (λ v. v ≤ f.rec.version)
    (λ same. most g j (eqb-true g.rec.page page same))
    (λ other. omega arith)) in
    omega arith

-- and 0 where the page has no record
pub newest_none : (l : List Found) (page : ℕ) → ((g : Found) → Contains l g → g.rec.page ≢ page) → newest l page ≡ 0
newest_none l page none =
    let least = greatest_least (version_of page) l 0 (λ g j.
    cond_both (eqb g.rec.page page) g.rec.version 0 (λ v. v ≤ 0)
    (λ same. absurd (none g j (eqb-true g.rec.page page same)))
    (λ other. omega arith)) in
    omega arith

module _ (protocol : Protocol) (n : IndexState) (k : IsNoted protocol n) where
  -- the record of a name is one, in whatever slots
  pub one_record : (at other : ℕ) (r s : Rec) → note_at n.notes at ≡ Holds r → note_at n.notes other ≡ Holds s →
      name_of r ≡ name_of s → r ≡ s
  one_record at other r s here there e =
      let m = noted_map protocol n k in
      let l = found_in n.notes in
      m.copies (found at r) (noted_in n.notes at r (holds_within n.notes at r here) here)
      ∙ ap (record_named l) e
      ∙ sym (m.copies (found other s) (noted_in n.notes other s (holds_within n.notes other s there) there))
