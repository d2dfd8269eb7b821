-- Simple Cyclic Commit: what a write keeps that leaves a name absent.
use Rattle.record_list.proofs.Common.{◌≡◌, ℕ, ◌<◌, true, false, ◌&&◌, eqb, ltb, List, refl, sym, ap, ◌∙◌, subst, inl, inr, arith, eq-eqb, lt-ltb, Contains, false≢true, cases_lt, cases_eq, cases_order, and_from, or_left, or_right, false_from_ne_true, All-contains, Link, Rec, Scc, Found, newest, next_older, name_of, is_present, newest_name, link_of, why, is_committed, cur, must_go, PartialWriteLaw}
use Rattle.record_list.specs.Records.{mentions_below}
use Rattle.record_list.specs.Current.{is_loose}
use Rattle.record_list.specs.Changes.{NothingMustGo}
use Rattle.record_list.proofs.OfFacts.Names.{found_named, newest_present}
use Rattle.record_list.proofs.OfFacts.Safe.{top_link, Counts, counts_safe}
use Rattle.record_list.proofs.OfFacts.SoundNames.{IsSoundMap, sound_map, sound_list}
use Rattle.record_list.proofs.OfFacts.Facts.{cur_le, cur_uncommitted, bare_page, current_counts}
use Rattle.record_list.proofs.OfChanges.Progress.{name_ahead, absent_name, name_uncounted}
use Rattle.record_list.proofs.OfChanges.OneMore.{IsStep, newest_own, older_own, step_underway, step_linked, next_after}
use Rattle.record_list.proofs.OfChanges.Untouched.{OldLinks}
use Rattle.record_list.proofs.OfChanges.Keeping.{step_of, back_of_step, begun_on, others_on}
use Rattle.record_list.proofs.OfChanges.Partial.{partial_cur, partial_map}

-- where nothing must go, no loose name mentions the page below the new version, by itself or by its link
pub none_below : (l : List Found) (logical : ℕ) (r : Rec) → NothingMustGo Scc l logical r → (u : Link) →
    is_present l u ≡ true →
    cur Scc l logical u.page < u.version →
    (u.page ≡ r.page → u.version < r.version → ⊥) × ((link_of l u).page ≡ r.page →
    (link_of l u).version < r.version → ⊥)
none_below l logical r clear u here loose =
    let f = found_named l u here in
    let stays = All-contains (λ g. must_go Scc l logical r.page r.version g.rec ≡ false) l f.0 clear f.1 in
    let page : f.0.rec.page ≡ u.page = ap (λ n. n.page) f.2 in
    let version : f.0.rec.version ≡ u.version = ap (λ n. n.version) f.2 in
    let current = ap (cur Scc l logical) page in
    let is : is_loose Scc l logical f.0.rec ≡ true = lt-ltb (cur Scc l logical f.0.rec.page) f.0.rec.version
    (omega arith) in
    let refused : mentions_below r.page r.version f.0.rec ≡ true → ⊥ = λ m. false≢true (sym stays ∙
    and_from (is_loose Scc l logical f.0.rec) (mentions_below r.page r.version f.0.rec) is m) in (
      λ e less. refused (or_left ((eqb f.0.rec.page r.page) && (ltb f.0.rec.version r.version))
          ((eqb f.0.rec.next.page r.page) && (ltb f.0.rec.next.version r.version))
          (and_from (eqb f.0.rec.page r.page) (ltb f.0.rec.version r.version) (eq-eqb f.0.rec.page r.page (page ∙ e))
          (lt-ltb f.0.rec.version r.version (omega arith)))),
      λ e less.
          let next_page : f.0.rec.next.page ≡ r.page = ap (λ n. n.page) f.3 ∙ e in
          let next_version : f.0.rec.next.version ≡ (link_of l u).version = ap (λ n. n.version) f.3 in
          refused (or_right ((eqb f.0.rec.page r.page) && (ltb f.0.rec.version r.version))
          ((eqb f.0.rec.next.page r.page) && (ltb f.0.rec.next.version r.version))
          (and_from (eqb f.0.rec.next.page r.page) (ltb f.0.rec.next.version r.version)
          (eq-eqb f.0.rec.next.page r.page next_page)
          (lt-ltb f.0.rec.next.version r.version (omega arith)))),
    )

module _ (l l' : List Found) (logical : ℕ) (names : List Link) (r : Rec) (s : IsStep l l' logical names r)
    (m : IsSoundMap Scc l logical)
    (clear : NothingMustGo Scc l logical r) where
  -- the newest version of the page that is written was current
  pub newest_current : newest l r.page ≡ cur Scc l logical r.page
  newest_current = elim (cases_eq (newest l r.page) 0) [
    | inl none ↦ none ∙ sym (bare_page Scc l logical m.linked r.page none)
    | inr some ↦ (
        let le = cur_le Scc l logical m r.page in
        let ahead = name_ahead l logical names s.underway (name_of r) s.of_names s.one.fresh in
        elim (cases_lt (cur Scc l logical r.page) (newest l r.page)) [
          | inl loose ↦ absurd ((none_below l logical r clear (newest_name l r.page)
              (newest_present l r.page (omega arith)) loose).0 refl ahead)
          | inr at ↦ omega arith
        ])
  ]

  -- each old link into that page goes on: nothing is ever straddled here
  pub scc_old_links : OldLinks Scc l l' logical names r
  scc_old_links page k into = (
    λ goes. refl,
    λ _.
        let q = top_link l page in
        let n = newest_name l page in
        let here = newest_present l page k.0 in
        let low : q.version < r.version = (s.underway.lower n here k.2 (name_of r) s.of_names).1 into in
        let positive = (m.linked.versions n here).1 in
        let there = ap (newest l) into in
        elim (cases_order q.version (newest l q.page)) [
          | inl at ↦ inr (
            at,
            subst (λ z. Counts Scc l logical z) (sym into)
                (current_counts Scc l logical m r.page (omega arith) (sym newest_current)),
          )
          | inr (inl behind) ↦ inl (behind, refl)
          | inr (inr ahead) ↦ absurd (elim (cases_lt (cur Scc l logical page) (newest l page)) [
            | inl loose ↦ (none_below l logical r clear n here loose).1 into low
            | inr at ↦ (
                let le = cur_le Scc l logical m page in
                elim ((counts_safe Scc l logical m.linked).goes page
                (current_counts Scc l logical m page k.0 (omega arith))) [
                  | inl passes ↦ (let less = passes.0 in omega arith)
                  | inr on ↦ (let same = on.0 in omega arith)
                ])
          ])
        ],
  )

  -- the page that is written keeps its current version while a name is absent
  pub scc_own_cur : (gone : Link) → Contains names gone → is_present l' gone ≡ false →
      cur Scc l' logical r.page ≡ cur Scc l logical r.page
  scc_own_cur gone j absent' =
      let top = newest_own l l' logical names r s in
      let positive = (s.underway.range (name_of r) s.of_names).1 in
      let not' : is_committed (why Scc l' logical r.page) ≡ false =
      false_from_ne_true (is_committed (why Scc l' logical r.page)) (λ h.
      name_uncounted l' logical names (step_underway l l' logical names r s) Scc
      (step_linked l l' logical names r s m.linked) gone j absent'
      (name_of r) s.of_names s.one.own (omega arith, h)) in
      cur_uncommitted Scc l' logical r.page not' ∙ ap (next_older l' r.page) top ∙ older_own l l' logical names r s
      ∙ newest_current

-- the law of a write that leaves a name absent
pub scc_partial_write : PartialWriteLaw Scc
scc_partial_write l l' logical names f sound w any =
    let s = step_of Scc l l' logical names f w in
    let m = sound_map Scc l logical sound w.scanned in
    let gone = absent_name l' names any in
    let old = scc_old_links l l' logical names f.rec s m w.clear in
    let own = scc_own_cur l l' logical names f.rec s m w.clear gone.0 gone.1 gone.2 in
    let same = partial_cur Scc l l' logical names f s m old own gone.0 gone.1 gone.2 in
    record {
      sound = sound_list Scc l' logical (partial_map Scc l l' logical names f s m old own gone.0 gone.1 gone.2 w.added
          (back_of_step Scc l l' logical names f w f.rec.next (next_after l l' logical names f.rec s)) tt tt);
      same_current = λ page below. same page;
      same_held = λ r. refl;
      responsible = tt;
      in_progress = record { begun = begun_on Scc l l' logical names f w (λ a i. same a.page); absent = any };
      others = λ others share h. others_on Scc l l' logical names f w others share (λ b i. same b.page) h;
    }
