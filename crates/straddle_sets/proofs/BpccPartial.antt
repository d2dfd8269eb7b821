-- Back Pointer Cyclic Commit: what a write keeps that leaves a name absent.
use Rattle.std.proofs.Common.{◌≡◌, ℕ, ◌<◌, Bool, false, ◌&&◌, ◌||◌, eqb, ltb, List, sym, ap, ◌∙◌, subst, inl, inr, arith, Contains}
use Rattle.std.specs.List.{list_any}
use Rattle.std.proofs.lemmas.Bool.{false_from_ne_true}
use Rattle.list_lemmas.proofs.Membership.{all_from}
use Rattle.list_lemmas.proofs.Tests.{any_same}
use Rattle.tx_types.specs.declared.record.Link.{Link}
use Rattle.tx_types.specs.declared.record.Rec.{Rec}
use Rattle.tx_types.specs.declared.config.Protocol.TheVariants.{Bpcc}
use Rattle.record_list.specs.declared.found.Found.{Found}
use Rattle.record_list.specs.Records.{greatest, name_of, is_present}
use Rattle.record_list.specs.Verdict.{link_of, back_of, straddles}
use Rattle.record_list.specs.Current.{cur, IsLoose, straddling_upto, responsible, answers_for, is_held}
use Rattle.record_list.specs.Changes.{IsInserted, PartialWriteLaw}
use Rattle.record_list.proofs.OfFacts.SoundNames.{IsSoundMap, LooseNames, EndingNames, sound_map, sound_list}
use Rattle.record_list.proofs.OfWalks.Rounds.{cases_in}
use Rattle.record_list.proofs.OfChanges.Progress.{name_loose, absent_name}
use Rattle.record_list.proofs.OfChanges.OneMore.{its_link, its_back, IsStep, inserted_any, old_link, old_back, next_after, next_in}
use Rattle.record_list.proofs.OfChanges.Keeping.{step_of, back_of_step, begun_on, others_on, absent_before}
use Rattle.record_list.proofs.OfChanges.Partial.{partial_cur, partial_map}
use Rattle.straddle_sets.proofs.Straddle.{upto_none}
use Rattle.straddle_sets.proofs.BpccLinks.{bpcc_old_links, bpcc_own_cur}
use Rattle.straddle_sets.proofs.Ending.{ends_out, ends_names}
use Rattle.record_list.proofs.OfFacts.Held.{answer_of}
use Rattle.record_list.proofs.OfLosses.LossCounted.{answered_below}

module _ (l l' : List Found) (logical : ℕ) (names : List Link) (f : Found) (s : IsStep l l' logical names f.rec)
    (m : IsSoundMap Bpcc l logical)
    (back : f.rec.back ≡ cur Bpcc l logical f.rec.page) (same : (page : ℕ) →
    cur Bpcc l' logical page ≡ cur Bpcc l logical page)
    (gone : Link) (j : Contains names gone) (absent' : is_present l' gone ≡ false) where
  -- each name is above the current version of its page, before and after
  above : (a : Link) → Contains names a → cur Bpcc l logical a.page < a.version
  above a i = name_loose l logical names s.underway Bpcc m gone j
      (absent_before l l' logical names f.rec s gone absent') a i

  -- the new record answers for none
  same_responsible : (q : Link) → responsible Bpcc l' logical q ≡ responsible Bpcc l logical q
  same_responsible q =
      let top = cur Bpcc l' logical q.page in
      let e = s.one.greatest_is (straddling_upto top q) in
      let own = above (name_of f.rec) s.of_names in
      let none = upto_none top q f.rec (λ h le.
      let at = same q.page in
      let page = ap (cur Bpcc l logical) h.0 in
      omega arith) in
      let more : greatest (straddling_upto top q) l' ≡ greatest (straddling_upto top q) l = omega arith in
      more ∙ ap (λ t. greatest (straddling_upto t q) l) (same q.page)

  -- law 6 afterwards
  partial_loose : LooseNames Bpcc l' logical
  partial_loose u here at = elim (s.one.cases u here) [
    | inl e ↦ (
        let link : link_of l' u ≡ f.rec.next = ap (link_of l') e ∙ its_link s.one in
        let up = above f.rec.next (next_in l l' logical names f.rec s) in
        let level = same f.rec.next.page in (
          ap (back_of l') e ∙ its_back s.one ∙ back ∙ sym (same f.rec.page)
              ∙ ap (λ n. cur Bpcc l' logical n.page) (sym e),
          subst (λ q. q.version ≡ cur Bpcc l' logical q.page → ⊥) (sym link) (λ x. omega arith),
          subst (λ q. q.version < cur Bpcc l' logical q.page → responsible Bpcc l' logical q ≡ 0 →
              ⊥) (sym link) (λ x. absurd (omega arith)),
        ))
    | inr before ↦ (
        let level = same u.page in
        let law = m.loose u before (omega arith) in
        let q = link_of l u in
        let there = same q.page in
        let link = old_link l l' logical names f.rec s u before in (
          old_back l l' logical names f.rec s u before ∙ law.0 ∙ sym level,
          subst (λ z. z.version ≡ cur Bpcc l' logical z.page → ⊥) (sym link) (λ x. law.1 (x ∙ there)),
          subst (λ z. z.version < cur Bpcc l' logical z.page → responsible Bpcc l' logical z ≡ 0 → ⊥) (sym link)
              (λ less none. law.2 (omega arith) (sym (same_responsible q) ∙ none)),
        ))
  ]

  -- law 7 afterwards
  partial_ending : EndingNames Bpcc l' logical
  partial_ending u here at = elim (cases_in names u) [
    | inl i ↦ ends_names l l' logical names f.rec s gone j absent' u i here
    | inr out ↦ elim (s.one.cases u here) [
      | inl e ↦ absurd (out (subst (Contains names) (sym e) s.of_names))
      | inr before ↦ (
          let level = same u.page in
          ends_out l l' logical names f.rec s u before out (m.ending u before (omega arith)))
    ]
  ]

  -- each record answers for the same ones
  same_answers : (x r : Rec) → answers_for Bpcc l' logical x r ≡ answers_for Bpcc l logical x r
  same_answers x r =
      let g : ℕ → ℕ → Bool = λ c v. ltb c r.version && eqb x.page r.next.page && straddles x r.next.version
      && eqb x.version v in
      ap (λ c. g c (responsible Bpcc l' logical r.next)) (same r.page)
      ∙ ap (g (cur Bpcc l logical r.page)) (same_responsible r.next)

  -- so the same records are held
  partial_held : IsInserted l f l' → (x : Rec) → is_held Bpcc l' logical x ≡ is_held Bpcc l logical x
  partial_held ins x =
      let test : Found → Bool = λ g. answers_for Bpcc l' logical x g.rec in
      let none : answers_for Bpcc l' logical x f.rec ≡ false =
      false_from_ne_true (answers_for Bpcc l' logical x f.rec) (λ h.
      let up = above f.rec.next (next_in l l' logical names f.rec s) in
      let below = answered_below l' logical x f.rec (answer_of l' logical x f.rec h) in
      let level = same f.rec.next.page in
      omega arith) in
      inserted_any test l l' f ins ∙ ap (λ b. b || list_any test l) none
      ∙ any_same test (λ g. answers_for Bpcc l logical x g.rec) l (λ g. same_answers x g.rec)

-- the law of a write that leaves a name absent
pub bpcc_partial_write : PartialWriteLaw Bpcc
bpcc_partial_write l l' logical names f sound w any =
    let s = step_of Bpcc l l' logical names f w in
    let m = sound_map Bpcc l logical sound w.scanned in
    let gone = absent_name l' names any in
    let back = back_of_step Bpcc l l' logical names f w f.rec.next (next_after l l' logical names f.rec s) in
    let old = bpcc_old_links l l' logical names f.rec s m back in
    let own = bpcc_own_cur l l' logical names f.rec s m back gone.0 gone.1 gone.2 in
    let same = partial_cur Bpcc l l' logical names f s m old own gone.0 gone.1 gone.2 in
    record {
      sound = sound_list Bpcc l' logical (partial_map Bpcc l l' logical names f s m old own gone.0 gone.1
          gone.2 w.added back
          (partial_loose l l' logical names f s m back same gone.0 gone.1 gone.2)
          (partial_ending l l' logical names f s m back same gone.0 gone.1 gone.2));
      same_current = λ page below. same page;
      same_held = partial_held l l' logical names f s m back same gone.0 gone.1 gone.2 w.added;
      responsible = all_from (λ g. IsLoose Bpcc l' logical g.rec →
          responsible Bpcc l' logical g.rec.next ≡ responsible Bpcc l logical g.rec.next) l'
          (λ g i loose. same_responsible l l' logical names f s m back same gone.0 gone.1 gone.2 g.rec.next);
      in_progress = record { begun = begun_on Bpcc l l' logical names f w (λ a i. same a.page); absent = any };
      others = λ others share h. others_on Bpcc l l' logical names f w others share (λ b i. same b.page) h;
    }
