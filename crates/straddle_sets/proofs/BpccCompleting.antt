-- Back Pointer Cyclic Commit: what a write keeps that completes its cycle.
use Rattle.std.proofs.Common.{◌≡◌, ◌≢◌, ℕ, ◌<◌, true, ◌⊎◌, List, Contains, refl, sym, ap, ◌∙◌, subst, inl, inr, arith}
use Rattle.std.proofs.lemmas.Bool.{cases_order}
use Rattle.std.proofs.lemmas.List.Elements.{All-contains}
use Rattle.list_lemmas.proofs.Membership.{all_from}
use Rattle.list_lemmas.proofs.Tests.{any_of, any_from}
use Rattle.tx_types.specs.declared.record.Link.{Link}
use Rattle.tx_types.specs.declared.record.Rec.{Rec}
use Rattle.tx_types.specs.declared.config.Protocol.TheVariants.{Bpcc}
use Rattle.record_list.specs.declared.found.Found.{Found}
use Rattle.record_list.specs.Records.{name_of, is_present}
use Rattle.record_list.specs.Verdict.{link_of, back_of}
use Rattle.record_list.specs.Current.{cur, IsLoose, responsible, answers_for, is_held}
use Rattle.record_list.specs.Changes.{IsInserted, IsOvertaken, IsAnsweredAfter, NewResponsible, CompletingWriteLaw}
use Rattle.record_list.proofs.OfFacts.Names.{same_name, present_in}
use Rattle.record_list.proofs.OfFacts.SoundNames.{IsSoundMap, LooseNames, EndingNames, sound_map, sound_list, map_link}
use Rattle.record_list.proofs.OfWalks.Rounds.{cases_page}
use Rattle.record_list.proofs.OfChanges.OneMore.{IsStep, inserted_in, old_link, old_back, next_after}
use Rattle.record_list.proofs.OfChanges.Untouched.{OldLinks}
use Rattle.record_list.proofs.OfChanges.Keeping.{step_of, back_of_step, page_apart, others_on}
use Rattle.record_list.proofs.OfChanges.Completing.{completed, was_lower, elsewhere, completing_map}
use Rattle.straddle_sets.proofs.BpccLinks.{bpcc_old_links}
use Rattle.straddle_sets.proofs.BpccAnswers.{name_back, was_loose, answer_elsewhere, answer_name, answer_below}
use Rattle.straddle_sets.proofs.Ending.{ends_out}
use Rattle.record_list.proofs.OfFacts.Held.{answer_of, answers}
use Rattle.record_list.proofs.OfLosses.LossCounted.{answered_below}

module _ (l l' : List Found) (logical : ℕ) (names : List Link) (f : Found) (s : IsStep l l' logical names f.rec)
    (m : IsSoundMap Bpcc l logical)
    (back : f.rec.back ≡ cur Bpcc l logical f.rec.page) (old : OldLinks Bpcc l l' logical names f.rec)
    (all : (a : Link) → Contains names a →
    is_present l' a ≡ true)
    (backs : (a : Link) → Contains names a → is_present l a ≡ true → back_of l a ≡ cur Bpcc l logical a.page) where
  -- law 6 afterwards
  completing_loose : LooseNames Bpcc l' logical
  completing_loose u here at =
      let was = was_loose l l' logical names f s m back old all backs u here at in
      let out : Contains names u → ⊥ = λ i. was.0 u i refl in
      let level = was.2 in
      let law = m.loose u was.1 (omega arith) in
      let q = link_of l u in
      let link = old_link l l' logical names f.rec s u was.1 in
      let both : (q.version ≡ cur Bpcc l' logical q.page → ⊥)
      × (q.version < cur Bpcc l' logical q.page → responsible Bpcc l' logical q ≡ 0 → ⊥) =
      elim (cases_page names q.page) [
        | inl of_page ↦ (
            let a = of_page.0 in
            let low = (s.underway.lower u was.1 out a of_page.1).1 (sym of_page.2) in
            let done : cur Bpcc l' logical q.page ≡ a.version = ap (cur Bpcc l' logical) (sym of_page.2) ∙
            completed Bpcc l l' logical names f s m old all a of_page.1 in (
              λ x. omega arith,
              λ less none. elim (cases_order q.version (cur Bpcc l logical q.page)) [
                | inl at_current ↦ law.1 at_current
                | inr (inl below) ↦ law.2 below
                    (sym (answer_below l l' logical names f s m back old all backs q a of_page.1 of_page.2 below)
                    ∙ none)
                | inr (inr above) ↦ (let e = answer_name l l' logical names f s m back old all backs q a of_page.1
                    of_page.2 above low in omega arith)
              ],
            ))
        | inr off ↦ (
            let same = elsewhere Bpcc l l' logical names f s m old all q.page off in (
              λ x. law.1 (x ∙ same),
              λ less none. law.2 (omega arith)
                  (sym (answer_elsewhere l l' logical names f s m back old all backs q off) ∙ none),
            ))
      ] in (
        old_back l l' logical names f.rec s u was.1 ∙ law.0 ∙ sym level,
        subst (λ z. z.version ≡ cur Bpcc l' logical z.page → ⊥) (sym link) both.0,
        subst (λ z. z.version < cur Bpcc l' logical z.page → responsible Bpcc l' logical z ≡ 0 → ⊥) (sym link) both.1,
      )

  -- law 7 afterwards
  completing_ending : EndingNames Bpcc l' logical
  completing_ending u here at =
      let was = was_loose l l' logical names f s m back old all backs u here at in
      let level = was.2 in
      ends_out l l' logical names f.rec s u was.1 (λ i. was.0 u i refl) (m.ending u was.1 (omega arith))

  -- a record that is held was held, or is one of the names'
  completing_held : IsInserted l f l' → (x : Rec) → is_held Bpcc l' logical x ≡ true → (is_held Bpcc l logical x ≡ true)
      ⊎ Contains names (name_of x)
  completing_held ins x held =
      let found = any_of (λ g. answers_for Bpcc l' logical x g.rec) l' held in
      let g = found.0 in
      let a = answer_of l' logical x g.rec found.2 in
      let was = was_loose l l' logical names f s m back old all backs (name_of g.rec)
      (present_in l' g found.1) a.loose in
      let level = was.2 in
      let loose' = a.loose in
      let q = g.rec.next in
      let below' = answered_below l' logical x g.rec a in
      let inside : Contains l g = elim (inserted_in l l' f ins g found.1) [
        | inl e ↦ absurd (was.0 (name_of f.rec) s.of_names (ap (λ x. x.rec.page) e))
        | inr i ↦ i
      ] in
      let before : cur Bpcc l logical g.rec.page < g.rec.version = omega arith in
      let held_if : responsible Bpcc l logical q ≡ x.version → is_held Bpcc l logical x ≡ true = λ version.
      any_from (λ h. answers_for Bpcc l logical x h.rec) l g inside (answers l logical x g.rec
      (record { loose = before; page = a.page; from = a.from; under = a.under; version = version })) in
      elim (cases_page names q.page) [
        | inl of_page ↦ (
            let n = of_page.0 in
            let link = map_link m g inside in
            let law = (m.loose (name_of g.rec) was.1 before).1 in
            let low : q.version < n.version = subst (λ z. z.page ≡ n.page → z.version < n.version) (sym link)
            (s.underway.lower (name_of g.rec) was.1 (λ i. was.0 (name_of g.rec) i refl) n of_page.1).1
            (sym of_page.2) in
            elim (cases_order q.version (cur Bpcc l logical q.page)) [
              | inl at ↦ absurd (law (subst (λ z. z.version ≡ cur Bpcc l logical z.page) link at))
              | inr (inl below) ↦ inl
                  (held_if (sym (answer_below l l' logical names f s m back old all backs q n of_page.1 of_page.2 below)
                  ∙ a.version))
              | inr (inr above) ↦ (
                  let e : n ≡ name_of x = same_name n (name_of x) (of_page.2 ∙ a.page)
                  (sym (answer_name l l' logical names f s m back old all backs q n of_page.1 of_page.2 above low)
                  ∙ a.version) in
                  inr (subst (Contains names) e of_page.1))
            ])
        | inr off ↦ (
            inl (held_if (sym (answer_elsewhere l l' logical names f s m back old all backs q off) ∙ a.version)))
      ]

  -- which record is responsible for each that is loose
  completing_answers : IsInserted l f l' → NewResponsible Bpcc l l' logical names
  completing_answers ins = all_from (λ g. IsLoose Bpcc l' logical g.rec →
      IsAnsweredAfter l l' logical names g.rec) l' (λ g i at.
      let was = was_loose l l' logical names f s m back old all backs (name_of g.rec) (present_in l' g i) at in
      let level = was.2 in
      let q = g.rec.next in
      let inside : Contains l g = elim (inserted_in l l' f ins g i) [
        | inl e ↦ absurd (was.0 (name_of f.rec) s.of_names (ap (λ x. x.rec.page) e))
        | inr j ↦ j
      ] in
      let link : q ≡ link_of l (name_of g.rec) = map_link m g inside in
      let other = (m.loose (name_of g.rec) was.1 (omega arith)).1 in record {
        anew = all_from (λ a. IsOvertaken l logical q a → responsible Bpcc l' logical q ≡ a.version) names (λ a j over.
            let low : q.version < a.version = subst (λ z. z.page ≡ a.page → z.version < a.version) (sym link)
            (s.underway.lower (name_of g.rec) was.1 (λ k. was.0 (name_of g.rec) k refl) a j).1 (sym over.0) in
            answer_name l l' logical names f s m back old all backs q a j over.0 over.1 low);
        still = λ none. elim (cases_page names q.page) [
          | inl of_page ↦ elim (cases_order q.version (cur Bpcc l logical q.page)) [
            | inl same ↦ absurd (other (subst (λ z. z.version ≡ cur Bpcc l logical z.page) link same))
            | inr (inl below) ↦ answer_below l l' logical names f s m back old all backs q of_page.0 of_page.1
                of_page.2 below
            | inr (inr above) ↦ absurd (All-contains (λ a. IsOvertaken l logical q a → ⊥) names of_page.0 none of_page.1
                (of_page.2, above))
          ]
          | inr off ↦ answer_elsewhere l l' logical names f s m back old all backs q off
        ];
      })

-- the law of a write that completes its cycle
pub bpcc_completing_write : CompletingWriteLaw Bpcc
bpcc_completing_write l l' logical names f sound w every =
    let s = step_of Bpcc l l' logical names f w in
    let m = sound_map Bpcc l logical sound w.scanned in
    let back = back_of_step Bpcc l l' logical names f w f.rec.next (next_after l l' logical names f.rec s) in
    let old = bpcc_old_links l l' logical names f.rec s m back in
    let all : (a : Link) → Contains names a → is_present l' a ≡ true = λ a i. All-contains (λ n. is_present l' n ≡ true)
    names a every i in
    let backs = name_back Bpcc l logical names w.in_progress.begun in
    record {
      sound = sound_list Bpcc l' logical (completing_map Bpcc l l' logical names f s m old all w.added back
          (completing_loose l l' logical names f s m back old all backs)
          (completing_ending l l' logical names f s m back old all backs));
      committed = all_from (λ n. cur Bpcc l' logical n.page ≡ n.version) names
          (completed Bpcc l l' logical names f s m old all);
      elsewhere = λ page below out. elsewhere Bpcc l l' logical names f s m old all page
          (λ a i. All-contains (λ n. n.page ≢ page) names a out i);
      rises = all_from (λ n. cur Bpcc l logical n.page < n.version) names
          (was_lower Bpcc l l' logical names f s m old all);
      held = completing_held l l' logical names f s m back old all backs w.added;
      responsible = completing_answers l l' logical names f s m back old all backs w.added;
      others = λ others share h. others_on Bpcc l l' logical names f w others share
          (λ b j. elsewhere Bpcc l l' logical names f s m old all b.page
          (λ a i e. page_apart Bpcc l l' logical names f w others share a b i j e)) h;
    }
