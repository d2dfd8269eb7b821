-- A write that completes its cycle, for either protocol: the names become current, every other current version stays,
-- and laws 1 to 5 hold.
use Rattle.record_list.proofs.Common.{◌≡◌, ℕ, ◌<◌, ◌≤◌, true, ◌&&◌, eqb, ltb, List, refl, sym, ap, ◌∙◌, subst, inl, inr, arith, le-ltb, ne_eqb, Contains, cases_eq, cond-false, and_left, and_right, Link, Protocol, Scc, Bpcc, Found, newest, name_of, is_present, newest_name, link_of, straddles, straddling_version, straddling, cur, current_name, back_version, IsInserted}
use Rattle.record_list.proofs.OfFacts.Names.{named, same_name, greatest_least, newest_bound, present_in}
use Rattle.record_list.proofs.OfFacts.Safe.{is_clear, counts_from}
use Rattle.record_list.proofs.OfFacts.SoundNames.{IsSoundMap, LooseNames, EndingNames, clear_from}
use Rattle.record_list.proofs.OfFacts.Facts.{cur_present, cur_committed}
use Rattle.record_list.proofs.OfWalks.Rounds.{cases_in, cases_page, follows_of, follows_in}
use Rattle.record_list.proofs.OfChanges.Progress.{name_newest, name_loose, names_safe}
use Rattle.record_list.proofs.OfChanges.OneMore.{IsStep, step_underway, step_linked, old_link}
use Rattle.record_list.proofs.OfChanges.Untouched.{OldLinks, untouched_cur, bare_cur}
use Rattle.record_list.proofs.OfChanges.Partial.{clear_stays, step_copies}

-- nothing straddles the newest version of a page
pub clear_at_newest : (p : Protocol) (l : List Found) (q : Link) → newest l q.page ≤ q.version → is_clear p l q ≡ true
clear_at_newest Scc l q le = refl
clear_at_newest Bpcc l q le =
    let none : straddling l q ≤ 0 = greatest_least (straddling_version q) l 0 (λ f i.
    let off : straddling_version q f.rec ≡ 0 = cond-false (eqb f.rec.page q.page && straddles f.rec q.version)
    f.rec.version 0
    (elim (cases_eq f.rec.page q.page) [
      | inl e ↦ (
          let bound = newest_bound l (name_of f.rec) (present_in l f i) in
          let at = ap (newest l) e in
          and_right (eqb f.rec.page q.page) (straddles f.rec q.version)
          (and_right (ltb f.rec.back q.version) (ltb q.version f.rec.version)
          (le-ltb q.version f.rec.version (omega arith))))
      | inr other ↦ and_left (eqb f.rec.page q.page) (straddles f.rec q.version) (ne_eqb f.rec.page q.page other)
    ]) in
    omega arith) in
    clear_from l q (omega arith)

module _ (p : Protocol) (l l' : List Found) (logical : ℕ) (names : List Link) (f : Found)
    (s : IsStep l l' logical names f.rec) (m : IsSoundMap p l logical)
    (old : OldLinks p l l' logical names f.rec) (all : (a : Link) → Contains names a → is_present l' a ≡ true) where
  -- each name is current
  pub completed : (a : Link) → Contains names a → cur p l' logical a.page ≡ a.version
  completed a i =
      let t = step_underway l l' logical names f.rec s in
      let counts = counts_from p l' logical (step_linked l l' logical names f.rec s m.linked) (λ page. (b : Link)
      × Contains names b ×
      (b.page ≡ page)) (names_safe l' logical names t p all) a.page (a, i, refl) in
      cur_committed p l' logical a.page counts.1 ∙ name_newest l' logical names t a i (all a i)

  -- and each name was above the current version of its page
  pub was_lower : (a : Link) → Contains names a → cur p l logical a.page < a.version
  was_lower a i = name_loose l logical names s.underway p m (name_of f.rec) s.of_names s.one.fresh a i

  -- every other current version stays
  pub elsewhere : (page : ℕ) → ((a : Link) → Contains names a → a.page ≡ page → ⊥) →
      cur p l' logical page ≡ cur p l logical page
  elsewhere page out =
      let off : page ≡ f.rec.page → ⊥ = λ e. out (name_of f.rec) s.of_names (sym e) in
      elim (cases_eq (newest l page) 0) [
        | inl none ↦ bare_cur p l l' logical names f.rec s m.linked old page none off
        | inr some ↦ untouched_cur p l l' logical names f.rec s m.linked old page (
          omega arith,
          off,
          λ i. out (newest_name l page) i refl,
        )
      ]

  -- no current version falls
  pub cur_rises : (page : ℕ) → cur p l logical page ≤ cur p l' logical page
  cur_rises page = elim (cases_page names page) [
    | inl at ↦ (let low = was_lower at.0 at.1 in let done = completed at.0 at.1 in
        subst (λ q. cur p l logical q ≤ cur p l' logical q) at.2 (omega arith))
    | inr out ↦ (let same = elsewhere page out in omega arith)
  ]

  -- and the laws hold, where the last two do
  pub completing_map : IsInserted l f l' → f.rec.back ≡ back_version p l logical f.rec.page → LooseNames p l' logical →
      EndingNames p l' logical →
      IsSoundMap p l' logical
  completing_map ins back loose ending = record {
    copies = step_copies l l' logical names f ins s m.copies;
    linked = step_linked l l' logical names f.rec s m.linked;
    present = λ page has. elim (cases_page names page) [
      | inl at ↦ inr (subst (λ q. is_present l' (current_name p l' logical q) ≡ true) at.2
          (subst (λ v. is_present l' (named at.0.page v) ≡ true) (sym (completed at.0 at.1)) (all at.0 at.1)))
      | inr out ↦ elim (cur_present p l logical m page) [
        | inl none ↦ inl (elsewhere page out ∙ none)
        | inr here ↦ inr (subst (λ v. is_present l' (named page v) ≡ true) (sym (elsewhere page out))
            (s.one.kept (current_name p l logical page) here))
      ]
    ];
    counted = λ u here at. elim (cases_in names u) [
      | inl i ↦ (
          let after = follows_of names u i in
          let ends = follows_in names u after.0 after.1 in
          let t = step_underway l l' logical names f.rec s in
          let done = completed after.0 ends.1 in
          let top = name_newest l' logical names t after.0 ends.1 (all after.0 ends.1) in
          subst (λ q. (q.version ≤ cur p l' logical q.page) × (is_clear p l' q ≡ true))
          (sym (t.asked u after.0 after.1 here))
          (omega arith, clear_at_newest p l' after.0 (omega arith)))
      | inr out ↦ elim (s.one.cases u here) [
        | inl e ↦ absurd (out (subst (Contains names) (sym e) s.of_names))
        | inr before ↦ elim (cases_page names u.page) [
          | inl of_page ↦ (
              let done = completed of_page.0 of_page.1 in
              let same : u ≡ of_page.0 = same_name u of_page.0 (sym of_page.2) (at
              ∙ ap (cur p l' logical) (sym of_page.2) ∙ done) in
              absurd (out (subst (Contains names) (sym same) of_page.1)))
          | inr off ↦ (
              let law = m.counted u before (at ∙ elsewhere u.page off) in
              let link = link_of l u in
              let low = law.0 in
              let rises = cur_rises link.page in
              subst (λ q. (q.version ≤ cur p l' logical q.page) × (is_clear p l' q ≡ true))
              (sym (old_link l l' logical names f.rec s u before))
              (omega arith, clear_stays p l l' logical names f.rec s back link law.1 law.0))
        ]
      ]
    ];
    loose = loose;
    ending = ending;
  }
