-- A write that leaves a name absent, for either protocol: every current version stays, and laws 1 to 5 hold.
use Rattle.record_list.proofs.Common.{◌≡◌, ℕ, ◌≤◌, true, false, ◌&&◌, eqb, ltb, List, refl, sym, ap, ◌∙◌, subst, inl, inr, arith, le-ltb, Contains, cases_eq, cond-false, and_left, and_right, Link, Rec, Protocol, Scc, Bpcc, Found, newest, name_of, is_present, newest_name, record_named, link_of, straddles, straddling_version, cur, current_name, back_version, IsInserted}
use Rattle.record_list.proofs.OfFacts.Names.{present_in, named, newest_present}
use Rattle.record_list.proofs.OfFacts.Safe.{is_clear}
use Rattle.record_list.proofs.OfFacts.SoundNames.{IsSoundMap, LooseNames, EndingNames, clear_from, clear_gives}
use Rattle.record_list.proofs.OfFacts.Facts.{cur_present}
use Rattle.record_list.proofs.OfWalks.Rounds.{cases_in}
use Rattle.record_list.proofs.OfChanges.Progress.{name_loose}
use Rattle.record_list.proofs.OfChanges.OneMore.{inserted_in, IsStep, step_linked, clear_else, old_record, old_link}
use Rattle.record_list.proofs.OfChanges.Untouched.{OldLinks, untouched_cur, bare_cur, named_cur}
use Rattle.record_list.proofs.OfChanges.Keeping.{absent_before}

-- the new record straddles no link that is at most the current version of its page
pub clear_stays : (p : Protocol) (l l' : List Found) (logical : ℕ) (names : List Link) (r : Rec) →
    IsStep l l' logical names r →
    r.back ≡ back_version p l logical r.page →
    (q : Link) → is_clear p l q ≡ true → q.version ≤ cur p l logical q.page → is_clear p l' q ≡ true
clear_stays Scc l l' logical names r s back q clear le = refl
clear_stays Bpcc l l' logical names r s back q clear le = elim (cases_eq q.page r.page) [
  | inl into ↦ (
      let e = s.one.greatest_is (straddling_version q) in
      let none = clear_gives l q clear in
      let at = ap (cur Bpcc l logical) into in
      let off : straddling_version q r ≡ 0 = cond-false (eqb r.page q.page && straddles r q.version) r.version 0
      (and_right (eqb r.page q.page) (straddles r q.version) (and_left (ltb r.back q.version) (ltb q.version r.version)
      (le-ltb r.back q.version (omega arith)))) in
      clear_from l' q (omega arith))
  | inr off ↦ clear_else l l' logical names r s Bpcc q off ∙ clear
]

-- each record of the longer list agrees with its name
pub step_copies : (l l' : List Found) (logical : ℕ) (names : List Link) (f : Found) → IsInserted l f l' →
    IsStep l l' logical names f.rec →
    ((g : Found) → Contains l g → g.rec ≡ record_named l (name_of g.rec)) → (g : Found) → Contains l' g →
    g.rec ≡ record_named l' (name_of g.rec)
step_copies l l' logical names f ins s copies g i = elim (inserted_in l l' f ins g i) [
  | inl e ↦ subst (λ x. x.rec ≡ record_named l' (name_of x.rec)) e (sym s.one.its)
  | inr j ↦ copies g j ∙ sym (old_record l l' logical names f.rec s (name_of g.rec) (present_in l g j))
]

module _ (p : Protocol) (l l' : List Found) (logical : ℕ) (names : List Link) (f : Found)
    (s : IsStep l l' logical names f.rec) (m : IsSoundMap p l logical)
    (old : OldLinks p l l' logical names f.rec) (own : cur p l' logical f.rec.page ≡ cur p l logical f.rec.page)
    (gone : Link) (j : Contains names gone) (absent' : is_present l' gone ≡ false) where
  -- every current version stays
  pub partial_cur : (page : ℕ) → cur p l' logical page ≡ cur p l logical page
  partial_cur page = elim (cases_eq page f.rec.page) [
    | inl e ↦ subst (λ q. cur p l' logical q ≡ cur p l logical q) (sym e) own
    | inr off ↦ elim (cases_eq (newest l page) 0) [
      | inl none ↦ bare_cur p l l' logical names f.rec s m.linked old page none off
      | inr some ↦ (
          let n = newest_name l page in
          elim (cases_in names n) [
            | inl i ↦ named_cur p l l' logical names f.rec s m.linked old gone j absent' n i
                (newest_present l page (omega arith)) off refl
                (absent_before l l' logical names f.rec s gone absent')
            | inr out ↦ untouched_cur p l l' logical names f.rec s m.linked old page (omega arith, off, out)
          ])
    ]
  ]

  -- and the laws hold, where the last two do
  pub partial_map : IsInserted l f l' → f.rec.back ≡ back_version p l logical f.rec.page → LooseNames p l' logical →
      EndingNames p l' logical →
      IsSoundMap p l' logical
  partial_map ins back loose ending = record {
    copies = step_copies l l' logical names f ins s m.copies;
    linked = step_linked l l' logical names f.rec s m.linked;
    present = λ page has. elim (cur_present p l logical m page) [
      | inl none ↦ inl (partial_cur page ∙ none)
      | inr here ↦ inr (subst (λ v. is_present l' (named page v) ≡ true) (sym (partial_cur page))
          (s.one.kept (current_name p l logical page) here))
    ];
    counted = λ u here at. elim (s.one.cases u here) [
      | inl e ↦ (
          let below = name_loose l logical names s.underway p m gone j
          (absent_before l l' logical names f.rec s gone absent') (name_of f.rec) s.of_names in
          let version = ap (λ n. n.version) e in
          let page = ap (λ n. cur p l' logical n.page) e in
          let same = partial_cur f.rec.page in
          absurd (omega arith))
      | inr before ↦ (
          let law = m.counted u before (at ∙ partial_cur u.page) in
          let link = link_of l u in
          let same = partial_cur link.page in
          let low = law.0 in
          subst (λ q. (q.version ≤ cur p l' logical q.page) × (is_clear p l' q ≡ true))
          (sym (old_link l l' logical names f.rec s u before))
          (omega arith, clear_stays p l l' logical names f.rec s back link law.1 law.0))
    ];
    loose = loose;
    ending = ending;
  }
