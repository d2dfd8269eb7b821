-- Back Pointer Cyclic Commit: which records are loose after a write that completes its cycle, and which answer for
-- them.
use Rattle.std.proofs.Common.{◌≡◌, ℕ, ◌<◌, ◌≤◌, true, List, zip, sym, ap, ◌∙◌, inl, inr, arith, Contains}
use Rattle.std.proofs.lemmas.Bool.{cases_lt}
use Rattle.std.proofs.lemmas.List.Elements.{All-contains}
use Rattle.tx_types.specs.declared.record.Link.{Link}
use Rattle.tx_types.specs.declared.config.Protocol.{Protocol}
use Rattle.tx_types.specs.declared.config.Protocol.TheVariants.{Bpcc}
use Rattle.record_list.specs.declared.found.Found.{Found}
use Rattle.record_list.specs.Records.{newest, greatest, name_of, is_present}
use Rattle.record_list.specs.Verdict.{back_of}
use Rattle.record_list.specs.Current.{cur, straddling_upto, responsible}
use Rattle.record_list.specs.Transaction.{next_names, back_version, IsAsked, IsBegun, IsAskedAt}
use Rattle.record_list.proofs.OfFacts.Names.{greatest_bound, greatest_least, found_named, newest_bound, present_in}
use Rattle.record_list.proofs.OfFacts.SoundNames.{IsSoundMap, map_back}
use Rattle.record_list.proofs.OfWalks.Rounds.{cases_page, follows_of}
use Rattle.record_list.proofs.OfChanges.Progress.{name_newest}
use Rattle.record_list.proofs.OfChanges.OneMore.{its_back, IsStep, step_underway, old_back}
use Rattle.record_list.proofs.OfChanges.Untouched.{OldLinks}
use Rattle.record_list.proofs.OfChanges.Completing.{completed, elsewhere, was_lower}
use Rattle.straddle_sets.proofs.Straddle.{upto_is, upto_none, upto_cases, upto_le, upto_more, greatest_more}

-- a name that is present has the back version that its transaction asks for
pub name_back : (p : Protocol) (l : List Found) (logical : ℕ) (names : List Link) → IsBegun p l logical names →
    (a : Link) → Contains names a → is_present l a ≡ true → back_of l a ≡ back_version p l logical a.page
name_back p l logical names begun a i here =
    let f = found_named l a here in
    let after = follows_of names a i in
    let asks = All-contains (λ g. IsAsked p l logical names g.rec) l f.0 begun.asked f.1 in
    let pair = All-contains (IsAskedAt p l logical names f.0.rec) (zip names (next_names names)) (a, after.0)
    asks after.1 in
    sym f.4 ∙ (pair f.2).1

module _ (l l' : List Found) (logical : ℕ) (names : List Link) (f : Found) (s : IsStep l l' logical names f.rec)
    (m : IsSoundMap Bpcc l logical)
    (back : f.rec.back ≡ cur Bpcc l logical f.rec.page) (old : OldLinks Bpcc l l' logical names f.rec)
    (all : (a : Link) → Contains names a →
    is_present l' a ≡ true)
    (backs : (a : Link) → Contains names a → is_present l a ≡ true → back_of l a ≡ cur Bpcc l logical a.page) where
  -- a loose record is an old one, of a page that is none of the names', and was loose
  pub was_loose : (u : Link) → is_present l' u ≡ true → cur Bpcc l' logical u.page < u.version →
      ((a : Link) → Contains names a → a.page ≡ u.page → ⊥) × (is_present l u ≡ true)
      × (cur Bpcc l' logical u.page ≡ cur Bpcc l logical u.page)
  was_loose u here at = elim (cases_page names u.page) [
    | inl of_page ↦ (
        let a = of_page.0 in
        let done = completed Bpcc l l' logical names f s m old all a of_page.1 in
        let top = name_newest l' logical names (step_underway l l' logical names f.rec s) a of_page.1
        (all a of_page.1) in
        let bound = newest_bound l' u here in
        let level = ap (cur Bpcc l' logical) of_page.2 in
        let newest_level = ap (newest l') of_page.2 in
        absurd (omega arith))
    | inr out ↦ (
      out,
      elim (s.one.cases u here) [
        | inl e ↦ absurd (out (name_of f.rec) s.of_names (ap (λ n. n.page) (sym e)))
        | inr before ↦ before
      ],
      elsewhere Bpcc l l' logical names f s m old all u.page out,
    )
  ]

  -- at another page the same record answers
  pub answer_elsewhere : (q : Link) → ((a : Link) → Contains names a → a.page ≡ q.page → ⊥) →
      responsible Bpcc l' logical q ≡ responsible Bpcc l logical q
  answer_elsewhere q out =
      let top = cur Bpcc l' logical q.page in
      let e = s.one.greatest_is (straddling_upto top q) in
      let none = upto_none top q f.rec (λ h le. out (name_of f.rec) s.of_names h.0) in
      let more : greatest (straddling_upto top q) l' ≡ greatest (straddling_upto top q) l = omega arith in
      more ∙ ap (λ t. greatest (straddling_upto t q) l) (elsewhere Bpcc l l' logical names f s m old all q.page out)

  -- at a name's page, above the version that was current, the name's record answers
  pub answer_name : (q a : Link) → Contains names a → a.page ≡ q.page → cur Bpcc l logical q.page < q.version →
      q.version < a.version →
      responsible Bpcc l' logical q ≡ a.version
  answer_name q a i e above below =
      let top = cur Bpcc l' logical q.page in
      let level : cur Bpcc l' logical q.page ≡ a.version = ap (cur Bpcc l' logical) (sym e)
      ∙ completed Bpcc l l' logical names f s m old all a i in
      let high : greatest (straddling_upto top q) l' ≤ top =
      greatest_least (straddling_upto top q) l' top (λ g j. upto_le top q g.rec) in
      let g = found_named l' a (all a i) in
      let version : g.0.rec.version ≡ a.version = ap (λ n. n.version) g.2 in
      let back_is : back_of l' a ≡ cur Bpcc l logical a.page = elim (s.one.cases a (all a i)) [
        | inl new ↦ ap (back_of l') new ∙ its_back s.one ∙ back ∙ ap (λ n. cur Bpcc l logical n.page) (sym new)
        | inr before ↦ old_back l l' logical names f.rec s a before ∙ backs a i before
      ] in
      let low : g.0.rec.back ≡ cur Bpcc l logical q.page = g.4 ∙ back_is ∙ ap (cur Bpcc l logical) e in
      let is = upto_is top q g.0.rec (ap (λ n. n.page) g.2 ∙ e, omega arith, omega arith) (omega arith) in
      let bound = greatest_bound (straddling_upto top q) l' g.0 g.1 in
      omega arith

  -- and below it the same record as before
  pub answer_below : (q a : Link) → Contains names a → a.page ≡ q.page → q.version < cur Bpcc l logical q.page →
      responsible Bpcc l' logical q ≡ responsible Bpcc l logical q
  answer_below q a i e below =
      let top = cur Bpcc l' logical q.page in
      let c = cur Bpcc l logical q.page in
      let level : cur Bpcc l' logical q.page ≡ a.version = ap (cur Bpcc l' logical) (sym e)
      ∙ completed Bpcc l l' logical names f s m old all a i in
      let lower = was_lower Bpcc l l' logical names f s m old all a i in
      let c_is = ap (cur Bpcc l logical) e in
      let is = s.one.greatest_is (straddling_upto top q) in
      let none = upto_none top q f.rec (λ h le.
      let page = ap (cur Bpcc l logical) h.0 in
      let low = h.1 in
      omega arith) in
      let up : greatest (straddling_upto c q) l ≤ greatest (straddling_upto top q) l =
      greatest_more (straddling_upto c q) (straddling_upto top q) l (λ g j. upto_more c top q g.rec (omega arith)) in
      let down : greatest (straddling_upto top q) l ≤ greatest (straddling_upto c q) l =
      greatest_more (straddling_upto top q) (straddling_upto c q) l (λ g j. elim (upto_cases top q g.rec) [
        | inl h ↦ elim (cases_lt c g.rec.version) [
          | inl loose ↦ (
              let page = ap (cur Bpcc l logical) h.0.0 in
              let low = h.0.1 in
              let law = (m.loose (name_of g.rec) (present_in l g j) (omega arith)).0 in
              let copy = map_back m g j in
              absurd (omega arith))
          | inr le ↦ (let at = h.2 in let same = upto_is c q g.rec h.0 le in omega arith)
        ]
        | inr zero' ↦ omega arith
      ]) in
      omega arith
