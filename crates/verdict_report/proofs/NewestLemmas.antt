-- The newest record of each page, kept in a table as a list is gone through.
use Rattle.verdict_report.proofs.Common.{◌≡◌, ℕ, ◌+◌, ◌<◌, ◌≤◌, Bool, true, false, cond, ◌||◌, Some, None, List, [], ◌∷◌, ◌++◌, length, take, refl, sym, ap, ◌∙◌, subst, inl, inr, arith, cases_Bool, cases_lt, cond-true, cond-false, Link, Found, newest, newest_name, link_of, has_record}
use Rattle.std.proofs.Common.{max, ◌&&◌, eqb, ltb, Option, is_some}
use Rattle.std.proofs.Common.{get_or, set, eqb-true, eq-eqb, lt-ltb, get_or-set_same}
use Rattle.std.proofs.Common.{get_or-set_other}
use Rattle.std.proofs.Math.Nat.{max-eq_left, max-eq_right}
use Rattle.std.proofs.lemmas.Bool.{false≢true, cases_eq, and_parts, ne_eqb, le-ltb, or_left, or_right, or_parts}
use Rattle.std.proofs.lemmas.Grind.{take_at_read}
use Rattle.std.proofs.lemmas.List.Folds.{list_any-append}
use Rattle.std.proofs.lemmas.List.Recursion.{max_push}
use Rattle.list_lemmas.proofs.Values.{or_second}
use Rattle.tx_types.specs.declared.record.Rec.{Rec}
use Rattle.record_list.specs.Records.{greatest, version_of, has_name, is_present, nothing}
use Rattle.record_list.specs.Verdict.{back_of}
use Rattle.record_list.proofs.OfFacts.Names.{newest_bound, has_own_name, named}
use Rattle.verdict_report.specs.Newest.{IsNewestRecord, KeepsNewest, kept_at, newer, version_in, link_in, back_in}

-- the page of a present name has a record
present_page : (xs : List Found) (u : Link) → is_present xs u ≡ true → has_record xs u.page ≡ true
present_page [] u here = absurd (false≢true here)
present_page (g ∷ gs) u here = elim (cases_Bool (has_name u g.rec)) [
  | inl e ↦ or_left (eqb g.rec.page u.page) _ (and_parts (eqb g.rec.page u.page) (eqb g.rec.version u.version) e).0
  | inr e ↦ or_right (eqb g.rec.page u.page) _ (present_page gs u
      (or_second (has_name u g.rec) (is_present gs u) e here))
]

-- what a name leads to in a list with one record more at its end
record Leads (xs : List Found) (u : Link) (present : Bool) (link : Link) (back : ℕ) : Type 0 where
  present_is : is_present xs u ≡ present
  link_is : link_of xs u ≡ link
  back_is : back_of xs u ≡ back

-- a name that the new record does not have leads where it did
other_name : (xs : List Found) (f : Found) (u : Link) → has_name u f.rec ≡ false →
    Leads (xs ++ f ∷ []) u (is_present xs u) (link_of xs u) (back_of xs u)
other_name [] f u h = record {
  present_is = ap (λ b. b || false) h;
  link_is = cond-false (has_name u f.rec) f.rec.next u h;
  back_is = cond-false (has_name u f.rec) f.rec.back 0 h;
}
other_name (g ∷ gs) f u h =
    let rest = other_name gs f u h in
    record {
      present_is = ap (λ b. has_name u g.rec || b) rest.present_is;
      link_is = ap (λ n. cond (has_name u g.rec) g.rec.next n) rest.link_is;
      back_is = ap (λ n. cond (has_name u g.rec) g.rec.back n) rest.back_is;
    }

-- an absent name that it has leads where that does
new_name : (xs : List Found) (f : Found) (u : Link) → is_present xs u ≡ false → has_name u f.rec ≡ true →
    Leads (xs ++ f ∷ []) u true f.rec.next f.rec.back
new_name [] f u out h = record {
  present_is = ap (λ b. b || false) h;
  link_is = cond-true (has_name u f.rec) f.rec.next u h;
  back_is = cond-true (has_name u f.rec) f.rec.back 0 h;
}
new_name (g ∷ gs) f u out h =
    let parts = or_parts (has_name u g.rec) (is_present gs u) out in
    let rest = new_name gs f u parts.1 h in
    record {
      present_is = or_right (has_name u g.rec) _ rest.present_is;
      link_is = cond-false (has_name u g.rec) g.rec.next _ parts.0 ∙ rest.link_is;
      back_is = cond-false (has_name u g.rec) g.rec.back _ parts.0 ∙ rest.back_is;
    }

-- a name that was there leads where it did
old_name : (xs : List Found) (f : Found) (u : Link) → is_present xs u ≡ true →
    Leads (xs ++ f ∷ []) u true (link_of xs u) (back_of xs u)
old_name [] f u here = absurd (false≢true here)
old_name (g ∷ gs) f u here = elim (cases_Bool (has_name u g.rec)) [
  | inl e ↦ record {
    present_is = or_left (has_name u g.rec) _ e;
    link_is = cond-true (has_name u g.rec) g.rec.next _ e ∙ sym (cond-true (has_name u g.rec) g.rec.next _ e);
    back_is = cond-true (has_name u g.rec) g.rec.back _ e ∙ sym (cond-true (has_name u g.rec) g.rec.back _ e);
  }
  | inr e ↦ (let rest = old_name gs f u (or_second (has_name u g.rec) (is_present gs u) e here) in
      record {
        present_is = or_right (has_name u g.rec) _ rest.present_is;
        link_is = ap (λ n. cond (has_name u g.rec) g.rec.next n) rest.link_is;
        back_is = ap (λ n. cond (has_name u g.rec) g.rec.back n) rest.back_is;
      })
]

newest_push : (xs : List Found) (f : Found) (page : ℕ) →
    newest (xs ++ f ∷ []) page ≡ max (newest xs page) (version_of page f.rec)
newest_push xs f page = max_push (greatest (version_of page)) (λ g. version_of page g.rec) refl (λ _ _. refl) xs f

record_push : (xs : List Found) (f : Found) (page : ℕ) → has_record (xs ++ f ∷ []) page
    ≡ (has_record xs page || (eqb f.rec.page page || false))
record_push xs f page = list_any-append (λ g. eqb g.rec.page page) xs (f ∷ [])

-- what is kept where the names are known
newest_from : (xs : List Found) (page version : ℕ) (kept : Option Rec) → newest xs page ≡ version →
    is_some kept ≡ has_record xs page →
    version_in kept ≡ version → Leads xs (named page version) (is_some kept) (link_in (named page version) kept)
    (back_in kept) →
    IsNewestRecord xs page kept
newest_from xs page version kept e has is leads =
    let name : named page version ≡ newest_name xs page = ap (named page) (sym e) in
    record {
      found = has;
      present = sym leads.present_is ∙ ap (is_present xs) name;
      version = is ∙ sym e;
      link = ap (λ u. link_in u kept) (sym name) ∙ sym leads.link_is ∙ ap (link_of xs) name;
      back = sym leads.back_is ∙ ap (back_of xs) name;
    }

module _ (xs : List Found) (f : Found) (page : ℕ) where
  -- a record of another page
  page_else : (kept : Option Rec) → IsNewestRecord xs page kept → eqb f.rec.page page ≡ false →
      IsNewestRecord (xs ++ f ∷ []) page kept
  page_else kept was off =
      let none : version_of page f.rec ≡ 0 = cond-false (eqb f.rec.page page) f.rec.version 0 off in
      let leads = other_name xs f (newest_name xs page) (ap (λ b. b && eqb f.rec.version (newest xs page)) off) in
      newest_from (xs ++ f ∷ []) page (newest xs page) kept
      (newest_push xs f page ∙ ap (λ n. max (newest xs page) n) none ∙ max-eq_left (omega arith))
      (was.found ∙ sym (record_push xs f page ∙ ap (λ b. has_record xs page || (b || false)) off
      ∙ or_none (has_record xs page)))
      was.version
      (record {
        present_is = leads.present_is ∙ sym was.present;
        link_is = leads.link_is ∙ sym was.link;
        back_is = leads.back_is ∙ sym was.back;
      })
    where
      or_none : (b : Bool) → (b || (false || false)) ≡ b
      or_none true = refl
      or_none false = refl

  -- a record of the page that becomes its newest one
  page_new : eqb f.rec.page page ≡ true → is_present xs (named page f.rec.version) ≡ false →
      newest xs page ≤ f.rec.version →
      IsNewestRecord (xs ++ f ∷ []) page (Some f.rec)
  page_new own out above =
      let version : version_of page f.rec ≡ f.rec.version = cond-true (eqb f.rec.page page) f.rec.version 0 own in
      newest_from (xs ++ f ∷ []) page f.rec.version (Some f.rec)
      (newest_push xs f page ∙ ap (λ n. max (newest xs page) n) version ∙ max-eq_right above)
      (sym (record_push xs f page ∙ or_right (has_record xs page) _ (ap (λ b. b || false) own)))
      refl
      (new_name xs f (named page f.rec.version) out (has_own_name (named page f.rec.version) f.rec
      (ap (λ p. named p f.rec.version) (eqb-true f.rec.page page own))))

  -- a record of the page that is no newer than the one that is kept
  page_old : (r : Rec) → IsNewestRecord xs page (Some r) → eqb f.rec.page page ≡ true → f.rec.version ≤ r.version →
      IsNewestRecord (xs ++ f ∷ []) page (Some r)
  page_old r was own below =
      let version : version_of page f.rec ≡ f.rec.version = cond-true (eqb f.rec.page page) f.rec.version 0 own in
      let leads = old_name xs f (newest_name xs page) (sym was.present) in
      let at = was.version in
      newest_from (xs ++ f ∷ []) page (newest xs page) (Some r)
      (newest_push xs f page ∙ ap (λ n. max (newest xs page) n) version ∙ max-eq_left (omega arith))
      (sym (record_push xs f page ∙ or_right (has_record xs page) _ (ap (λ b. b || false) own)))
      was.version
      (record {
        present_is = leads.present_is;
        link_is = leads.link_is ∙ sym was.link;
        back_is = leads.back_is
            ∙ sym was.back;
      })

  -- a name above the newest version is absent
  newer_out : (version : ℕ) → version ≡ newest xs page → version < f.rec.version →
      is_present xs (named page f.rec.version) ≡ false
  newer_out version e less = elim (cases_Bool (is_present xs (named page f.rec.version))) [
    | inl here ↦ (let bound = newest_bound xs (named page f.rec.version) here in absurd (omega arith))
    | inr out ↦ out
  ]

  -- a record of the page
  page_own : (kept : Option Rec) → IsNewestRecord xs page kept → eqb f.rec.page page ≡ true →
      IsNewestRecord (xs ++ f ∷ []) page (newer kept f.rec)
  page_own None was own = page_new own (nowhere f.rec.version) (let e = was.version in omega arith)
    where
      nowhere : (version : ℕ) → is_present xs (named page version) ≡ false
      nowhere version = elim (cases_Bool (is_present xs (named page version))) [
        | inl here ↦ absurd (false≢true (was.found ∙ present_page xs (named page version) here))
        | inr out ↦ out
      ]
  page_own (Some r) was own = elim (cases_lt r.version f.rec.version) [
    | inl less ↦ subst (IsNewestRecord (xs ++ f ∷ []) page)
        (sym (cond-true (ltb r.version f.rec.version) (Some f.rec) (Some r)
        (lt-ltb r.version f.rec.version less))) (page_new own (newer_out r.version was.version less)
        (let e = was.version in omega arith))
    | inr le ↦ subst (IsNewestRecord (xs ++ f ∷ []) page)
        (sym (cond-false (ltb r.version f.rec.version) (Some f.rec) (Some r)
        (le-ltb r.version f.rec.version le))) (page_old r was own le)
  ]

  -- a record more
  pub newest_record_push : (kept : Option Rec) → IsNewestRecord xs page kept → IsNewestRecord (xs ++ f ∷ []) page
      (cond (eqb f.rec.page page) (newer kept f.rec) kept)
  newest_record_push kept was = elim (cases_Bool (eqb f.rec.page page)) [
    | inl own ↦ subst (IsNewestRecord (xs ++ f ∷ []) page)
        (sym (cond-true (eqb f.rec.page page) (newer kept f.rec) kept own)) (page_own kept was own)
    | inr off ↦ subst (IsNewestRecord (xs ++ f ∷ []) page)
        (sym (cond-false (eqb f.rec.page page) (newer kept f.rec) kept off)) (page_else kept was off)
  ]

-- an empty table keeps the records of an empty list
pub keeps_none : (records : List (Option Rec)) → records ≡ [] → KeepsNewest [] records
keeps_none records none page = rw none (record {
  found = refl;
  present = refl;
  version = refl;
  link = refl;
  back = refl;
})

-- a table goes on with one record more
pub keeps_more : (xs : List Found) (i : ℕ) (before after : List (Option Rec)) → i < length xs →
    KeepsNewest (take i xs) before →
    ((page : ℕ) → kept_at after page ≡ cond (eqb (get_or xs i nothing).rec.page page)
    (newer (kept_at before page) (get_or xs i nothing).rec)
    (kept_at before page)) →
    KeepsNewest (take (i + 1) xs) after
keeps_more xs i before after h was is page =
    let f = get_or xs i nothing in
    let pushed = newest_record_push (take i xs) f page (kept_at before page) (was page) in
    subst (λ ys. IsNewestRecord ys page (kept_at after page)) (sym (take_at_read xs i nothing h).1)
    (subst (IsNewestRecord (take i xs ++ f ∷ []) page) (sym (is page)) pushed)

-- a table where the record of one page is replaced by the newer of it and another
kept_at-set : (records : List (Option Rec)) (at : ℕ) (r : Rec) → at < length records → (page : ℕ) →
    kept_at (set records at (newer (kept_at records at) r)) page ≡ cond (eqb at page) (newer (kept_at records page) r)
    (kept_at records page)
kept_at-set records at r h page = elim (cases_eq at page) [
  | inl e ↦ subst (λ p. kept_at (set records at (newer (kept_at records at) r)) p
      ≡ cond (eqb at p) (newer (kept_at records p) r) (kept_at records p)) e
      (get_or-set_same records at _ None h ∙ sym (cond-true (eqb at at) _ _ (eq-eqb at at refl)))
  | inr off ↦ get_or-set_other records at page _ None (λ e. off (sym e))
      ∙ sym (cond-false (eqb at page) _ _ (ne_eqb at page off))
]

-- a table with more room, which keeps the records of an old one, where the record of one page is replaced
pub kept_after : (old records : List (Option Rec)) (at : ℕ) (r : Rec) (kept : Option Rec) → at < length records →
    ((page : ℕ) → kept_at records page ≡ kept_at old page) → kept ≡ kept_at records at → (page : ℕ) →
    kept_at (set records at (newer kept r)) page ≡ cond (eqb at page) (newer (kept_at old page) r) (kept_at old page)
kept_after old records at r kept h same is page =
    ap (λ k. kept_at (set records at (newer k r)) page) is
    ∙ kept_at-set records at r h page
    ∙ ap (λ k. cond (eqb at page) (newer k r) k) (same page)
