-- What is read by numbers, where they keep what is derived by names.
use Rattle.judged_records.proofs.Common.{◌≡◌, ℕ, ◌<◌, ◌≤◌, true, ◌↔◌, Contains, Option, Some, None, sym, ap, ◌∙◌, subst, inl, inr, arith, option_map, cases_Bool, cases_lt, cond-true, cond-false, none-some, same_Some, All-contains, in_any, cases_Option, Link, Rec, Protocol, Found, name_of, Pages, PagesExist, found_in, IndexState, IsNoted, current_of, name_at, answerer_of, waits_of, derived_of}
use Rattle.list_lemmas.proofs.Membership.{any_in}
use Rattle.judged_records.specs.Derived.{AnswersForSome}
use Rattle.judged_records.specs.Numbered.{Numbered, number_at, rec_at, named, AreDerived}
use Rattle.judged_records.specs.IndexState.{held_of}
use Rattle.judged_records.proofs.OfNotes.Derived.{name_at_some, name_at_is}
use Rattle.judged_records.proofs.OfNotes.Numbered.{AreNoted, named_some}
use Rattle.judged_records.proofs.OfReadings.Readings.{held_reading}

-- each noted record has one number, and no other number has an answerer
pub record IsNumbering (t : Numbered) (n : IndexState) : Type 0 where
  pub judged : AreDerived t n.config.logical (derived_of n)
  pub noted : AreNoted t n
  pub each : (f : Found) → Contains (found_in n.notes) f → (x : ℕ) × (rec_at t.records x ≡ Some f.rec)
  pub once : (x y : ℕ) (r s : Rec) → rec_at t.records x ≡ Some r → rec_at t.records y ≡ Some s →
      name_of r ≡ name_of s → x ≡ y
  pub unused : (x : ℕ) → rec_at t.records x ≡ None → number_at t.answerers x ≡ None

-- what stands for a name is the number of its record
named_number : (t : Numbered) (n : IndexState) → IsNumbering t n → (number : Option ℕ) (x : ℕ) (r : Rec) →
    rec_at t.records x ≡ Some r →
    named t.records number ≡ Some (Some (name_of r)) → number ≡ Some x
named_number t n k None x r at e = absurd (none-some (Some (name_of r)) e)
named_number t n k (Some z) x r at e =
    let some = named_some t.records (Some (name_of r)) z e in
    ap Some (k.once z x some.0 r some.1 at (sym (same_Some (name_of r) (name_of some.0) some.2)))

-- and the other way round
number_named : (t : Numbered) (number : Option ℕ) (x : ℕ) (r : Rec) (o : Option Link) → rec_at t.records x ≡ Some r →
    number ≡ Some x →
    named t.records number ≡ option_map Some o → o ≡ Some (name_of r)
number_named t number x r o at is e =
    let some = named_some t.records o x (ap (named t.records) (sym is) ∙ e) in
    some.2 ∙ ap (λ s. Some (name_of s)) (same_Some some.0 r (sym some.1 ∙ at))

module _ (protocol : Protocol) (n : IndexState) (k : IsNoted protocol n) (t : Numbered) (its : IsNumbering t n)
    (x : ℕ) (r : Rec)
    (at : rec_at t.records x ≡ Some r) where
  -- the record is noted
  its_found : (f : Found) × Contains (found_in n.notes) f × (f.rec ≡ r)
  its_found = in_any (λ f. f.rec ≡ r) (found_in n.notes) (its.noted x r at)

  its_pages : (r.page < n.config.logical) × (1 ≤ r.version)
  its_pages =
      let f = its_found in
      let pages = All-contains (PagesExist n.config.logical) (found_in n.notes) f.0 (k.sound Pages) f.1 in
      let versions = All-contains (λ g. (1 ≤ g.rec.version) × (1 ≤ g.rec.next.version)) (found_in n.notes) f.0
      k.scanned.versions f.1 in
      (subst (λ s. s.page < n.config.logical) f.2 pages.0, subst (λ s. 1 ≤ s.version) f.2 versions.0)

  -- it is current exactly where its page has its number as the current one
  pub current_number : (number_at t.current r.page ≡ Some x) ↔ (current_of n r.page ≡ r.version)
  current_number =
      let named_is = its.judged.current r.page its_pages.0 in (
        (λ is.
            let name = (name_at_is r.page (current_of n r.page) (name_of r)
            (number_named t (number_at t.current r.page) x r (name_at r.page (current_of n r.page)) at is
            named_is)).1 in
            sym (ap (λ u. u.version) name)),
        (λ e. named_number t n its (number_at t.current r.page) x r at
            (named_is ∙ ap (λ v. option_map Some (name_at r.page v)) e
            ∙ ap (option_map Some) (name_at_some r.page r.version its_pages.1))),
      )

  -- it is held exactly where it is the answerer of some number
  pub held_number : (held_of n r ≡ true) ↔ ((y : ℕ) × (number_at t.answerers y ≡ Some x))
  held_number =
      let f = its_found in
      let reading = subst (λ s. (held_of n s ≡ true) ↔ AnswersForSome n (name_of s)) f.2
      (All-contains (λ g. (held_of n g.rec ≡ true) ↔ AnswersForSome n (name_of g.rec)) (found_in n.notes) f.0
      (held_reading protocol n k) f.1) in (
        (λ held.
            let g = in_any (λ g. answerer_of n g.rec ≡ Some (name_of r)) (found_in n.notes) (reading.0 held) in
            let y = its.each g.0 g.1 in (
              y.0,
              named_number t n its (number_at t.answerers y.0) x r at (its.judged.answerers y.0 g.0.rec y.1
                  ∙ ap (option_map Some) g.2),
            )),
        (λ some. elim (cases_Option (rec_at t.records some.0)) [
          | inl none ↦ absurd (none-some x (sym (its.unused some.0 none) ∙ some.1))
          | inr rec ↦ (
              let g = in_any (λ g. g.rec ≡ rec.0) (found_in n.notes) (its.noted some.0 rec.0 rec.1) in
              let is = number_named t (number_at t.answerers some.0) x r (answerer_of n rec.0) at some.1
              (its.judged.answerers some.0 rec.0 rec.1) in
              reading.1 (any_in (λ g. answerer_of n g.rec ≡ Some (name_of r)) (found_in n.notes) g.0 g.1
              (subst (λ s. answerer_of n s ≡ Some (name_of r)) (sym g.2) is)))
        ]),
      )

  -- it waits for a page exactly where its number does
  pub waiting_number : (page : ℕ) → (number_at t.waits x ≡ Some page) ↔ ((waits_of n r ≡ true) × (r.next.page ≡ page))
  waiting_number page =
      let is = its.judged.waits x r at in (
        (λ to. elim (cases_Bool (waits_of n r)) [
          | inl waits ↦ (
            waits,
            same_Some r.next.page page
                (sym (is ∙ cond-true (waits_of n r) (Some r.next.page) None waits) ∙ to),
          )
          | inr none ↦ absurd (none-some page (sym (is ∙ cond-false (waits_of n r) (Some r.next.page) None none) ∙ to))
        ]),
        (λ both. is ∙ cond-true (waits_of n r) (Some r.next.page) None both.0 ∙ ap Some both.1),
      )

-- a page has no number as the current one exactly where it has no current version
pub uncurrent_number : (t : Numbered) (n : IndexState) → IsNumbering t n → (page : ℕ) → page < n.config.logical →
    (number_at t.current page ≡ None) ↔ (current_of n page ≡ 0)
uncurrent_number t n its page below =
    let is = its.judged.current page below in (
      (λ none. elim (cases_lt 0 (current_of n page)) [
        | inl some ↦ absurd (none-some (Some (record { page = page; version = current_of n page }))
            (ap (named t.records) (sym none) ∙ is ∙ ap (option_map Some) (name_at_some page (current_of n page) some)))
        | inr zero' ↦ omega arith
      ]),
      (λ none. elim (cases_Option (number_at t.current page)) [
        | inl it ↦ it
        | inr some ↦ absurd (none-some _ (sym (sym (ap (named t.records) some.1) ∙ is
            ∙ ap (λ v. option_map Some (name_at page v)) none)))
      ]),
    )
