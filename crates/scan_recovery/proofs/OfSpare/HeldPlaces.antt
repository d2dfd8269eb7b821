-- A record is responsible for a loose one where the first record of its name is marked.
use Rattle.scan_recovery.proofs.Common.{◌≡◌, ◌≢◌, ℕ, ◌<◌, Bool, true, false, ◌&&◌, Option, Some, None, List, [], ◌∷◌, length, get_or, position, Contains, All, refl, sym, ap, ◌∙◌, inl, inr, arith, eqb-true, eq-eqb, nat_lt, list_any, false≢true, cases_Bool, cond-true, cond-false, and_parts, All-contains, Contains-get_or, Link, Rec, Protocol, Scc, Bpcc, Found, name_of, has_name, record_at, nothing, cur, is_held, same_name, has_name_true, absent_at}
use Rattle.std.proofs.Common.{ltb-true, lt-ltb}
use Rattle.std.proofs.lemmas.Bool.{and_from}
use Rattle.std.proofs.lemmas.List.Quantifiers.{position-Some}
use Rattle.list_lemmas.proofs.Tests.{any_same_in}
use Rattle.list_lemmas.proofs.Values.{one_test}
use Rattle.record_list.specs.Current.{is_loose, responsible, answers_for}
use Rattle.record_list.proofs.OfFacts.Names.{present_in}
use Rattle.record_list.proofs.OfFacts.Held.{answer_of, answers}
use Rattle.straddle_sets.proofs.Responsibles.{has_responsible}
use Rattle.sorted_records.specs.CurrentVersions.{CurrentVersionsState}
use Rattle.scan_recovery.specs.Removable.{AreCopies, answerer_by, is_place, AreHeld}

none_at : (l : List Found) → list_any (λ f. false) l ≡ false
none_at [] = refl
none_at (f ∷ fs) = none_at fs

place_true : (n : ℕ) (o : Option ℕ) → is_place n o ≡ true → o ≡ Some n
place_true n None e = absurd (false≢true e)
place_true n (Some place) e = ap Some (eqb-true place n e)

module _ (l : List Found) (logical : ℕ) (copies : AreCopies l) where
  abbrev answer_name : Rec → Link
  answer_name f = record { page = f.next.page; version = responsible Bpcc l logical f.next }

  -- where the first record of a name answers, so does each of the name
  answers_there : (r f : Found) (p : ℕ) → Contains l r → position (λ g. has_name (name_of r.rec) g.rec) l ≡ Some p →
      is_place p (answerer_by Bpcc l logical f.rec) ≡ answers_for Bpcc l logical r.rec f.rec
  answers_there r f p c at = one_test (is_place p (answerer_by Bpcc l logical f.rec))
      (answers_for Bpcc l logical r.rec f.rec) to from
    where
      asked : Bool
      asked = is_loose Bpcc l logical f.rec && nat_lt 0 (responsible Bpcc l logical f.rec.next)

      to : is_place p (answerer_by Bpcc l logical f.rec) ≡ true → answers_for Bpcc l logical r.rec f.rec ≡ true
      to yes_here =
          let place = place_true p (answerer_by Bpcc l logical f.rec) yes_here in
          elim (cases_Bool (is_loose Bpcc l logical f.rec && nat_lt 0 (responsible Bpcc l logical f.rec.next))) [
            | inr none ↦ absurd (let e = cond-false (is_loose Bpcc l logical f.rec
                && nat_lt 0 (responsible Bpcc l logical f.rec.next))
                (position (λ g. has_name (answer_name f.rec) g.rec) l) None none in cc)
            | inl some ↦ (
                let e = cond-true (is_loose Bpcc l logical f.rec && nat_lt 0 (responsible Bpcc l logical f.rec.next))
                (position (λ g. has_name (answer_name f.rec) g.rec) l) None some in
                let parts = and_parts (is_loose Bpcc l logical f.rec) (nat_lt 0 (responsible Bpcc l logical f.rec.next))
                some in
                let here = has_name_true (answer_name f.rec) (record_at l p)
                (position-Some (λ g. has_name (answer_name f.rec) g.rec) l p nothing (sym e ∙
                place)).1 in
                let own = has_name_true (name_of r.rec) (record_at l p)
                (position-Some (λ g. has_name (name_of r.rec) g.rec) l p nothing at).1 in
                let name : name_of r.rec ≡ answer_name f.rec = sym own ∙ here in
                let g = has_responsible l logical f.rec.next
                (ltb-true 0 (responsible Bpcc l logical f.rec.next) parts.1) in
                let same : name_of g.0.rec ≡ name_of r.rec =
                same_name (name_of g.0.rec) (name_of r.rec) (g.2.0 ∙ sym (ap (λ (n : Link). n.page) name)) (g.3
                ∙ sym (ap (λ (n : Link). n.version) name)) in
                let equal : g.0.rec ≡ r.rec = All-contains (λ h. name_of h.rec ≡ name_of r.rec →
                h.rec ≡ r.rec) l g.0 (All-contains (λ h. All (λ k. name_of k.rec ≡ name_of h.rec → k.rec ≡ h.rec) l) l r
                copies c) g.1 same in
                let back = ap (λ (q : Rec). q.back) equal in
                let version = ap (λ (n : Link). n.version) name in
                answers l logical r.rec f.rec (record {
                  loose = ltb-true (cur Bpcc l logical f.rec.page) f.rec.version parts.0;
                  page = sym (ap (λ (n : Link). n.page) name);
                  from = (let low = g.2.1 in omega arith);
                  under = (let high = g.2.2 in let w = ap (λ (q : Rec). q.version) equal in omega arith);
                  version = sym version;
                }))
          ]

      from : answers_for Bpcc l logical r.rec f.rec ≡ true → is_place p (answerer_by Bpcc l logical f.rec) ≡ true
      from yes_here =
          let a = answer_of l logical r.rec f.rec yes_here in
          let under = a.under in
          let version = a.version in
          let some = and_from (is_loose Bpcc l logical f.rec) (nat_lt 0 (responsible Bpcc l logical f.rec.next))
          (lt-ltb (cur Bpcc l logical f.rec.page) f.rec.version a.loose)
          (lt-ltb 0 (responsible Bpcc l logical f.rec.next) (omega arith)) in
          let name : answer_name f.rec ≡ name_of r.rec = same_name (answer_name f.rec) (name_of r.rec)
          a.page a.version in
          let place : answerer_by Bpcc l logical f.rec ≡ Some p =
          cond-true (is_loose Bpcc l logical f.rec && nat_lt 0 (responsible Bpcc l logical f.rec.next))
          (position (λ g. has_name (answer_name f.rec) g.rec) l) None some
          ∙ ap (λ n. position (λ g. has_name n g.rec) l) name ∙ at in
          ap (is_place p) place ∙ eq-eqb p p refl

  held_by : (protocol : Protocol) (r : Found) (p : ℕ) → Contains l r →
      position (λ g. has_name (name_of r.rec) g.rec) l ≡ Some p →
      list_any (λ f. is_place p (answerer_by protocol l logical f.rec)) l ≡ is_held protocol l logical r.rec
  held_by Scc r p c at = none_at l
  held_by Bpcc r p c at = any_same_in (λ f. is_place p (answerer_by Bpcc l logical f.rec))
      (λ f. answers_for Bpcc l logical r.rec f.rec) l
      (λ f d. answers_there r f p c at)

-- what is marked at the first record of a name
pub held_at : (j : CurrentVersionsState) (held : List Bool) (at place : ℕ) (d : Bool) → AreCopies j.list →
    AreHeld j j.list held → at < length j.list →
    Some place ≡ position (λ g. has_name (name_of (record_at j.list at)) g.rec) j.list →
    get_or held place d ≡ is_held j.protocol j.list j.logical (record_at j.list at)
held_at j held at place d copies are within there =
    let low = (position-Some (λ g. has_name (name_of (record_at j.list at)) g.rec) j.list place nothing
    (sym there)).0 in
    are.each place d low
    ∙ held_by j.list j.logical copies j.protocol (get_or j.list at nothing) place
    (Contains-get_or j.list at nothing within) (sym there)

-- a record of the list is found by its name
pub found_by_name : (l : List Found) (at : ℕ) → at < length l →
    position (λ g. has_name (name_of (record_at l at)) g.rec) l ≡ None → ⊥
found_by_name l at within none =
    false≢true (sym (absent_at l (name_of (record_at l at)) none)
    ∙ present_in l (get_or l at nothing) (Contains-get_or l at nothing within))

-- where a record answers for a loose one
pub answerer_some : (protocol : Protocol) (l : List Found) (logical version : ℕ) (r : Rec) → protocol ≡ Bpcc →
    version ≡ responsible protocol l logical r.next →
    is_loose protocol l logical r ≡ true → 0 < version →
    position (λ f. has_name record { page = r.next.page; version = version } f.rec) l ≡ answerer_by protocol l logical r
answerer_some Scc l logical version r rule is loose some = absurd (let other : Scc ≢ Bpcc = (λ e. cc) in other rule)
answerer_some Bpcc l logical version r rule is loose some =
    ap (λ v. position (λ f. has_name record { page = r.next.page; version = v } f.rec) l) is
    ∙ sym (cond-true (is_loose Bpcc l logical r && nat_lt 0 (responsible Bpcc l logical r.next))
    (position (λ f. has_name record { page = r.next.page; version = responsible Bpcc l logical r.next } f.rec) l) None
    (and_from (is_loose Bpcc l logical r) (nat_lt 0 (responsible Bpcc l logical r.next)) loose
    (lt-ltb 0 (responsible Bpcc l logical r.next) (omega arith))))
