-- A record is held where some loose record asks for its name, at a link above its back version.
use Rattle.flash_picture.proofs.Common.{◌≡◌, ℕ, ◌+◌, ◌<◌, Bool, true, ◌||◌, nat_lt, Option, Some, None, List, [], ◌∷◌, length, get_or, position, take, cond, refl, sym, ap, ap₂, ◌∙◌, inl, inr, arith, lt-ltb, list_any, false≢true, cases_Bool, cases_lt, cond-true, cond-false, le-ltb, Protocol, Scc, Bpcc, Link, Rec, Found, has_name, is_same, name_of, is_held}
use Rattle.std.proofs.Common.{max, ◌&&◌, slice_set}
use Rattle.std.proofs.Common.{ltb-true}
use Rattle.std.proofs.Math.Nat.{le-max_left, le-max_right, max-le, max-eq_left}
use Rattle.std.proofs.lemmas.Bool.{cases_eq, and_parts, and_from}
use Rattle.std.proofs.lemmas.List.{length-set, get_or-set_same, get_or-set_other}
use Rattle.std.proofs.lemmas.List.Quantifiers.{position-Some}
use Rattle.list_lemmas.proofs.Values.{one_test}
use Rattle.sorted_records.specs.CurrentVersions.{CurrentVersionsState}
use Rattle.sorted_records.proofs.OfWalk.WalkOrbits.{absent_at}
use Rattle.record_list.specs.Records.{greatest, is_present, nothing, record_at}
use Rattle.record_list.specs.Current.{answers_for, cur, is_loose, responsible}
use Rattle.record_list.proofs.OfFacts.Greatest.{greatest_step}
use Rattle.record_list.proofs.OfFacts.Held.{answer_of, answers}
use Rattle.record_list.proofs.OfFacts.Names.{greatest_least, has_name_true, is_same_own, is_same_true, present_in}
use Rattle.straddle_sets.proofs.Responsibles.{has_responsible}
use Rattle.flash_picture.specs.Held.{AreAsked, asked_name, asks_at, if_asked, place_of_name, raised}

-- ---- a record is held where its back version is below the greatest link of those that ask for its name

-- some number is above a bound where the greatest is
any_greatest : (test : Found → Bool) (of : Rec → ℕ) (b : ℕ) → ((f : Found) → test f ≡ nat_lt b (of f.rec)) →
    (l : List Found) →
    list_any test l ≡ nat_lt b (greatest of l)
any_greatest test of b same [] = sym (le-ltb b 0 (omega arith))
any_greatest test of b same (f ∷ fs) =
    let left = le-max_left (of f.rec) (greatest of fs) in
    let right = le-max_right (of f.rec) (greatest of fs) in
    ap₂ (λ x y. x || y) (same f) (any_greatest test of b same fs)
    ∙ elim (cases_lt b (of f.rec)) [
      | inl above ↦ rw (lt-ltb b (of f.rec) above) (sym (lt-ltb b (max (of f.rec) (greatest of fs)) (omega arith)))
      | inr upto ↦ rw (le-ltb b (of f.rec) upto) (elim (cases_lt b (greatest of fs)) [
        | inl above ↦ lt-ltb b (greatest of fs) above ∙ sym (lt-ltb b (max (of f.rec) (greatest of fs)) (omega arith))
        | inr low ↦ le-ltb b (greatest of fs) low ∙ sym (le-ltb b (max (of f.rec) (greatest of fs)) (max-le upto low))
      ])
    ]

module _ (list : List Found) (logical : ℕ) (r : Rec) where
  abbrev version : Rec → ℕ
  version f = responsible Bpcc list logical f.next

  abbrev asks : Rec → Bool
  asks f = is_loose Bpcc list logical f && nat_lt f.next.version (version f)

  abbrev name : Rec → Link
  name f = record { page = f.next.page; version = version f }

  -- a record asks for the name of one that answers for it, and links above its back version
  asks_answer : (f : Rec) → answers_for Bpcc list logical r f ≡ nat_lt r.back (asks_at Bpcc list logical (name_of r) f)
  asks_answer f = one_test (answers_for Bpcc list logical r f) (nat_lt r.back (asks_at Bpcc list logical (name_of r) f))
      to from
    where
      asked : asks f ≡ true → asks_at Bpcc list logical (name_of r) f
          ≡ cond (is_same (name f) (name_of r)) f.next.version 0
      asked holds = ap (λ o. if_asked (name_of r) o f.next.version) (cond-true (asks f) (Some (name f)) None holds)

      to : answers_for Bpcc list logical r f ≡ true → nat_lt r.back (asks_at Bpcc list logical (name_of r) f) ≡ true
      to holds =
          let a = answer_of list logical r f holds in
          let under = a.under in
          let is = a.version in
          let some = and_from (is_loose Bpcc list logical f) (nat_lt f.next.version (version f))
          (lt-ltb (cur Bpcc list logical f.page) f.version a.loose) (lt-ltb f.next.version (version f) (omega arith)) in
          let same : name f ≡ name_of r = ap₂ (λ (p v : ℕ). record { page = p; version = v }) a.page a.version in
          ap (nat_lt r.back) (asked some ∙ cond-true (is_same (name f) (name_of r)) f.next.version 0
          (is_same_own (name f) (name_of r) same))
          ∙ lt-ltb r.back f.next.version a.from

      from : nat_lt r.back (asks_at Bpcc list logical (name_of r) f) ≡ true → answers_for Bpcc list logical r f ≡ true
      from holds = elim (cases_Bool (asks f)) [
        | inr fails ↦ absurd (
            let e = ap (λ o. if_asked (name_of r) o f.next.version) (cond-false (asks f) (Some (name f)) None fails) in
            let less = ltb-true r.back (asks_at Bpcc list logical (name_of r) f) holds in
            omega arith)
        | inl some ↦ elim (cases_Bool (is_same (name f) (name_of r))) [
          | inr other ↦ absurd (
              let e = asked some ∙ cond-false (is_same (name f) (name_of r)) f.next.version 0 other in
              let less = ltb-true r.back (asks_at Bpcc list logical (name_of r) f) holds in
              omega arith)
          | inl here ↦ (
              let e = asked some ∙ cond-true (is_same (name f) (name_of r)) f.next.version 0 here in
              let less = ltb-true r.back (asks_at Bpcc list logical (name_of r) f) holds in
              let same = is_same_true (name f) (name_of r) here in
              let parts = and_parts (is_loose Bpcc list logical f) (nat_lt f.next.version (version f)) some in
              let under = ltb-true f.next.version (version f) parts.1 in
              let is : (version f) ≡ r.version = ap (λ (n : Link). n.version) same in
              answers list logical r f (record {
                loose = ltb-true (cur Bpcc list logical f.page) f.version parts.0;
                page = ap (λ (n : Link). n.page) same;
                from = omega arith;
                under = omega arith;
                version = is;
              }))
        ]
      ]

  none_greatest : (l : List Found) → greatest (λ f. 0) l ≡ 0
  none_greatest [] = refl
  none_greatest (f ∷ fs) = ap (max 0) (none_greatest fs)

  pub held_is : (protocol : Protocol) → nat_lt r.back (greatest (asks_at protocol list logical (name_of r)) list)
      ≡ is_held protocol list logical r
  held_is Scc = ap (nat_lt r.back) (none_greatest list) ∙ le-ltb r.back 0 (omega arith)
  held_is Bpcc =
      sym (any_greatest (λ f. answers_for Bpcc list logical r f.rec) (asks_at Bpcc list logical (name_of r)) r.back
      (λ f. asks_answer f.rec) list)

-- a name that is asked for is that of a record
asked_there : (protocol : Protocol) (list : List Found) (logical : ℕ) (f : Rec) (n : Link) →
    asked_name protocol list logical f ≡ Some n →
    is_present list n ≡ true
asked_there Scc list logical f n asked = cc
asked_there Bpcc list logical f n asked =
    let those : Bool = is_loose Bpcc list logical f && nat_lt f.next.version (responsible Bpcc list logical f.next) in
    let its : Link = record { page = f.next.page; version = responsible Bpcc list logical f.next } in
    elim (cases_Bool those) [
      | inr fails ↦ absurd (let e = cond-false those (Some its) None fails in cc)
      | inl holds ↦ (
          let e : Some its ≡ Some n = sym (cond-true those (Some its) None holds) ∙ asked in
          let is : its ≡ n = ap (λ (o : Option Link). elim o [ Some m ↦ m | None ↦ n ]) e in
          let under = ltb-true f.next.version (responsible Bpcc list logical f.next)
          (and_parts (is_loose Bpcc list logical f) (nat_lt f.next.version (responsible Bpcc list logical f.next))
          holds).1 in
          let g = has_responsible list logical f.next (omega arith) in
          let named : name_of g.0.rec ≡ its =
          ap₂ (λ (p v : ℕ). record { page = p; version = v }) g.2.0 g.3 in
          sym (ap (is_present list) (named ∙ is)) ∙ present_in list g.0 g.1)
    ]

-- a name is not asked for by another one
other_name : (name n : Link) (version : ℕ) → (n ≡ name → ⊥) → if_asked name (Some n) version ≡ 0
other_name name n version other = elim (cases_Bool (is_same n name)) [
  | inl same ↦ absurd (other (is_same_true n name same))
  | inr differ ↦ cond-false (is_same n name) version 0 differ
]

not_asked : (name : Link) (o : Option Link) (version : ℕ) → ((n : Link) → o ≡ Some n → n ≡ name → ⊥) →
    if_asked name o version ≡ 0
not_asked name None version none = refl
not_asked name (Some n) version none = other_name name n version (none n refl)

-- where no record has a name none asks for it
pub none_asks : (protocol : Protocol) (list : List Found) (logical : ℕ) (name : Link) →
    position (λ f. has_name name f.rec) list ≡ None →
    greatest (asks_at protocol list logical name) list ≡ 0
none_asks protocol list logical name none =
    let low = greatest_least (asks_at protocol list logical name) list 0 (λ f c.
    let e = not_asked name (asked_name protocol list logical f.rec) f.rec.next.version (λ n asked same.
    false≢true (sym (absent_at list name none) ∙ sym (ap (is_present list) same)
    ∙ asked_there protocol list logical f.rec n asked)) in
    omega arith) in
    omega arith

-- ---- the table

size_raised : (o : Option ℕ) (version : ℕ) (xs : List ℕ) → length (raised o version xs) ≡ length xs
size_raised None version xs = refl
size_raised (Some place) version xs = length-set xs place (max (get_or xs place 0) version)

module _ (j : CurrentVersionsState) where
  abbrev of : Link → Rec → ℕ
  of name = asks_at j.protocol j.list j.logical name

  module _ (asked : List ℕ) (i : ℕ) (within : i < length j.list) (before : AreAsked j (take i j.list) asked) where
    abbrev rec : Rec
    rec = record_at j.list i

    -- what a place has, after a name was asked for at a version
    raised_at : (o : Option Link) (version : ℕ) (name : Link) (place none g : ℕ) →
        position (λ f. has_name name f.rec) j.list ≡ Some place →
        get_or asked place 0 ≡ g → get_or asked place none ≡ g → place < length asked →
        get_or (raised (place_of_name j.list o) version asked) place none ≡ max g (if_asked name o version)
    raised_at None version name place none g at had has low = has ∙ sym (max-eq_left (omega arith))
    raised_at (Some n) version name place none g at had has low =
        by_place (position (λ f. has_name n f.rec) j.list) refl
      where
        by_place : (o : Option ℕ) → position (λ f. has_name n f.rec) j.list ≡ o →
            get_or (raised o version asked) place none ≡ max g (if_asked name (Some n) version)
        by_place None nowhere =
            let no = other_name name n version (λ same. let e = ap (λ m. position (λ f. has_name m f.rec) j.list)
            same in cc) in
            has ∙ sym (ap (max g) no ∙ max-eq_left (omega arith))
        by_place (Some q) there = elim (cases_eq place q) [
          | inl same ↦ (
              let its = has_name_true n (record_at j.list q)
              (position-Some (λ f. has_name n f.rec) j.list q nothing there).1 in
              let own = has_name_true name (record_at j.list place)
              (position-Some (λ f. has_name name f.rec) j.list place nothing at).1 in
              let here : n ≡ name = sym its ∙ ap (λ k. name_of (record_at j.list k)) (sym same) ∙ own in
              ap (λ k. get_or (slice_set asked k (max (get_or asked k 0) version)) place none) (sym same)
              ∙ get_or-set_same asked place (max (get_or asked place 0) version) none low
              ∙ ap₂ (λ a b. max a b) had (sym (cond-true (is_same n name) version 0 (is_same_own n name here))))
          | inr other ↦ (
              let no = other_name name n version (λ same.
              let e = ap (λ m. position (λ f. has_name m f.rec) j.list) same in let p : place ≡ q = cc in other p) in
              get_or-set_other asked q place (max (get_or asked q 0) version) none other ∙ has
              ∙ sym (ap (max g) no ∙ max-eq_left (omega arith)))
        ]

    pub asked_more : AreAsked j (take (i + 1) j.list)
        (raised (place_of_name j.list (asked_name j.protocol j.list j.logical rec)) rec.next.version asked)
    asked_more = record {
      size = size_raised (place_of_name j.list (asked_name j.protocol j.list j.logical rec)) rec.next.version asked
          ∙ before.size;
      each = λ name place none at.
          let low = (position-Some (λ f. has_name name f.rec) j.list place nothing at).0 in
          let size = before.size in
          raised_at (asked_name j.protocol j.list j.logical rec) rec.next.version name place none
          (greatest (of name) (take i j.list)) at
          (before.each name place 0 at) (before.each name place none at) (omega arith)
          ∙ sym (greatest_step (of name) j.list i within);
    }
