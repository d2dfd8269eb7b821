-- The records of a list by their names: greatest numbers, and what a present name says.
use Rattle.record_list.proofs.Common.{◌≡◌, ℕ, ◌<◌, ◌≤◌, Bool, true, false, ◌&&◌, ◌||◌, eqb, ltb, List, [], ◌∷◌, refl, sym, ap, ◌∙◌, subst, inl, inr, arith, cond, ◌⊎◌, All, Any, eqb-true, eq-eqb, lt-ltb, ltb-true, Contains, false≢true, cases_Bool, cases_lt, cond-true, cond-false, and_parts, and_from, or_left, or_right, Contains-cases, Contains-first, Contains-nil, Contains-rest, all_from, Link, Rec, Found, greatest, version_of, version_below, newest, next_older, name_of, has_name, is_same, is_present, newest_name, record_named, link_of, back_of}
use Rattle.std.proofs.Common.{ap₂}
use Rattle.std.proofs.Common.{le_trans}
use Rattle.std.proofs.Math.Nat.{le-max_left, le-max_right, max-le, max-eq_left, max-eq_right}
use Rattle.std.proofs.lemmas.Bool.{or_parts}
use Rattle.list_lemmas.proofs.Membership.{any_in}
use Rattle.list_lemmas.proofs.Values.{if_positive}

-- a name from its parts
abbrev pub named : ℕ → ℕ → Link
named p v = record { page = p; version = v }

-- two names with equal parts are one
pub same_name : (u v : Link) → u.page ≡ v.page → u.version ≡ v.version → u ≡ v
same_name u v e f = ap₂ named e f

-- names that pass the test are one
pub is_same_true : (a b : Link) → is_same a b ≡ true → a ≡ b
is_same_true a b h =
    let parts = and_parts (eqb a.page b.page) (eqb a.version b.version) h in
    same_name a b (eqb-true a.page b.page parts.0) (eqb-true a.version b.version parts.1)

-- and a name passes its own
pub is_same_own : (a b : Link) → a ≡ b → is_same a b ≡ true
is_same_own a b e = and_from (eqb a.page b.page) (eqb a.version b.version) (eq-eqb _ _ (ap (λ n. n.page) e))
    (eq-eqb _ _ (ap (λ n. n.version) e))

-- a record that passes the test for a name has it
pub has_name_true : (u : Link) (r : Rec) → has_name u r ≡ true → name_of r ≡ u
has_name_true u r h =
    let parts = and_parts (eqb r.page u.page) (eqb r.version u.version) h in
    same_name (name_of r) u (eqb-true r.page u.page parts.0) (eqb-true r.version u.version parts.1)

-- and a record that has a name passes its test
pub has_own_name : (u : Link) (r : Rec) → name_of r ≡ u → has_name u r ≡ true
has_own_name u r e = and_from (eqb r.page u.page) (eqb r.version u.version) (eq-eqb _ _ (ap (λ n. n.page) e))
    (eq-eqb _ _ (ap (λ n. n.version) e))

-- a part of a choice is a choice of parts
part_of : {X : Type 0} (of : Rec → X) (b : Bool) (r s : Rec) (x : X) → of s ≡ x → of (cond b r s) ≡ cond b (of r) x
part_of of true r s x e = refl
part_of of false r s x e = e

-- the link of a name is that of its record
pub named_link : (l : List Found) (u : Link) → (record_named l u).next ≡ link_of l u
named_link [] u = refl
named_link (f ∷ fs) u = part_of (λ r. r.next) (has_name u f.rec) f.rec (record_named fs u) (link_of fs u)
    (named_link fs u)

-- and its back version
pub named_back : (l : List Found) (u : Link) → (record_named l u).back ≡ back_of l u
named_back [] u = refl
named_back (f ∷ fs) u = part_of (λ r. r.back) (has_name u f.rec) f.rec (record_named fs u) (back_of fs u)
    (named_back fs u)

-- two lists with one record of a name have one link of it
pub links_from : (l m : List Found) (u v : Link) → record_named l u ≡ record_named m v → link_of l u ≡ link_of m v
links_from l m u v e = sym (named_link l u) ∙ ap (λ r. r.next) e ∙ named_link m v

-- and one back version
pub backs_from : (l m : List Found) (u v : Link) → record_named l u ≡ record_named m v → back_of l u ≡ back_of m v
backs_from l m u v e = sym (named_back l u) ∙ ap (λ r. r.back) e ∙ named_back m v

-- a name is that of its record
pub named_name : (l : List Found) (u : Link) → name_of (record_named l u) ≡ u
named_name [] u = refl
named_name (f ∷ fs) u = elim (cases_Bool (has_name u f.rec)) [
  | inl e ↦ ap name_of (cond-true (has_name u f.rec) f.rec (record_named fs u) e) ∙ has_name_true u f.rec e
  | inr e ↦ ap name_of (cond-false (has_name u f.rec) f.rec (record_named fs u) e) ∙ named_name fs u
]

-- a greatest number bounds that of each record
pub greatest_bound : (of : Rec → ℕ) (l : List Found) (f : Found) → Contains l f → of f.rec ≤ greatest of l
greatest_bound of [] f c = absurd (Contains-nil f c)
greatest_bound of (g ∷ gs) f c = elim (Contains-cases g gs f c) [
  | inl e ↦ subst (λ x. of x.rec ≤ greatest of (g ∷ gs)) e (le-max_left (of g.rec) (greatest of gs))
  | inr i ↦ le_trans (greatest_bound of gs f i) (le-max_right (of g.rec) (greatest of gs))
]

-- what bounds each record bounds the greatest
pub greatest_least : (of : Rec → ℕ) (l : List Found) (m : ℕ) → ((f : Found) → Contains l f → of f.rec ≤ m) →
    greatest of l ≤ m
greatest_least of [] m h = omega arith
greatest_least of (g ∷ gs) m h = max-le (h g (Contains-first g gs))
    (greatest_least of gs m (λ f i. h f (Contains-rest g gs f i)))

-- a record has the greatest number, where this is not 0
pub greatest_attained : (of : Rec → ℕ) (l : List Found) → 0 < greatest of l → (f : Found) × Contains l f
    × (of f.rec ≡ greatest of l)
greatest_attained of [] h = absurd (omega arith)
greatest_attained of (g ∷ gs) h = elim (cases_lt (of g.rec) (greatest of gs)) [
  | inl less ↦ (let ih = greatest_attained of gs (omega arith) in
      (ih.0, Contains-rest g gs ih.0 ih.1, ih.2 ∙ sym (max-eq_right (omega arith))))
  | inr more ↦ (g, Contains-first g gs, sym (max-eq_left more))
]

-- the record that a present name has
first_named : (l : List Found) (u : Link) → is_present l u ≡ true →
    (f : Found) × Contains l f × (name_of f.rec ≡ u) × (f.rec ≡ record_named l u)
first_named [] u h = absurd (false≢true h)
first_named (f ∷ fs) u h = elim (cases_Bool (has_name u f.rec)) [
  | inl e ↦ (
    f,
    Contains-first f fs,
    has_name_true u f.rec e,
    sym (cond-true (has_name u f.rec) f.rec (record_named fs u) e),
  )
  | inr e ↦ (let ih = first_named fs u (present_rest (has_name u f.rec) (is_present fs u) e h) in (
    ih.0,
    Contains-rest f fs ih.0 ih.1,
    ih.2,
    ih.3
        ∙ sym (cond-false (has_name u f.rec) f.rec (record_named fs u) e),
  ))
]
  where
    present_rest : (a b : Bool) → a ≡ false → (a || b) ≡ true → b ≡ true
    present_rest true b e k = absurd (false≢true (sym e))
    present_rest false b e k = k

-- it, its link and its back version
pub found_named : (l : List Found) (u : Link) → is_present l u ≡ true →
    (f : Found) × Contains l f × (name_of f.rec ≡ u) × (f.rec.next ≡ link_of l u) × (f.rec.back ≡ back_of l u)
    × (f.rec ≡ record_named l u)
found_named l u h =
    let f = first_named l u h in
    (f.0, f.1, f.2, ap (λ r. r.next) f.3 ∙ named_link l u, ap (λ r. r.back) f.3 ∙ named_back l u, f.3)

-- the name of a record in the list is present
pub present_in : (l : List Found) (f : Found) → Contains l f → is_present l (name_of f.rec) ≡ true
present_in [] f c = absurd (Contains-nil f c)
present_in (g ∷ gs) f c = elim (Contains-cases g gs f c) [
  | inl e ↦ or_left (has_name (name_of f.rec) g.rec) (is_present gs (name_of f.rec))
      (has_own_name (name_of f.rec) g.rec (ap (λ x. name_of x.rec) e))
  | inr i ↦ or_right (has_name (name_of f.rec) g.rec) (is_present gs (name_of f.rec)) (present_in gs f i)
]

-- a name that a record has is present
pub present_as : (l : List Found) (f : Found) (name : Link) → Contains l f → name_of f.rec ≡ name →
    is_present l name ≡ true
present_as l f name i e = subst (λ u. is_present l u ≡ true) e (present_in l f i)

-- an absent name has the record of an empty list
pub absent_record : (l : List Found) (u : Link) → is_present l u ≡ false → record_named l u ≡ record_named [] u
absent_record [] u h = refl
absent_record (f ∷ fs) u h =
    let parts = or_parts (has_name u f.rec) (is_present fs u) h in
    cond-false (has_name u f.rec) f.rec (record_named fs u) parts.0 ∙ absent_record fs u parts.1

-- so it leads no further
pub absent_link : (l : List Found) (u : Link) → is_present l u ≡ false → link_of l u ≡ u
absent_link l u h = links_from l [] u u (absent_record l u h)

-- and has no back version
pub absent_back : (l : List Found) (u : Link) → is_present l u ≡ false → back_of l u ≡ 0
absent_back l u h = backs_from l [] u u (absent_record l u h)

-- the newest version of a page bounds the present ones
pub newest_bound : (l : List Found) (u : Link) → is_present l u ≡ true → u.version ≤ newest l u.page
newest_bound l u h =
    let f = found_named l u h in
    let bound = greatest_bound (version_of u.page) l f.0 f.1 in
    let at_page : version_of u.page f.0.rec ≡ f.0.rec.version = cond-true (eqb f.0.rec.page u.page) f.0.rec.version 0
    (eq-eqb _ _ (ap (λ n. n.page) f.2)) in
    let version : f.0.rec.version ≡ u.version = ap (λ n. n.version) f.2 in
    omega arith

-- the newest version of a page is present, where it is not 0
pub newest_present : (l : List Found) (page : ℕ) → 0 < newest l page → is_present l (newest_name l page) ≡ true
newest_present l page h =
    let f = greatest_attained (version_of page) l h in
    let h' : 0 < version_of page f.0.rec = omega arith in
    let at = if_positive (eqb f.0.rec.page page) f.0.rec.version h' in
    let name : name_of f.0.rec ≡ newest_name l page = same_name (name_of f.0.rec) (newest_name l page)
    (eqb-true f.0.rec.page page at.0) (sym at.1 ∙ f.2) in
    subst (λ u. is_present l u ≡ true) name (present_in l f.0 f.1)

-- a present version below another is at most the next older one
pub older_bound : (l : List Found) (u : Link) (below : ℕ) → is_present l u ≡ true → u.version < below →
    u.version ≤ next_older l u.page below
older_bound l u below h less =
    let f = found_named l u h in
    let bound = greatest_bound (version_below u.page below) l f.0 f.1 in
    let version : f.0.rec.version ≡ u.version = ap (λ n. n.version) f.2 in
    let at : version_below u.page below f.0.rec ≡ f.0.rec.version =
    cond-true (eqb f.0.rec.page u.page && ltb f.0.rec.version below) f.0.rec.version 0
    (and_from (eqb f.0.rec.page u.page) (ltb f.0.rec.version below) (eq-eqb _ _ (ap (λ n. n.page) f.2))
    (lt-ltb f.0.rec.version below (omega arith))) in
    omega arith

-- the next older version is present and is older, where it is not 0
pub older_name : (l : List Found) (page below : ℕ) → 0 < next_older l page below →
    (is_present l (named page (next_older l page below)) ≡ true) × (next_older l page below < below)
older_name l page below h =
    let f = greatest_attained (version_below page below) l h in
    let h' : 0 < version_below page below f.0.rec = omega arith in
    let at = if_positive (eqb f.0.rec.page page && ltb f.0.rec.version below) f.0.rec.version h' in
    let tests = and_parts (eqb f.0.rec.page page) (ltb f.0.rec.version below) at.0 in
    let less : f.0.rec.version < below = ltb-true f.0.rec.version below tests.1 in
    let version : f.0.rec.version ≡ next_older l page below = sym at.1 ∙ f.2 in
    let name : name_of f.0.rec ≡ named page (next_older l page below) =
    same_name (name_of f.0.rec) (named page (next_older l page below))
    (eqb-true f.0.rec.page page tests.0) version in
    (subst (λ u. is_present l u ≡ true) name (present_in l f.0 f.1), omega arith)

-- a name of a list is absent, or all are present
pub cases_present : (list : List Found) (names : List Link) → Any (λ name. is_present list name ≡ false) names
    ⊎ All (λ name. is_present list name ≡ true) names
cases_present list names = elim (cases_names names) [
  | inl gone ↦ inl (any_in (λ name. is_present list name ≡ false) names gone.0 gone.1 gone.2)
  | inr here ↦ inr (all_from (λ name. is_present list name ≡ true) names here)
]
  where
    cases_names : (all : List Link) → ((name : Link) × Contains all name × (is_present list name ≡ false)) ⊎
        ((name : Link) → Contains all name → is_present list name ≡ true)
    cases_names [] = inr (λ name i. absurd (Contains-nil name i))
    cases_names (name ∷ rest) = elim (cases_Bool (is_present list name)) [
      | inl here ↦ elim (cases_names rest) [
        | inl gone ↦ inl (gone.0, Contains-rest name rest gone.0 gone.1, gone.2)
        | inr others ↦ inr (λ other i. elim (Contains-cases name rest other i) [
          | inl same ↦ subst (λ u. is_present list u ≡ true) same here
          | inr later ↦ others other later
        ])
      ]
      | inr absent ↦ inl (name, Contains-first name rest, absent)
    ]
