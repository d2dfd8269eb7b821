-- Back Pointer Cyclic Commit: records that straddle a version, up to a version of their own.
use Rattle.std.proofs.Common.{◌≡◌, ℕ, ◌<◌, ◌≤◌, true, ◌&&◌, eqb, ltb, leb, ◌⊎◌, List, ap, ◌∙◌, inl, inr, arith, eq-eqb, eqb-true, lt-ltb, ltb-true, le-leb}
use Rattle.std.proofs.Common.{leb-true, Contains}
use Rattle.std.proofs.lemmas.Bool.{cases_Bool, cond-true, cond-false, and_parts, and_from}
use Rattle.tx_types.specs.declared.record.Link.{Link}
use Rattle.tx_types.specs.declared.record.Rec.{Rec}
use Rattle.record_list.specs.declared.found.Found.{Found}
use Rattle.record_list.specs.Records.{greatest, newest, name_of, is_present}
use Rattle.record_list.specs.Verdict.{back_of, straddles, straddling_version, straddling}
use Rattle.record_list.specs.Current.{straddling_upto}
use Rattle.record_list.proofs.OfFacts.Names.{greatest_bound, greatest_least, found_named, newest_bound, present_in}

-- a record of the page that straddles the name's version
abbrev pub Straddles : Rec → Link → Type 0
Straddles r q = (r.page ≡ q.page) × (r.back < q.version) × (q.version < r.version)

-- what the test of both definitions says
test_gives : (r : Rec) (q : Link) → ((eqb r.page q.page) && straddles r q.version) ≡ true → Straddles r q
test_gives r q h =
    let parts = and_parts (eqb r.page q.page) (straddles r q.version) h in
    let between = and_parts (ltb r.back q.version) (ltb q.version r.version) parts.1 in
    (eqb-true r.page q.page parts.0, ltb-true r.back q.version between.0, ltb-true q.version r.version between.1)

-- and what it takes
test_from : (r : Rec) (q : Link) → Straddles r q → ((eqb r.page q.page) && straddles r q.version) ≡ true
test_from r q h = and_from (eqb r.page q.page) (straddles r q.version) (eq-eqb r.page q.page h.0)
    (and_from (ltb r.back q.version) (ltb q.version r.version) (lt-ltb r.back q.version h.1)
    (lt-ltb q.version r.version h.2))

-- a record that straddles a name gives its version, and no other gives more than 0
pub straddling_is : (r : Rec) (q : Link) → Straddles r q → straddling_version q r ≡ r.version
straddling_is r q h = cond-true ((eqb r.page q.page) && straddles r q.version) r.version 0 (test_from r q h)

-- any other gives 0
pub straddling_none : (r : Rec) (q : Link) → (Straddles r q → ⊥) → straddling_version q r ≡ 0
straddling_none r q out = elim (cases_Bool ((eqb r.page q.page) && straddles r q.version)) [
  | inl e ↦ absurd (out (test_gives r q e))
  | inr e ↦ cond-false ((eqb r.page q.page) && straddles r q.version) r.version 0 e
]

-- one or the other
pub straddling_cases : (r : Rec) (q : Link) → (Straddles r q × (straddling_version q r ≡ r.version))
    ⊎ (straddling_version q r ≡ 0)
straddling_cases r q = elim (cases_Bool ((eqb r.page q.page) && straddles r q.version)) [
  | inl e ↦ inl (test_gives r q e, cond-true ((eqb r.page q.page) && straddles r q.version) r.version 0 e)
  | inr e ↦ inr (cond-false ((eqb r.page q.page) && straddles r q.version) r.version 0 e)
]

-- up to a version a record that straddles gives its own version
pub upto_is : (top : ℕ) (q : Link) (r : Rec) → Straddles r q → r.version ≤ top → straddling_upto top q r ≡ r.version
upto_is top q r h le = cond-true (((eqb r.page q.page) && straddles r q.version) && leb r.version top) r.version 0
    (and_from ((eqb r.page q.page) && straddles r q.version) (leb r.version top) (test_from r q h)
    (le-leb r.version top le))

-- any other gives 0
pub upto_none : (top : ℕ) (q : Link) (r : Rec) → (Straddles r q → r.version ≤ top → ⊥) → straddling_upto top q r ≡ 0
upto_none top q r out = elim (cases_Bool (((eqb r.page q.page) && straddles r q.version) && leb r.version top)) [
  | inl e ↦ (
      let parts = and_parts ((eqb r.page q.page) && straddles r q.version) (leb r.version top) e in
      absurd (out (test_gives r q parts.0) (leb-true r.version top parts.1)))
  | inr e ↦ cond-false (((eqb r.page q.page) && straddles r q.version) && leb r.version top) r.version 0 e
]

-- one or the other
pub upto_cases : (top : ℕ) (q : Link) (r : Rec) →
    (Straddles r q × (r.version ≤ top) × (straddling_upto top q r ≡ r.version)) ⊎ (straddling_upto top q r ≡ 0)
upto_cases top q r = elim (cases_Bool (((eqb r.page q.page) && straddles r q.version) && leb r.version top)) [
  | inl e ↦ (
      let parts = and_parts ((eqb r.page q.page) && straddles r q.version) (leb r.version top) e in
      inl (
        test_gives r q parts.0,
        leb-true r.version top parts.1,
        cond-true (((eqb r.page q.page) && straddles r q.version) && leb r.version top) r.version 0
            e,
      ))
  | inr e ↦ inr (cond-false (((eqb r.page q.page) && straddles r q.version) && leb r.version top) r.version 0 e)
]

-- it is at most the bound
pub upto_le : (top : ℕ) (q : Link) (r : Rec) → straddling_upto top q r ≤ top
upto_le top q r = elim (upto_cases top q r) [
  | inl h ↦ (let le = h.1 in let e = h.2 in omega arith)
  | inr none ↦ omega arith
]

-- and rises with it
pub upto_more : (top top' : ℕ) (q : Link) (r : Rec) → top ≤ top' → straddling_upto top q r ≤ straddling_upto top' q r
upto_more top top' q r le = elim (upto_cases top q r) [
  | inl h ↦ (let low = h.1 in let e = h.2 in let e' = upto_is top' q r h.0 (omega arith) in omega arith)
  | inr none ↦ omega arith
]

-- a greatest number is at most another where each record's is
pub greatest_more : (of of' : Rec → ℕ) (l : List Found) → ((f : Found) → Contains l f → of f.rec ≤ of' f.rec) →
    greatest of l ≤ greatest of' l
greatest_more of of' l h = greatest_least of l (greatest of' l) (λ f i.
    let here = h f i in
    let bound = greatest_bound of' l f i in
    omega arith)

-- what straddles a name up to some version straddles it
pub upto_below : (top : ℕ) (q : Link) (l : List Found) → greatest (straddling_upto top q) l ≤ straddling l q
upto_below top q l = greatest_more (straddling_upto top q) (straddling_version q) l
    (λ f i. elim (upto_cases top q f.rec) [
      | inl h ↦ (let at = h.2 in let same = straddling_is f.rec q h.0 in omega arith)
      | inr none ↦ omega arith
    ])

-- nothing straddles a version that is not below the newest
pub none_above : (l : List Found) (q : Link) → newest l q.page ≤ q.version → straddling l q ≡ 0
none_above l q high =
    let none : straddling l q ≤ 0 = greatest_least (straddling_version q) l 0 (λ f i.
    let bound = newest_bound l (name_of f.rec) (present_in l f i) in
    let off = straddling_none f.rec q (λ h. (let page = ap (newest l) h.0 in let over = h.2 in omega arith)) in
    omega arith) in
    omega arith

-- a name that is present and straddles another by its back version blocks it
pub blocks : (l : List Found) (u q : Link) → is_present l u ≡ true → u.page ≡ q.page → back_of l u < q.version →
    q.version < u.version → straddling l q ≡ 0 → ⊥
blocks l u q here e low high none =
    let f = found_named l u here in
    let version = ap (λ n. n.version) f.2 in
    let back = f.4 in
    let is = straddling_is f.0.rec q (ap (λ n. n.page) f.2 ∙ e, omega arith, omega arith) in
    let bound = greatest_bound (straddling_version q) l f.0 f.1 in
    omega arith
