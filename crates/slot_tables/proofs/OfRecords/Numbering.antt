-- The records of each page by their numbers.
use Rattle.slot_tables.proofs.Common.{◌≡◌, ℕ, ◌+◌, ◌<◌, inl, inr, Option, Some, None, List, [], ◌∷◌, length, sym, ◌∙◌, ap, arith, AllPairs, Contains, Contains-nil, Contains-cases, Rec, list_of, rest_from, index_in, record_at, numbers_at}
use Rattle.std.proofs.Common.{take, drop, length-take}
use Rattle.std.proofs.lemmas.List.{get_or-take, get_or-drop, length-drop}
use Rattle.list_lemmas.proofs.Pairs.{in_order, pairs_head}
use Rattle.slot_tables.specs.declared.records.Records.TheInside.{Inside}
use Rattle.slot_tables.specs.TablesState.{IsNewer}
use Rattle.slot_tables.specs.Versions.{Names}
use Rattle.slot_tables.specs.Records.{RecordsInvariant}
use Rattle.slot_tables.proofs.OfRecords.Rising.{rest_starts}

-- a table has one record of a number
pub same_record : (one other : Rec) → Some one ≡ Some other → one ≡ other
same_record one other e = cc

-- the list of a page
pub page_list : (r : Inside) (page : ℕ) → page < r.pages → numbers_at (take r.pages r.lists.lists) page
    ≡ list_of r.lists page
page_list r page low = get_or-take r.pages r.lists.lists page [] low

-- there are as many lists as pages
pub pages_long : (r : Inside) → RecordsInvariant r → length (take r.pages r.lists.lists) ≡ r.pages
pages_long r h = (let keys = h.keys in length-take r.pages r.lists.lists ∙ (omega arith))

-- a record stands in the list of its page
pub record_listed : (r : Inside) (number : ℕ) (rec : Rec) → RecordsInvariant r → record_at r.records number ≡ Some rec
    → (rec.page < r.pages) × Contains (list_of r.lists rec.page) number
record_listed r number rec h is =
    let listed = h.versions.listed number rec is in
    let low : rec.page < r.pages = rw (pages_long r h) at listed.0 in
    (low, rw (page_list r rec.page low) at listed.1)

-- and what stands there is a record of the page
pub listed_record : (r : Inside) (page number : ℕ) → RecordsInvariant r → page < r.pages →
    Contains (list_of r.lists page) number
    → (rec : Rec) × (record_at r.records number ≡ Some rec) × (rec.page ≡ page)
listed_record r page number h low has = h.versions.page page number (rw (page_list r page low) has)

pub list_falls : (r : Inside) (page : ℕ) → RecordsInvariant r → page < r.pages →
    AllPairs (IsNewer r.records) (list_of r.lists page)
list_falls r page h low = rw (page_list r page low) at (h.versions.falls page)

-- the rest of a list keeps the order
pairs_drop : (R : ℕ → ℕ → Type 0) (xs : List ℕ) (n : ℕ) → AllPairs R xs → AllPairs R (drop n xs)
pairs_drop R xs n h i j d less low =
    rw (get_or-drop n xs i d, get_or-drop n xs j d)
    (h (n + i) (n + j) d (omega arith) (omega (arith, low, length-drop n xs)))

-- the record that is looked for stands in what is left of the list of its page
abbrev pub IsAhead : Inside → ℕ → ℕ → Option ℕ → Type 0
IsAhead r page version next =
    (number : ℕ) (rec : Rec) → record_at r.records number ≡ Some rec → Names page version rec
    → Contains (rest_from (list_of r.lists page) next) number

module _ (r : Inside) (h : RecordsInvariant r) (page version : ℕ) (low : page < r.pages) where
  -- at first it is the whole list
  pub ahead_first : (first : Option ℕ) → rest_from (list_of r.lists page) first ≡ list_of r.lists page →
      IsAhead r page version first
  ahead_first first whole number rec is names =
      rw (whole, ← names.0) (record_listed r number rec h is).1

  -- of two records with one name the numbers are the same
  pub one_number : (x y : ℕ) (r1 r2 : Rec) → record_at r.records x ≡ Some r1 → record_at r.records y ≡ Some r2
      → Names page version r1 → Names page version r2 → x ≡ y
  one_number x y r1 r2 is1 is2 n1 n2 =
      let has1 : Contains (list_of r.lists page) x = rw (← n1.0) (record_listed r x r1 h is1).1 in
      let has2 : Contains (list_of r.lists page) y = rw (← n2.0) (record_listed r y r2 h is2).1 in
      elim (in_order (IsNewer r.records) (list_of r.lists page) x y (list_falls r page h low) has1 has2) [
        | inl same ↦ same
        | inr either ↦ elim either [
          | inl newer ↦ absurd (let less = newer r1 r2 is1 is2 in omega (arith, n1.1, n2.1, less))
          | inr newer ↦ absurd (let less = newer r2 r1 is2 is1 in omega (arith, n1.1, n2.1, less))
        ]
      ]

  module _ (at : ℕ) (here : Rec) (next : Option ℕ) (ahead : IsAhead r page version (Some at))
      (is : record_at r.records at ≡ Some here)
      (order : rest_from (list_of r.lists page) (Some at) ≡ at ∷ rest_from (list_of r.lists page) next) where
    -- past a newer record
    pub ahead_next : version < here.version → IsAhead r page version next
    ahead_next newer number rec rec_is names =
        elim (Contains-cases at (rest_from (list_of r.lists page) next) number
        (rw order at (ahead number rec rec_is names))) [
          | inl same ↦ absurd (let one : Some here ≡ Some rec = sym is
              ∙ rw (← same) at rec_is in let equal : here.version ≡ rec.version = ap
              (λ f. f.version) (same_record here rec one) in omega (arith, names.1, equal, newer))
          | inr rest ↦ rest
        ]

  -- at an older one it is not there
  pub none_behind : (at : ℕ) (here : Rec) → IsAhead r page version (Some at) → record_at r.records at ≡ Some here
      → Contains (list_of r.lists page) at
      → here.version < version → (number : ℕ) (rec : Rec) → record_at r.records number ≡ Some rec →
      Names page version rec → ⊥
  none_behind at here ahead is has older number rec rec_is names =
      let xs = list_of r.lists page in
      let starts = rest_starts xs at has in
      elim (Contains-cases at (drop (index_in xs at + 1) xs) number (rw starts at (ahead number rec rec_is names))) [
        | inl same ↦ (let one : Some here ≡ Some rec = sym is ∙ rw (← same) at rec_is in
            let equal : here.version ≡ rec.version = ap
            (λ f. f.version) (same_record here rec one) in omega (arith, names.1, equal, older))
        | inr rest ↦ (
            let falls = pairs_drop (IsNewer r.records) xs (index_in xs at) (list_falls r page h low) in
            let less = pairs_head (IsNewer r.records) at (drop (index_in xs at + 1) xs) number (rw starts at falls) rest
            here rec is rec_is in
            omega (arith, names.1, older, less))
      ]

  -- at the end it is not there
  pub none_left : IsAhead r page version None → (number : ℕ) (rec : Rec) → record_at r.records number ≡ Some rec →
      Names page version rec → ⊥
  none_left ahead number rec is names = Contains-nil number (ahead number rec is names)
