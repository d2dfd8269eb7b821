-- The records of each page, after a number gets a record or loses it.
use Rattle.slot_tables.proofs.Common.{◌≡◌, ◌≢◌, ℕ, zero, suc, ◌+◌, ◌<◌, ◌≤◌, ◌⊎◌, ◌↔◌, inl, inr, Option, Some, None, List, [], ◌∷◌, length, get_or, set, replicate, refl, sym, ◌∙◌, ap, subst, arith, length-set, AllPairs, Contains, remove, IsSomeAnd, cases_eq, cases_lt, get_or_past, get_or-set_same, get_or-set_other, get_or-replicate, length-replicate, Contains-nil, pairs_cons, Rec, LinkedListsState, AreDisjoint, list_of, index_in, with_first, record_at, numbers_at}
use Rattle.std.proofs.Common.{take}
use Rattle.std.proofs.Common.{length-take}
use Rattle.std.proofs.lemmas.List.{get_or-take, take-set-le, ext_get_or}
use Rattle.std.proofs.lemmas.List.Elements.{Contains-get_or}
use Rattle.std.proofs.lemmas.List.Quantifiers.{all_pairs_remove}
use Rattle.dense_tables.specs.LinkedLists.{without, empty_lists}
use Rattle.dense_tables.proofs.Membership.{index_reads}
use Rattle.slot_tables.specs.declared.records.Records.TheInside.{Inside}
use Rattle.slot_tables.specs.TablesState.{IsNewer, IsNewest}
use Rattle.slot_tables.specs.Versions.{HasFree, IsTaken}
use Rattle.slot_tables.specs.Records.{RecordsInvariant}
use Rattle.slot_tables.proofs.OfRecords.Listed.{in_without, in_with_first}
use Rattle.slot_tables.proofs.OfRecords.Numbering.{page_list, record_listed, listed_record, list_falls, same_record}

-- the list in which a number with this record stands
abbrev pub key_of : Inside → Option Rec → ℕ
key_of r None = r.pages
key_of r (Some rec) = rec.page

-- pairs of members stay in order where their records stay
pairs_stay : (records records' : List (Option Rec)) (xs : List ℕ) →
    ((y : ℕ) → Contains xs y → record_at records' y ≡ record_at records y)
    → AllPairs (IsNewer records) xs → AllPairs (IsNewer records') xs
pairs_stay records records' xs same h i j d less low r s r_is s_is =
    h i j d less low r s
    (sym (same (get_or xs i d) (Contains-get_or xs i d (omega arith))) ∙ r_is)
    (sym (same (get_or xs j d) (Contains-get_or xs j d low)) ∙ s_is)

-- a number gets another record, or none, and stands in the list of that one alone
module _ (r : Inside) (h : RecordsInvariant r) (number : ℕ) (new : Option Rec) (lists : LinkedListsState)
    (within : number < length r.records)
    (places : lists.places ≡ r.lists.places) (disjoint : AreDisjoint lists) (keys : length lists.lists ≡ r.pages + 1)
    (used : ℕ) (most : used ≤ length r.records) (grows : (y : ℕ) → (y < used) ↔ ((y < r.unused) ⊎ (y ≡ number)))
    (has : (k y : ℕ) → Contains (list_of lists k) y ↔ (((k ≡ key_of r new) × (y ≡ number))
    ⊎ (Contains (list_of r.lists k) y × (y ≢ number))))
    (key_low : (rec : Rec) → new ≡ Some rec → rec.page < r.pages)
    (falls : (p : ℕ) → p < r.pages → AllPairs (IsNewer (set r.records number new)) (list_of lists p)) where
  abbrev records : List (Option Rec)
  records = set r.records number new

  own : record_at records number ≡ new
  own = get_or-set_same r.records number new None within

  others : (y : ℕ) → y ≢ number → record_at records y ≡ record_at r.records y
  others y other = get_or-set_other r.records number y new None other

  long : length (take r.pages lists.lists) ≡ r.pages
  long = length-take r.pages lists.lists ∙ (omega (arith, keys))

  its_list : (p : ℕ) → p < r.pages → numbers_at (take r.pages lists.lists) p ≡ list_of lists p
  its_list p low = get_or-take r.pages lists.lists p [] low

  no_list : (p : ℕ) → r.pages ≤ p → numbers_at (take r.pages lists.lists) p ≡ []
  no_list p past = get_or_past (take r.pages lists.lists) p [] (rw long past)

  its_page : (p y : ℕ) → p < r.pages → Contains (list_of lists p) y → (rec : Rec) × (record_at records y ≡ Some rec)
      × (rec.page ≡ p)
  its_page p y low is = elim ((has p y).0 is) [
    | inl both ↦ by new refl both.0 both.1
    | inr old ↦ (let found = listed_record r p y h low old.0 in (found.0, others y old.1 ∙ found.1, found.2))
  ]
    where
      by : (n : Option Rec) → new ≡ n → p ≡ key_of r new → y ≡ number → (rec : Rec) × (record_at records y ≡ Some rec)
          × (rec.page ≡ p)
      by None e key is_own = absurd (let at : p ≡ r.pages = rw e at key in omega (arith, low, at))
      by (Some rec) e key is_own = (rec, rw is_own (own ∙ e), sym (rw e at key))

  its_listed : (y : ℕ) (rec : Rec) → record_at records y ≡ Some rec → (rec.page < r.pages)
      × Contains (list_of lists rec.page) y
  its_listed y rec is = elim (cases_eq y number) [
    | inl is_own ↦
        let e : new ≡ Some rec = sym own ∙ rw is_own at is in
        (key_low rec e, (has rec.page y).1 (inl (rw e refl, is_own)))
    | inr other ↦
        let old = record_listed r y rec h (sym (others y other) ∙ is) in
        (old.0, (has rec.page y).1 (inr (old.1, other)))
  ]

  its_free : (y : ℕ) → Contains (list_of lists r.pages) y ↔ ((y < used) × (record_at records y ≡ None))
  its_free y = (forth, back)
    where
      forth : Contains (list_of lists r.pages) y → (y < used) × (record_at records y ≡ None)
      forth is = elim ((has r.pages y).0 is) [
        | inl both ↦ ((grows y).1 (inr both.1), by new refl both.0 both.1)
        | inr old ↦ (let free = (h.free y).0 old.0 in ((grows y).1 (inl free.0), others y old.1 ∙ free.1))
      ]
        where
          by : (n : Option Rec) → new ≡ n → r.pages ≡ key_of r new → y ≡ number → record_at records y ≡ None
          by None e key is_own = rw is_own (own ∙ e)
          by (Some rec) e key is_own = absurd (let at : r.pages ≡ rec.page = rw e at key in
              omega (arith, key_low rec e, at))

      back : (y < used) × (record_at records y ≡ None) → Contains (list_of lists r.pages) y
      back (low, none) = elim ((grows y).0 low) [
        | inr is_own ↦ (let e : new ≡ None = sym own ∙ rw is_own at none in (has r.pages y).1 (inl (rw e refl, is_own)))
        | inl old ↦ elim (cases_eq y number) [
          | inl is_own ↦ (let e : new ≡ None = sym own ∙ rw is_own at none in
              (has r.pages y).1 (inl (rw e refl, is_own)))
          | inr other ↦ (has r.pages y).1 (inr ((h.free y).1 (old, sym (others y other) ∙ none), other))
        ]
      ]

  its_fresh : (y : ℕ) → used ≤ y → record_at records y ≡ None
  its_fresh y past =
      let other : y ≢ number = λ e. (let low = (grows y).1 (inr e) in omega arith) in
      let old : r.unused ≤ y = elim (cases_lt y r.unused) [
        | inl low ↦ absurd (let less = (grows y).1 (inl low) in
            omega arith)
        | inr high ↦ high
      ] in
      others y other ∙ h.fresh y old

  pub renumbered : RecordsInvariant (record r { records = set r.records number new; lists = lists; unused = used })
  renumbered = record {
    small = rw (length-set r.records number new) h.small;
    few = h.few;
    places = places ∙ h.places ∙ sym (length-set r.records number new);
    keys = keys;
    disjoint = disjoint;
    versions = record {
      page = λ p y is. elim (cases_lt p r.pages) [
        | inl low ↦ its_page p y low (rw (its_list p low) at is)
        | inr past ↦ absurd (Contains-nil y (rw (no_list p past) at is))
      ];
      listed = λ y rec is.
          let found = its_listed y rec is in
          (rw long found.0, rw (its_list rec.page found.0) found.1);
      falls = λ p. elim (cases_lt p r.pages) [
        | inl low ↦ rw (its_list p low) (falls p low)
        | inr past ↦ rw (no_list p past) (λ i j d less low. absurd (omega arith))
      ];
    };
    unused = rw (length-set r.records number new) most;
    fresh = its_fresh;
    free = its_free;
  }

-- the front of a list after a write
take_set : {X : Type 0} (n : ℕ) (xs : List X) (k : ℕ) (v : X) → take n (set xs k v) ≡ set (take n xs) k v
take_set zero xs k v = refl
take_set (suc n) [] k v = refl
take_set (suc n) (x ∷ xs) zero v = refl
take_set (suc n) (x ∷ xs) (suc k) v = ap (λ rest. x ∷ rest) (take_set n xs k v)

-- a number that has no record stands in no list of these any more
pub record IsLoose (r : Inside) (rest : LinkedListsState) (used number : ℕ) : Type 0 where
  pub within : number < length r.records
  pub none : record_at r.records number ≡ None
  pub places : rest.places ≡ r.lists.places
  pub keys : length rest.lists ≡ r.pages + 1
  pub has : (k y : ℕ) → Contains (list_of rest k) y ↔ (Contains (list_of r.lists k) y × (y ≢ number))
  pub lists : (p : ℕ) → p ≢ r.pages → list_of rest p ≡ list_of r.lists p
  pub front : take r.pages rest.lists ≡ take r.pages r.lists.lists
  pub most : used ≤ length r.records
  pub grows : (y : ℕ) → (y < used) ↔ ((y < r.unused) ⊎ (y ≡ number))

module _ (r : Inside) (h : RecordsInvariant r) where
  -- an unused number is in no list
  unlisted : (k : ℕ) → list_of r.lists r.pages ≡ [] → Contains (list_of r.lists k) r.unused → ⊥
  unlisted k empty has = elim (cases_lt k r.pages) [
    | inl low ↦
        let found = listed_record r k r.unused h low has in
        (let no : None ≡ Some found.0 = sym (h.fresh r.unused (omega arith)) ∙ found.1 in cc)
    | inr past ↦ elim (cases_eq k r.pages) [
      | inl here ↦ Contains-nil r.unused (rw (here, empty) at has)
      | inr other ↦ Contains-nil r.unused (rw (get_or_past r.lists.lists k [] (let keys = h.keys in omega arith)) at
          has)
    ]
  ]

  -- such a number is taken
  pub loose : (rest : LinkedListsState) (used number : ℕ) → HasFree r.records →
      IsTaken r.lists rest r.pages r.unused used number → IsLoose r rest used number
  loose rest used number free taken = elim taken [
    | inl old ↦ (
        let its = (h.free number).0 old.0 in
        let most = h.unused in
        rw (old.1, old.2) (record {
          within = omega (arith, its.0);
          none = its.1;
          places = refl;
          keys = length-set r.lists.lists r.pages _ ∙ h.keys;
          has = in_without r.lists r.pages number h.disjoint old.0;
          lists = λ p other. get_or-set_other r.lists.lists r.pages p _ [] other;
          front = take-set-le r.pages r.lists.lists r.pages _ (omega arith);
          most = most;
          grows = λ y. (λ low. inl low, λ either. elim either [ inl low ↦ low | inr e ↦ rw e its.0 ]);
        }))
    | inr new ↦ (
        let unused : r.unused < length r.records = elim (cases_lt free.number r.unused) [
          | inl low ↦ absurd (Contains-nil free.number (rw new.0 at ((h.free free.number).1 (low, free.free))))
          | inr past ↦ (let low = free.within in omega arith)
        ] in
        rw (new.1, new.2, new.3) (record {
          within = unused;
          none = h.fresh r.unused (omega arith);
          places = refl;
          keys = h.keys;
          has = λ k y. (λ has. (has, λ e. unlisted k new.0 (rw e at has)), λ both. both.0);
          lists = λ p other. refl;
          front = refl;
          most = omega arith;
          grows = λ y. (
            λ low. elim (cases_lt y r.unused) [ inl less ↦ inl less | inr past ↦ inr (omega arith) ],
            λ either. elim either [ inl low ↦ omega arith | inr e ↦ omega arith ],
          );
        }))
  ]

-- such a number gets a record that is newer than those of its page
module _ (r : Inside) (h : RecordsInvariant r) (rest : LinkedListsState) (used number : ℕ)
    (l : IsLoose r rest used number) (rec : Rec)
    (low : rec.page < r.pages) (newest : IsNewest r.records rec) where
  abbrev with_it : LinkedListsState
  with_it = with_first rest rec.page number

  apart : rec.page ≢ r.pages
  apart e = omega (arith, low)

  has_it : (k y : ℕ) → Contains (list_of with_it k) y
      ↔ (((k ≡ rec.page) × (y ≡ number)) ⊎ (Contains (list_of r.lists k) y × (y ≢ number)))
  has_it k y =
      let first = in_with_first rest rec.page number (omega (arith, l.keys)) k y in
      let old = l.has k y in (
        λ is. elim (first.0 is) [ inl both ↦ inl both | inr has ↦ inr (old.0 has) ],
        λ either. elim either [ inl both ↦ first.1 (inl both) | inr both ↦ first.1 (inr (old.1 both)) ],
      )

  member_other : (p y : ℕ) → p < r.pages → Contains (list_of r.lists p) y → y ≢ number
  member_other p y p_low has e =
      let found = listed_record r p number h p_low (subst (Contains (list_of r.lists p)) e has) in
      (let no : None ≡ Some found.0 = sym l.none ∙ found.1 in cc)

  entry : (y : ℕ) → y ≢ number → record_at (set r.records number (Some rec)) y ≡ record_at r.records y
  entry y other = get_or-set_other r.records number y (Some rec) None other

  own_list : list_of with_it rec.page ≡ number ∷ list_of r.lists rec.page
  own_list =
      get_or-set_same rest.lists rec.page (number ∷ list_of rest rec.page) [] (omega (arith, l.keys))
      ∙ ap (λ xs. number ∷ xs) (l.lists rec.page apart)

  its_falls : (p : ℕ) → p < r.pages → AllPairs (IsNewer (set r.records number (Some rec))) (list_of with_it p)
  its_falls p p_low =
      let old = pairs_stay r.records (set r.records number (Some rec)) (list_of r.lists p)
      (λ y has. entry y (member_other p y p_low has)) (list_falls r p h p_low) in
      elim (cases_eq p rec.page) [
        | inl here ↦
            rw (here, own_list)
            (pairs_cons (IsNewer (set r.records number (Some rec))) number (list_of r.lists rec.page)
            (λ y has a s a_is s_is.
            let other = member_other rec.page y low has in
            let found = listed_record r rec.page y h low has in
            let one = same_record rec a (sym (get_or-set_same r.records number (Some rec) None l.within) ∙ a_is) in
            let two = same_record found.0 s (sym found.1 ∙ sym (entry y other) ∙ s_is) in
            let newer = newest y s (sym (entry y other) ∙ s_is) (ap (λ f. f.page) (sym two) ∙ found.2) in
            rw (← one) newer)
            (rw here at old))
        | inr other ↦
            let same = get_or-set_other rest.lists rec.page p (number ∷ list_of rest rec.page) [] other
            ∙ l.lists p (λ e. omega (arith, p_low)) in
            rw same old
      ]

  pub numbered : AreDisjoint with_it →
      RecordsInvariant (record r { records = set r.records number (Some rec); lists = with_it; unused = used })
  numbered its_disjoint = renumbered r h number (Some rec) with_it l.within l.places its_disjoint
      (length-set rest.lists rec.page _ ∙ l.keys) used l.most
      l.grows has_it (λ its e. rw (← same_record rec its e) low) its_falls

  pub numbered_pages : take r.pages with_it.lists ≡ set (take r.pages r.lists.lists) rec.page (number ∷ numbers_at
      (take r.pages r.lists.lists) rec.page)
  numbered_pages =
      take_set r.pages rest.lists rec.page (number ∷ list_of rest rec.page)
      ∙ ap (λ xs. set xs rec.page (number ∷ list_of rest rec.page)) l.front
      ∙ ap (λ xs. set (take r.pages r.lists.lists) rec.page (number ∷ xs)) (l.lists rec.page apart
      ∙ sym (page_list r rec.page low))

-- a number loses its record
module _ (r : Inside) (h : RecordsInvariant r) (number : ℕ) (rec : Rec) (is : record_at r.records number ≡ Some rec)
    (within : number < length r.records) where
  abbrev left : LinkedListsState
  left = without r.lists rec.page number

  abbrev freed : LinkedListsState
  freed = with_first left r.pages number

  listed : (rec.page < r.pages) × Contains (list_of r.lists rec.page) number
  listed = record_listed r number rec h is

  left_keys : length left.lists ≡ r.pages + 1
  left_keys = length-set r.lists.lists rec.page _ ∙ h.keys

  has_left : (k y : ℕ) → Contains (list_of freed k) y
      ↔ (((k ≡ r.pages) × (y ≡ number)) ⊎ (Contains (list_of r.lists k) y × (y ≢ number)))
  has_left k y =
      let first = in_with_first left r.pages number (omega (arith, left_keys)) k y in
      let old = in_without r.lists rec.page number h.disjoint listed.1 k y in (
        λ has. elim (first.0 has) [ inl both ↦ inl both | inr one ↦ inr (old.0 one) ],
        λ either. elim either [ inl both ↦ first.1 (inl both) | inr both ↦ first.1 (inr (old.1 both)) ],
      )

  freed_list : (p : ℕ) → p < r.pages → list_of freed p ≡ list_of left p
  freed_list p low = get_or-set_other left.lists r.pages p _ [] (λ e. omega (arith, low))

  left_falls : (p : ℕ) → p < r.pages → AllPairs (IsNewer (set r.records number None)) (list_of freed p)
  left_falls p low =
      pairs_stay r.records (set r.records number None) (list_of freed p)
      (λ y has. get_or-set_other r.records number y None None (other y has)) old
    where
      other : (y : ℕ) → Contains (list_of freed p) y → y ≢ number
      other y has = elim ((has_left p y).0 has) [
        | inl both ↦ absurd (let at = both.0 in omega (arith, low, at))
        | inr both ↦ both.1
      ]

      old : AllPairs (IsNewer r.records) (list_of freed p)
      old = rw (freed_list p low) (elim (cases_eq p rec.page) [
        | inl here ↦
            let own = get_or-set_same r.lists.lists rec.page (remove (list_of r.lists rec.page) (index_in
            (list_of r.lists rec.page) number)) [] (omega (arith, h.keys, listed.0)) in
            rw (here, own)
            (all_pairs_remove (IsNewer r.records) (list_of r.lists rec.page)
            (index_in (list_of r.lists rec.page) number)
            (index_reads (list_of r.lists rec.page) number listed.1).0 (list_falls r rec.page h listed.0))
        | inr apart ↦
            let same = get_or-set_other r.lists.lists rec.page p (remove (list_of r.lists rec.page) (index_in
            (list_of r.lists rec.page) number)) [] apart in
            rw same (list_falls r p h low)
      ])

  used : number < r.unused
  used = elim (cases_lt number r.unused) [
    | inl low ↦ low
    | inr past ↦ absurd (let no : None ≡ Some rec = sym (h.fresh number past) ∙ is in cc)
  ]

  pub unnumbered : AreDisjoint freed →
      RecordsInvariant (record r { records = set r.records number None; lists = freed })
  unnumbered its_disjoint = renumbered r h number None freed within refl its_disjoint
      (length-set left.lists r.pages _ ∙ left_keys) r.unused h.unused
      (λ y. (λ low. inl low, λ either. elim either [ inl low ↦ low | inr e ↦ rw e used ])) has_left
      (λ its e. absurd (cc)) left_falls

  pub unnumbered_pages : take r.pages freed.lists
      ≡ set (take r.pages r.lists.lists) rec.page (remove (numbers_at (take r.pages r.lists.lists) rec.page)
      (index_in (numbers_at
      (take r.pages r.lists.lists) rec.page) number))
  unnumbered_pages =
      take-set-le r.pages left.lists r.pages _ (omega arith)
      ∙ take_set r.pages r.lists.lists rec.page _
      ∙ ap (λ xs. set (take r.pages r.lists.lists) rec.page (remove xs (index_in xs number)))
      (sym (page_list r rec.page listed.0))

-- where all lists are empty, no number has a record
module _ (r : Inside) (count : ℕ) (lists : r.lists ≡ empty_lists (r.pages + 1) count) where
  empty : (k : ℕ) → list_of r.lists k ≡ []
  empty k = rw lists (elim (cases_lt k (r.pages + 1)) [
    | inl low ↦ get_or-replicate {A = List ℕ} (r.pages + 1) k [] [] low
    | inr past ↦ get_or_past {X = List ℕ} (replicate (r.pages + 1) []) k []
        (rw (length-replicate {A = List ℕ} (r.pages + 1) []) past)
  ])

  keys : length r.lists.lists ≡ r.pages + 1
  keys = rw lists (length-replicate {A = List ℕ} (r.pages + 1) [])

  pub none_numbered : r.records ≡ replicate count None → r.unused ≡ 0 → count ≤ 65536 → r.pages ≤ 65536 →
      RecordsInvariant r
  none_numbered none unused small few = record {
    small = rw long small;
    few = few;
    places = rw lists (sym long);
    keys = keys;
    disjoint = record {
      within = λ k y has. absurd (Contains-nil y (rw (empty k) at has));
      apart = λ k j y has other. absurd (Contains-nil y (rw (empty k) at has));
      once = λ k i j d less low. absurd (let no = rw (empty k) at low in omega arith);
    };
    versions = record {
      page = λ p y is. absurd (Contains-nil y (rw (no_list p) at is));
      listed = λ y rec is. absurd (let no : None ≡ Some rec = sym (no_record y) ∙ is in cc);
      falls = λ p. rw (no_list p) (λ i j d less low. absurd (omega arith));
    };
    unused = omega (arith, unused);
    fresh = λ y past. no_record y;
    free = λ y. (
      λ has. absurd (Contains-nil y (rw (empty r.pages) at has)),
      λ both. absurd (let low = both.0 in omega arith),
    );
  }
    where
      long : length r.records ≡ count
      long = rw none (length-replicate {A = Option Rec} count None)

      no_record : (y : ℕ) → record_at r.records y ≡ None
      no_record y = rw none (elim (cases_lt y count) [
        | inl low ↦ get_or-replicate {A = Option Rec} count y None None low
        | inr past ↦ get_or_past {X = Option Rec} (replicate count None) y None
            (rw (length-replicate {A = Option Rec} count None) past)
      ])

      no_list : (p : ℕ) → numbers_at (take r.pages r.lists.lists) p ≡ []
      no_list p = elim (cases_lt p r.pages) [
        | inl low ↦ page_list r p low ∙ empty p
        | inr past ↦ get_or_past (take r.pages r.lists.lists) p []
            (rw (length-take r.pages r.lists.lists) (omega (arith, keys)))
      ]

  pub none_pages : take r.pages r.lists.lists ≡ replicate r.pages []
  none_pages =
      ext_get_or [] (take r.pages r.lists.lists) (replicate r.pages []) (long
      ∙ sym (length-replicate {A = List ℕ} r.pages []))
      (λ p low.
      let lies : p < r.pages = rw long at low in
      page_list r p lies ∙ empty p ∙ sym (get_or-replicate {A = List ℕ} r.pages p [] [] lies))
    where
      long : length (take r.pages r.lists.lists) ≡ r.pages
      long = length-take r.pages r.lists.lists ∙ omega (arith, keys)

-- a number that has a record of a page
pub some_record : (o : Option Rec) (page : ℕ) → IsSomeAnd o (λ r. r.page ≡ page) → (rec : Rec) × (o ≡ Some rec)
    × (rec.page ≡ page)
some_record None page h = absurd h
some_record (Some rec) page h = (rec, refl, h)
