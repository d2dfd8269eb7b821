-- Records of a page are released, one after the other from the newest on.
use Rattle.version_index.proofs.Common.{◌≡◌, ◌≢◌, ℕ, suc, ◌+◌, ◌<◌, ◌≤◌, ◌⊎◌, not, eqb, List, [], ◌∷◌, ◌++◌, length, set, Contains, IfSome, Option, Some, None, refl, sym, ap, ◌∙◌, subst, inl, inr, arith, eq-eqb, slice_get, option_map_or, cases_eq, cases_lt, cond-true, cond-false, length-set, get_or-set_same, get_or-set_other, get_or_past, none-some, same_Some, Contains-cases, Contains-first, Contains-nil, cases_Option, pairs_head, Rec, slots_of, TablesState, IsTablesState, record_at, number_at, numbers_at, OnlyDerives, IsTaken, newest_at, freed, version_at}
use Rattle.std.proofs.Common.{AllPairs, ne_eqb}
use Rattle.list_lemmas.proofs.Membership.{Contains-rest}
use Rattle.list_lemmas.proofs.Pairs.{pairs_tail}
use Rattle.dense_tables.specs.LinkedLists.{index_in, next_in}
use Rattle.slot_tables.specs.TablesState.{IsNewer, AreVersions}
use Rattle.version_index.specs.Committing.{AreReleased}
use Rattle.version_index.proofs.OfCommit.Newest.{head_of, headless, head_number, no_number}

-- a list about one of its numbers, and the number behind that
record IsSplit (xs : List ℕ) (x : ℕ) : Type 0 where
  before : List ℕ
  after : List ℕ
  whole : xs ≡ before ++ x ∷ after
  behind : next_in xs x ≡ slice_get after 0

split_at : (xs : List ℕ) (x : ℕ) → Contains xs x → IsSplit xs x
split_at [] x i = absurd (Contains-nil x i)
split_at (y ∷ ys) x i = elim (cases_eq y x) [
  | inl here ↦ record {
    before = [];
    after = ys;
    whole = ap (λ z. z ∷ ys) here;
    behind = ap (λ n. slice_get (y ∷ ys) (n + 1))
        (cond-false (not (eqb y x)) (1 + index_in ys x) 0 (ap not (eq-eqb y x here)));
  }
  | inr off ↦ (
      let rest = split_at ys x (elim (Contains-cases y ys x i) [ inl same ↦ absurd (off same) | inr later ↦ later ]) in
      record {
        before = y ∷ rest.before;
        after = rest.after;
        whole = ap (λ l. y ∷ l) rest.whole;
        behind = ap (λ n. slice_get (y ∷ ys) (n + 1))
            (cond-true (not (eqb y x)) (1 + index_in ys x) 0 (ap not (ne_eqb y x off)))
            ∙ ap (slice_get (y ∷ ys)) (let more : 1 + index_in ys x + 1 ≡ suc (index_in ys x + 1) = omega arith in more)
            ∙ rest.behind;
      })
]

-- where each of a list is in order with the later ones
in_before : (R : ℕ → ℕ → Type 0) (before : List ℕ) (x : ℕ) (after : List ℕ) →
    AllPairs R (before ++ x ∷ after) → (y : ℕ) →
    Contains (before ++ x ∷ after) y → (R y x) ⊎ ((y ≡ x) ⊎ (Contains after y × R x y))
in_before R [] x after p y i = elim (Contains-cases x after y i) [
  | inl same ↦ inr (inl (sym same))
  | inr later ↦ inr (inr (later, pairs_head R x after y p later))
]
in_before R (b ∷ bs) x after p y i = elim (Contains-cases b (bs ++ x ∷ after) y i) [
  | inl same ↦ inl (subst (λ z. R z x) same (pairs_head R b (bs ++ x ∷ after) x p (x_in bs)))
  | inr later ↦ in_before R bs x after (pairs_tail R b (bs ++ x ∷ after) p) y later
]
  where
    x_in : (bs : List ℕ) → Contains (bs ++ x ∷ after) x
    x_in [] = Contains-first x after
    x_in (b ∷ bs) = Contains-rest b (bs ++ x ∷ after) x (x_in bs)

after_pairs : (R : ℕ → ℕ → Type 0) (before : List ℕ) (x : ℕ) (after : List ℕ) → AllPairs R (before ++ x ∷ after) →
    AllPairs R after
after_pairs R [] x after p = pairs_tail R x after p
after_pairs R (b ∷ bs) x after p = after_pairs R bs x after (pairs_tail R b (bs ++ x ∷ after) p)

-- which record of a page comes after one
pub record IsOlderOf (k : TablesState) (r : Rec) (x z : ℕ) : Type 0 where
  pub rec : Rec
  pub is : record_at k.records z ≡ Some rec
  pub own_page : rec.page ≡ r.page
  pub older : rec.version < r.version
  pub between :
      (y : ℕ) (s : Rec) → record_at k.records y ≡ Some s → s.page ≡ r.page → y ≢ x →
      (r.version < s.version) ⊎ (s.version ≤ rec.version)

module _ (k : TablesState) (v : AreVersions k.records k.pages) (x : ℕ) (r : Rec)
    (is : record_at k.records x ≡ Some r) where
  abbrev xs : List ℕ
  xs = numbers_at k.pages r.page

  its_split : IsSplit xs x
  its_split = split_at xs x (v.listed x r is).1

  falls : AllPairs (IsNewer k.records) (its_split.before ++ x ∷ its_split.after)
  falls = subst (AllPairs (IsNewer k.records)) its_split.whole (v.falls r.page)

  placed : (y : ℕ) (s : Rec) → record_at k.records y ≡ Some s → s.page ≡ r.page →
      (IsNewer k.records y x) ⊎ ((y ≡ x) ⊎ (Contains its_split.after y × IsNewer k.records x y))
  placed y s is_y of_page =
      in_before (IsNewer k.records) its_split.before x its_split.after falls y
      (subst (λ l. Contains l y) its_split.whole (subst (λ p. Contains (numbers_at k.pages p) y) of_page
      (v.listed y s is_y).1))

  -- where none comes, each other one of the page is newer
  pub none_older : next_in xs x ≡ None → (y : ℕ) (s : Rec) → record_at k.records y ≡ Some s → s.page ≡ r.page → y ≢ x →
      r.version < s.version
  none_older e y s is_y of_page off = elim (placed y s is_y of_page) [
    | inl newer ↦ newer s r is_y is
    | inr rest ↦ elim rest [
      | inl same ↦ absurd (off same)
      | inr later ↦ absurd (Contains-nil y (subst (λ l. Contains l y)
          (headless its_split.after (sym its_split.behind ∙ e)) later.0))
    ]
  ]

  pub some_older : (z : ℕ) → next_in xs x ≡ Some z → IsOlderOf k r x z
  some_older z e =
      let head = head_of its_split.after z (sym its_split.behind ∙ e) in
      let z_in : Contains its_split.after z = subst (λ l. Contains l z) (sym head.1) (Contains-first z head.0) in
      let in_xs : Contains xs z = subst (λ l. Contains l z) (sym its_split.whole) (after_in its_split.before z_in) in
      let own = v.page r.page z in_xs in
      let rest = subst (AllPairs (IsNewer k.records)) head.1
      (after_pairs (IsNewer k.records) its_split.before x its_split.after falls) in
      record {
        rec = own.0;
        is = own.1;
        own_page = own.2;
        older = after_newer its_split.before falls z_in r own.0 is own.1;
        between = λ y s is_y of_page off. elim (placed y s is_y of_page) [
          | inl newer ↦ inl (newer s r is_y is)
          | inr others ↦ elim others [
            | inl same ↦ absurd (off same)
            | inr later ↦ elim (Contains-cases z head.0 y (subst (λ l. Contains l y) head.1 later.0)) [
              | inl here ↦ (
                  let one : s ≡ own.0 = same_Some s own.0 (sym is_y ∙ ap (record_at k.records) (sym here) ∙ own.1) in
                  let equal = ap (λ (t : Rec). t.version) one in
                  inr (omega arith))
              | inr behind ↦ (let low = pairs_head (IsNewer k.records) z head.0 y rest behind own.0 s own.1 is_y in
                  inr (omega arith))
            ]
          ]
        ];
      }
    where
      after_in : {z : ℕ} (before : List ℕ) → Contains its_split.after z → Contains (before ++ x ∷ its_split.after) z
      after_in {z} [] i = Contains-rest x its_split.after z i
      after_in {z} (b ∷ bs) i = Contains-rest b (bs ++ x ∷ its_split.after) z (after_in bs i)

      after_newer : {z : ℕ} (before : List ℕ) → AllPairs (IsNewer k.records) (before ++ x ∷ its_split.after) →
          Contains its_split.after z →
          IsNewer k.records x z
      after_newer {z} [] p i = pairs_head (IsNewer k.records) x its_split.after z p i
      after_newer {z} (b ∷ bs) p i = after_newer bs (pairs_tail (IsNewer k.records) b (bs ++ x ∷ its_split.after) p) i

-- its number is in range
pub older_below : (k : TablesState) → IsTablesState k → (x : ℕ) (r : Rec) → record_at k.records x ≡ Some r →
    (next : Option ℕ) →
    next ≡ next_in (numbers_at k.pages r.page) x → IfSome next (λ z. z < slots_of k.shape)
older_below k sizes x r is None e = tt
older_below k sizes x r is (Some z) e =
    let older = some_older k sizes.versions x r is z (sym e) in
    let all = sizes.records in
    elim (cases_lt z (length k.records)) [
      | inl low ↦ omega arith
      | inr past ↦ absurd (none-some older.rec (sym (get_or_past k.records z None past) ∙ older.is))
    ]

-- a version is not above that of the next record
pub record IsNotAbove (k : TablesState) (next : Option ℕ) (s : Rec) : Type 0 where
  pub number : ℕ
  pub rec : Rec
  pub is_next : next ≡ Some number
  pub is : record_at k.records number ≡ Some rec
  pub low : s.version ≤ rec.version

-- a record is none of those that were released so far
abbrev pub Stays : TablesState → ℕ → ℕ → Option ℕ → Rec → Type 0
Stays k page version next s = (s.page ≢ page) ⊎ ((s.version ≤ version) ⊎ IsNotAbove k next s)

-- the records of the page above the version, and above the next one, are released
pub record IsTaking (k new : TablesState) (page version : ℕ) (next : Option ℕ) : Type 0 where
  pub rest : new ≡ record k { answerers = new.answerers; waits = new.waits }
  pub answerers : length new.answerers ≡ length k.answerers
  pub waits : length new.waits ≡ length k.waits
  pub within : IfSome next (λ x. x < slots_of new.shape)
  pub its : (x : ℕ) → next ≡ Some x → (r : Rec) × (record_at k.records x ≡ Some r) × (r.page ≡ page)
  pub let_go :
      (y : ℕ) (s : Rec) → record_at k.records y ≡ Some s → s.page ≡ page → version < s.version →
      ((x : ℕ) (r : Rec) → next ≡ Some x → record_at k.records x ≡ Some r → r.version < s.version) →
      (number_at new.answerers y ≡ None) × (number_at new.waits y ≡ None)
  pub others :
      (y : ℕ) → ((s : Rec) → record_at k.records y ≡ Some s → Stays k page version next s) →
      (number_at new.answerers y ≡ number_at k.answerers y) × (number_at new.waits y ≡ number_at k.waits y)

-- how much is left to go through
abbrev pub over_of : List (Option Rec) → Option ℕ → ℕ
over_of records next = option_map_or (λ x. option_map_or (λ r. r.version) (record_at records x) 0 + 1) next 0

abbrev pub left_over : TablesState → Option ℕ → ℕ
left_over k next = over_of k.records next

module _ (k : TablesState) (sizes : IsTablesState k) (page version : ℕ) where
  pub none_taken : (next : Option ℕ) → next ≡ newest_at k page → IfSome next (λ x. x < slots_of k.shape) →
      IsTaking k k page version next
  none_taken next is_newest within = record {
    rest = refl;
    answerers = refl;
    waits = refl;
    within = within;
    its = λ x e. (let head = head_number k sizes.versions page x (sym is_newest ∙ e) in
        (head.rec, head.is, head.own_page));
    let_go = λ y s is of_page above over. elim (cases_Option (newest_at k page)) [
      | inl none ↦ absurd (no_number k sizes.versions page none y s is of_page)
      | inr some ↦ (
          let head = head_number k sizes.versions page some.0 some.1 in
          let low = head.most y s is of_page in
          let high = over some.0 head.rec (is_newest ∙ some.1) head.is in
          absurd (omega arith))
    ];
    others = λ y stays. (refl, refl);
  }

  module _ (t : TablesState) (x : ℕ) (h : IsTaking k t page version (Some x)) (next : Option ℕ)
      (is_older : (r : Rec) → record_at k.records x ≡ Some r → next ≡ next_in (numbers_at k.pages r.page) x)
      (within : IfSome next (λ z. z < slots_of k.shape)) (above : version < version_at k (Some x)) where
    abbrev its_rec : Rec
    its_rec = (h.its x refl).0

    its_is : record_at k.records x ≡ Some its_rec
    its_is = (h.its x refl).1

    its_page : its_rec.page ≡ page
    its_page = (h.its x refl).2

    its_version : version_at k (Some x) ≡ its_rec.version
    its_version = ap (λ o. option_map_or (λ (r : Rec). r.version) o 0) its_is

    older_next : next ≡ next_in (numbers_at k.pages its_rec.page) x
    older_next = is_older its_rec its_is

    inside : (x < length t.answerers) × (x < length t.waits)
    inside =
        let low = some_rec (record_at k.records x) its_is in
        let a = h.answerers in
        let b = h.waits in
        let c = sizes.answerers in
        let d = sizes.waits in
        let e = sizes.records in
        (omega arith, omega arith)
      where
        some_rec : (o : Option Rec) → o ≡ Some its_rec → x < length k.records
        some_rec o e = elim (cases_lt x (length k.records)) [
          | inl low ↦ low
          | inr past ↦ absurd (none-some its_rec (sym (get_or_past k.records x None past) ∙ its_is))
        ]

    pub one_taken : IsTaking k (freed t x) page version next
    one_taken = record {
      rest = ap (λ (u : TablesState). freed u x) h.rest;
      answerers = length-set t.answerers x None ∙ h.answerers;
      waits = length-set t.waits x None ∙ h.waits;
      within = subst (λ s. IfSome next (λ z. z < slots_of s)) (sym (ap (λ (u : TablesState). u.shape) h.rest)) within;
      its = λ z e. (
          let older = some_older k sizes.versions x its_rec its_is z (sym older_next ∙ e) in
          (older.rec, older.is, older.own_page ∙ its_page));
      let_go = λ y s is of_page high over. elim (cases_eq y x) [
        | inl here ↦ (
          ap (number_at (set t.answerers x None)) here ∙ get_or-set_same t.answerers x None None inside.0,
          ap (number_at (set t.waits x None)) here ∙ get_or-set_same t.waits x None None inside.1,
        )
        | inr off ↦ (
            let old = h.let_go y s is of_page high (λ z r e is_r. (
            let same = same_Some x z e in
            let one = same_Some its_rec r (sym its_is ∙ ap (record_at k.records) same ∙ is_r) in
            let equal = ap (λ (u : Rec). u.version) one in
            let newer = newer_than y s is of_page off over in
            omega arith)) in (
              get_or-set_other t.answerers x y None None off ∙ old.0,
              get_or-set_other t.waits x y None None off ∙ old.1,
            ))
      ];
      others = λ y stays. (
          let off : y ≢ x = λ here. not_staying (stays its_rec (ap (record_at k.records) here ∙ its_is)) in
          let old = h.others y (λ s is. still_stays s (stays s is)) in
          (get_or-set_other t.answerers x y None None off ∙ old.0, get_or-set_other t.waits x y None None off ∙ old.1));
    }
      where
        newer_than : (y : ℕ) (s : Rec) → record_at k.records y ≡ Some s → s.page ≡ page → y ≢ x →
            ((z : ℕ) (r : Rec) → next ≡ Some z → record_at k.records z ≡ Some r → r.version < s.version) →
            its_rec.version < s.version
        newer_than y s is of_page off over = elim (cases_Option next) [
          | inl none ↦ none_older k sizes.versions x its_rec its_is (sym older_next ∙ none) y s is (of_page
              ∙ sym its_page) off
          | inr some ↦ (
              let older = some_older k sizes.versions x its_rec its_is some.0 (sym older_next ∙ some.1) in
              let high = over some.0 older.rec some.1 older.is in
              elim (older.between y s is (of_page ∙ sym its_page) off) [
                | inl newer ↦ newer
                | inr low ↦ absurd (omega arith)
              ])
        ]

        lower_next : (s : Rec) → IsNotAbove k next s → s.version < its_rec.version
        lower_next s n =
            let older = some_older k sizes.versions x its_rec its_is n.number (sym older_next ∙ n.is_next) in
            let one = same_Some older.rec n.rec (sym older.is ∙ n.is) in
            let equal = ap (λ (u : Rec). u.version) one in
            let low = n.low in
            let less = older.older in
            omega arith

        not_staying : Stays k page version next its_rec → ⊥
        not_staying s = elim s [
          | inl other ↦ other its_page
          | inr rest ↦ elim rest [
            | inl low ↦ (let is = its_version in absurd (omega arith))
            | inr n ↦ (let less = lower_next its_rec n in absurd (omega arith))
          ]
        ]

        still_stays : (s : Rec) → Stays k page version next s → Stays k page version (Some x) s
        still_stays s stays = elim stays [
          | inl other ↦ inl other
          | inr rest ↦ elim rest [
            | inl low ↦ inr (inl low)
            | inr n ↦ (let less = lower_next s n in
                inr (inr (record { number = x; rec = its_rec; is_next = refl; is = its_is; low = omega arith })))
          ]
        ]

    pub less_over : left_over k next < left_over k (Some x)
    less_over = elim (cases_Option next) [
      | inl none ↦ (let e = ap (left_over k) none in omega arith)
      | inr some ↦ (
          let older = some_older k sizes.versions x its_rec its_is some.0 (sym older_next ∙ some.1) in
          let e = ap (left_over k) some.1 in
          let its = ap (λ o. option_map_or (λ (r : Rec). r.version) o 0) older.is in
          let is = its_version in
          let less = older.older in
          omega arith)
    ]

  -- where no record above is left, all are released
  pub all_taken : (t : TablesState) (next : Option ℕ) → IsTaking k t page version next →
      ((x : ℕ) → next ≡ Some x → version_at k (Some x) ≤ version) →
      AreReleased k t page version
  all_taken t next h low = record {
    rest = h.rest;
    let_go = λ y s is of_page high. h.let_go y s is of_page high (λ x r e is_r. (
        let bound = low x e in
        let its = ap (λ o. option_map_or (λ (u : Rec). u.version) o 0) is_r in
        omega arith));
    others = λ y stays. h.others y (λ s is. elim (stays s is) [ inl other ↦ inl other | inr under ↦ inr (inl under) ]);
  }

-- the newest record of the page is current then
pub taken_then : (k t : TablesState) (page version : ℕ) → AreReleased k t page version →
    version ≡ version_at k (number_at k.current page) →
    page < length t.current → IsTaken k (record t { current = set t.current page (newest_at k page) }) page
taken_then k t page version h is within = record {
  current = get_or-set_same t.current page (newest_at k page) None within;
  elsewhere = λ other off. get_or-set_other t.current page other (newest_at k page) None off
      ∙ ap (λ c. number_at c other) (ap (λ (u : TablesState). u.current) h.rest);
  let_go = λ y s is_y of_page above. h.let_go y s is_y of_page (subst (λ v. v < s.version) (sym is) above);
  others = λ y s is_y off. h.others y (λ u is_u. (
      let one : s ≡ u = same_Some s u (sym is_y ∙ is_u) in
      subst (λ (w : Rec). (w.page ≢ page) ⊎ (w.version ≤ version)) one (elim off [
        | inl other ↦ inl other
        | inr low ↦ inr (subst (λ v. s.version ≤ v) (sym is) low)
      ])));
}

-- and nothing else changes
pub taken_derives : (k t : TablesState) (page version : ℕ) → AreReleased k t page version → (c : List (Option ℕ)) →
    OnlyDerives k (record t { current = c })
taken_derives k t page version h c = record {
  rest = ap (λ (u : TablesState). record u { current = c }) h.rest;
  unused = λ y none rests. h.others y (λ s is. absurd (none-some s (sym none ∙ is)));
}
