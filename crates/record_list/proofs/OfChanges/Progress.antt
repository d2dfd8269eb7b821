-- A transaction whose names stand in a list as it asks, all other records mentioning its pages below: what is so of its
-- names in progress and when all are present.
use Rattle.record_list.proofs.Common.{◌≡◌, ◌≢◌, ℕ, ◌^◌, ◌<◌, ◌≤◌, true, false, eqb, List, zip, All, Any, Contains, refl, sym, ap, ◌∙◌, subst, inl, inr, arith, eq-eqb, false≢true, cases_Bool, cases_lt, cases_eq, cond-true, All-contains, in_order, Link, Rec, Protocol, Found, newest, version_of, mention_at, name_of, is_present, newest_name, link_of, cur, next_names, IsAsked, IsAskedAt}
use Rattle.std.proofs.Math.Nat.{le-max_left, le-max_right}
use Rattle.record_list.specs.Records.{linked_at}
use Rattle.record_list.specs.Transaction.{IsBegun}
use Rattle.record_list.proofs.OfFacts.Names.{same_name, found_named, newest_bound, newest_present}
use Rattle.record_list.proofs.OfFacts.Safe.{top_link, Goes, IsSafe, IsLinked, Counts, counts_safe}
use Rattle.record_list.proofs.OfFacts.SoundNames.{IsSoundMap}
use Rattle.record_list.proofs.OfFacts.Facts.{cur_le, current_counts}
use Rattle.record_list.proofs.OfWalks.Rounds.{Follows, cases_in, round_on, follows_of, follows_in, follows_once, Apart}

-- a record that is no name of the transaction mentions its page at a lower version
abbrev pub IsLower : Link → Link → Link → Type 0
IsLower own next a = (own.page ≡ a.page → own.version < a.version) × (next.page ≡ a.page → next.version < a.version)

-- the names as they stand in the list
pub record IsUnderway (l : List Found) (logical : ℕ) (names : List Link) : Type 0 where
  pub apart : Apart names
  pub range : (a : Link) → Contains names a → (a.page < logical) × (1 ≤ a.version)
  pub asked : (a b : Link) → Follows names a b → is_present l a ≡ true → link_of l a ≡ b
  pub lower : (u : Link) → is_present l u ≡ true → (Contains names u → ⊥) → (a : Link) → Contains names a →
      IsLower u (link_of l u) a

-- a mention below a version, of either kind
pub mention_parts : (r : Rec) (a : Link) → mention_at a.page r < a.version → IsLower (name_of r) r.next a
mention_parts r a h = (
  λ e. (let left = le-max_left (version_of a.page r) (linked_at a.page r) in
      let at : version_of a.page r ≡ r.version = cond-true (eqb r.page a.page) r.version 0 (eq-eqb r.page a.page e) in
      omega arith),
  λ e. (let right = le-max_right (version_of a.page r) (linked_at a.page r) in
      let at : linked_at a.page r ≡ r.next.version = cond-true (eqb r.next.page a.page) r.next.version 0
      (eq-eqb r.next.page a.page e) in omega arith),
)

-- a transaction that has begun is so by names
pub underway_of : (p : Protocol) (l : List Found) (logical : ℕ) (names : List Link) → IsBegun p l logical names →
    IsUnderway l logical names
underway_of p l logical names begun = record {
  apart = begun.transaction.distinct;
  range = λ a i. (let h = All-contains (λ b. (b.page < logical) × (1 ≤ b.version) × (b.version ≤ 2 ^ 62)) names a
      begun.transaction.in_range i in (h.0, h.1));
  asked = λ a b i here.
      let f = found_named l a here in
      let asks = All-contains (λ g. IsAsked p l logical names g.rec) l f.0 begun.asked f.1 in
      let pair = All-contains (IsAskedAt p l logical names f.0.rec) (zip names (next_names names)) (a, b) asks i in
      sym f.3 ∙ (pair f.2).0;
  lower = λ u here out a i.
      let f = found_named l u here in
      let other = All-contains (λ g. (Contains names (name_of g.rec) → ⊥) →
      All (λ n. mention_at n.page g.rec < n.version) names) l f.0 begun.others f.1
      (λ c. out (subst (Contains names) f.2 c)) in
      let low = mention_parts f.0.rec a (All-contains (λ n. mention_at n.page f.0.rec < n.version) names a other i) in
      subst (λ n. IsLower n (link_of l u) a) f.2 (subst (λ n. IsLower (name_of f.0.rec) n a) f.3 low);
}

module _ (l : List Found) (logical : ℕ) (names : List Link) (t : IsUnderway l logical names) where
  -- two names of one page are one
  pub one_name : (a b : Link) → Contains names a → Contains names b → a.page ≡ b.page → a ≡ b
  one_name a b i j e = elim (in_order (λ x y. x.page ≢ y.page) names a b t.apart i j) [
    | inl same ↦ same
    | inr (inl off) ↦ absurd (off e)
    | inr (inr off) ↦ absurd (off (sym e))
  ]

  -- the newest version of a name's page is at most the name's
  pub name_bounds : (a : Link) → Contains names a → newest l a.page ≤ a.version
  name_bounds a i = elim (cases_lt a.version (newest l a.page)) [
    | inl above ↦ (
        let n = newest_name l a.page in
        let here = newest_present l a.page (omega arith) in
        elim (cases_in names n) [
          | inl j ↦ (let e = ap (λ x. x.version) (one_name n a j i refl) in omega arith)
          | inr out ↦ (let low = (t.lower n here out a i).0 refl in omega arith)
        ])
    | inr at ↦ at
  ]

  -- a present name is the newest of its page
  pub name_newest : (a : Link) → Contains names a → is_present l a ≡ true → newest l a.page ≡ a.version
  name_newest a i here = let low = name_bounds a i in let high = newest_bound l a here in omega arith

  -- the newest record of its page links to the next name
  pub name_top : (a b : Link) → Follows names a b → is_present l a ≡ true → top_link l a.page ≡ b
  name_top a b i here = ap (link_of l) (same_name (newest_name l a.page) a refl
      (name_newest a (follows_in names a b i).0 here)) ∙ t.asked a b i here

  -- an absent name is above the newest of its page
  pub name_ahead : (a : Link) → Contains names a → is_present l a ≡ false → newest l a.page < a.version
  name_ahead a i gone = elim (cases_lt (newest l a.page) a.version) [
    | inl below ↦ below
    | inr at ↦ (
        let low = name_bounds a i in
        let positive = (t.range a i).1 in
        let here = newest_present l a.page (omega arith) in
        let e : newest_name l a.page ≡ a = same_name (newest_name l a.page) a refl (omega arith) in
        absurd (false≢true (sym gone ∙ subst (λ n. is_present l n ≡ true) e here)))
  ]

  -- only the name before it links to a name
  pub links_to_name : (u a b : Link) → is_present l u ≡ true → Follows names a b → link_of l u ≡ b → u ≡ a
  links_to_name u a b here i e =
      let ends = follows_in names a b i in
      elim (cases_in names u) [
        | inl j ↦ (
            let after = follows_of names u j in
            let same : after.0 ≡ b = sym (t.asked u after.0 after.1 here) ∙ e in
            follows_once names u a b t.apart (subst (λ n. Follows names u n) same after.1) i)
        | inr out ↦ (let low = (t.lower u here out b ends.1).1 (ap (λ n. n.page) e) in let v = ap (λ n. n.version) e in
            absurd (omega arith))
      ]

  -- while a name is absent, a present name's page is in no safe set
  pub name_unsafe : (p : Protocol) (X : ℕ → Type 0) → IsSafe p l logical X → (gone : Link) → Contains names gone →
      is_present l gone ≡ false →
      (a : Link) → Contains names a → is_present l a ≡ true → X a.page → ⊥
  name_unsafe p X safe gone j absent a i here x =
      let Q : Link → Type 0 = λ n. (is_present l n ≡ true) × X n.page in
      let all = round_on Q names (λ c d k q.
      let ends = follows_in names c d k in
      let bound = name_bounds d ends.1 in
      let positive = (t.range d ends.1).1 in
      elim (subst (λ n. Goes p l X n) (name_top c d k q.0) (safe.goes c.page q.1)) [
        | inl passes ↦ (let behind = passes.0 in absurd (omega arith))
        | inr on ↦ (
            let at = on.0 in
            let e : newest_name l d.page ≡ d = same_name (newest_name l d.page) d refl (sym at) in
            (subst (λ n. is_present l n ≡ true) e (newest_present l d.page (omega arith)), on.1))
      ]) a i (here, x) gone j in
      false≢true (sym absent ∙ all.0)

  -- so it is not committed
  pub name_uncounted : (p : Protocol) → IsLinked l logical → (gone : Link) → Contains names gone →
      is_present l gone ≡ false →
      (a : Link) → Contains names a → is_present l a ≡ true → Counts p l logical a.page → ⊥
  name_uncounted p linked gone j absent a i here c = name_unsafe p (Counts p l logical) (counts_safe p l logical linked)
      gone j absent a i here c

  -- while a name is absent, each name is above the current version of its page
  pub name_loose : (p : Protocol) → IsSoundMap p l logical → (gone : Link) → Contains names gone →
      is_present l gone ≡ false →
      (a : Link) → Contains names a → cur p l logical a.page < a.version
  name_loose p m gone j absent a i =
      let le = cur_le p l logical m a.page in
      let bound = name_bounds a i in
      elim (cases_Bool (is_present l a)) [
        | inl here ↦ elim (cases_eq (cur p l logical a.page) a.version) [
          | inl at ↦ (
              let top = name_newest a i here in
              let positive = (t.range a i).1 in
              absurd (name_uncounted p m.linked gone j absent a i here
              (current_counts p l logical m a.page (omega arith) (omega arith))))
          | inr off ↦ omega arith
        ]
        | inr not' ↦ (let ahead = name_ahead a i not' in omega arith)
      ]

  -- when all names are present, their pages are safe
  pub names_safe : (p : Protocol) → ((a : Link) → Contains names a → is_present l a ≡ true) →
      IsSafe p l logical (λ page. (a : Link) × Contains names a × (a.page ≡ page))
  names_safe p all = record {
    written = λ page x. (let top = name_newest x.0 x.1 (all x.0 x.1) in let positive = (t.range x.0 x.1).1 in
        subst (λ q. 0 < newest l q) x.2 (omega arith));
    goes = λ page x.
        let after = follows_of names x.0 x.1 in
        let ends = follows_in names x.0 after.0 after.1 in
        let link : top_link l page ≡ after.0 = ap (top_link l) (sym x.2) ∙ name_top x.0 after.0 after.1 (all x.0 x.1) in
        subst (λ q. Goes p l (λ r. (a : Link) × Contains names a × (a.page ≡ r)) q) (sym link)
        (inr (sym (name_newest after.0 ends.1 (all after.0 ends.1)), (after.0, ends.1, refl)));
  }

-- a name that a list lacks
pub absent_name : (l : List Found) (names : List Link) → Any (λ a. is_present l a ≡ false) names →
    (a : Link) × Contains names a × (is_present l a ≡ false)
absent_name l names any = (any.1, (any.0, any.2, any.3), any.4)
