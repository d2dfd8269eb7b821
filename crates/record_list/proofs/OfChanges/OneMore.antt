-- One record more in a list, under a name that was absent.
use Rattle.record_list.proofs.Common.{◌≡◌, ℕ, ◌<◌, ◌≤◌, Bool, true, false, cond, ◌&&◌, ◌||◌, eqb, ltb, ◌⊎◌, List, [], ◌∷◌, All, refl, sym, ap, ◌∙◌, subst, inl, inr, arith, if◌then◌else◌, ne_eqb, eq-eqb, le-ltb, Contains, false≢true, cases_Bool, cases_lt, cond-true, cond-false, or_cases, or_left, or_right, and_left, All-contains, all_from, Contains-first, Link, Rec, Protocol, Scc, Bpcc, Found, Passed, Straddled, greatest, version_of, version_below, newest, next_older, name_of, has_name, is_present, newest_name, record_named, link_of, back_of, straddles, straddling_version, straddling, is_committed, IsInserted}
use Rattle.std.proofs.Common.{max, ◌++◌}
use Rattle.std.proofs.Common.{filter}
use Rattle.std.specs.List.{list_any}
use Rattle.std.proofs.lemmas.Bool.{or_parts}
use Rattle.std.proofs.lemmas.List.Elements.{Contains-append_right, filter-append}
use Rattle.list_lemmas.proofs.Membership.{from_more, in_more}
use Rattle.list_lemmas.proofs.Tests.{any_more}
use Rattle.record_list.proofs.OfFacts.Names.{has_name_true, has_own_name, newest_present, newest_bound, older_bound, older_name, named, named_link, named_back}
use Rattle.record_list.proofs.OfFacts.Names.{links_from, backs_from}
use Rattle.record_list.proofs.OfFacts.Safe.{top_link, is_clear, IsLinked}
use Rattle.record_list.proofs.OfWalks.Rounds.{Follows, follows_of, follows_in}
use Rattle.record_list.proofs.OfChanges.Progress.{IsUnderway, name_ahead, links_to_name}

-- what is read of a list with one record more, under a fresh name
pub record IsOneMore (l l' : List Found) (r : Rec) : Type 0 where
  pub fresh : is_present l (name_of r) ≡ false
  pub kept : (u : Link) → is_present l u ≡ true → is_present l' u ≡ true
  pub cases : (u : Link) → is_present l' u ≡ true → (u ≡ name_of r) ⊎ (is_present l u ≡ true)
  pub own : is_present l' (name_of r) ≡ true
  pub others : (u : Link) → (u ≡ name_of r → ⊥) → record_named l' u ≡ record_named l u
  pub its : record_named l' (name_of r) ≡ r
  pub greatest_is : (of : Rec → ℕ) → greatest of l' ≡ max (of r) (greatest of l)

module _ {l l' : List Found} {r : Rec} (one : IsOneMore l l' r) where
  -- other names keep their links and back versions
  pub links_else : (u : Link) → (u ≡ name_of r → ⊥) → link_of l' u ≡ link_of l u
  links_else u off = links_from l' l u u (one.others u off)

  pub backs_else : (u : Link) → (u ≡ name_of r → ⊥) → back_of l' u ≡ back_of l u
  backs_else u off = backs_from l' l u u (one.others u off)

  -- the new name has the new record's
  pub its_link : link_of l' (name_of r) ≡ r.next
  its_link = sym (named_link l' (name_of r)) ∙ ap (λ x. x.next) one.its

  pub its_back : back_of l' (name_of r) ≡ r.back
  its_back = sym (named_back l' (name_of r)) ∙ ap (λ x. x.back) one.its

module _ (f : Found) (after : List Found) where
  -- the records of other names
  others_more : (before : List Found) (u : Link) → has_name u f.rec ≡ false →
      record_named (before ++ f ∷ after) u ≡ record_named (before ++ after) u
  others_more [] u h = cond-false (has_name u f.rec) f.rec (record_named after u) h
  others_more (x ∷ xs) u h = ap (λ r. if has_name u x.rec then x.rec else r) (others_more xs u h)

  -- the record of the new name
  its_more : (before : List Found) → is_present (before ++ after) (name_of f.rec) ≡ false →
      record_named (before ++ f ∷ after) (name_of f.rec) ≡ f.rec
  its_more [] h = cond-true (has_name (name_of f.rec) f.rec) f.rec (record_named after (name_of f.rec))
      (has_own_name (name_of f.rec) f.rec refl)
  its_more (x ∷ xs) h =
      let parts = or_parts (has_name (name_of f.rec) x.rec) (is_present (xs ++ after) (name_of f.rec)) h in
      cond-false (has_name (name_of f.rec) x.rec) x.rec (record_named (xs ++ f ∷ after) (name_of f.rec)) parts.0
      ∙ its_more xs parts.1

  -- greatest numbers
  greatest_more : (of : Rec → ℕ) (before : List Found) → greatest of (before ++ f ∷ after)
      ≡ max (of f.rec) (greatest of (before ++ after))
  greatest_more of [] = refl
  greatest_more of (x ∷ xs) = let ih = greatest_more of xs in omega arith

module _ {X : Type 0} where
  pub inserted_in : (l l' : List X) (x : X) → IsInserted l x l' → (y : X) → Contains l' y → (x ≡ y) ⊎ Contains l y
  inserted_in l l' x ins y i = elim (from_more ins.before ins.after x y (subst (λ zs. Contains zs y) ins.now i)) [
    | inl e ↦ inl e
    | inr j ↦ inr (subst (λ zs. Contains zs y) (sym ins.was) j)
  ]

  pub in_inserted : (l l' : List X) (x : X) → IsInserted l x l' → (y : X) → Contains l y → Contains l' y
  in_inserted l l' x ins y i = subst (λ zs. Contains zs y) (sym ins.now)
      (in_more ins.before ins.after x y (subst (λ zs. Contains zs y) ins.was i))

  -- and the new one is there
  pub new_in : (l l' : List X) (x : X) → IsInserted l x l' → Contains l' x
  new_in l l' x ins = subst (λ zs. Contains zs x) (sym ins.now)
      (Contains-append_right ins.before (x ∷ ins.after) x (Contains-first x ins.after))

  -- where it passes a test, it is one more of those that pass
  pub inserted_filter : (test : X → Bool) (l l' : List X) (x : X) → IsInserted l x l' → test x ≡ true →
      IsInserted (filter test l) x (filter test l')
  inserted_filter test l l' x ins passes = record {
    before = filter test ins.before;
    after = filter test ins.after;
    was = ap (filter test) ins.was ∙ filter-append test ins.before ins.after;
    now = ap (filter test) ins.now ∙ (filter-append test ins.before (x ∷ ins.after)
        ∙ ap (λ b. filter test ins.before ++ cond b (x ∷ filter test ins.after) (filter test ins.after)) passes);
  }

-- what is so of all and of the new record is so of all
pub inserted_all : (P : Found → Type 0) (l l' : List Found) (f : Found) → IsInserted l f l' → All P l → P f → All P l'
inserted_all P l l' f ins all own = all_from P l' (λ g i. elim (inserted_in l l' f ins g i) [
  | inl e ↦ subst P e own
  | inr j ↦ All-contains P l g all j
])

-- a test passes for some record of the longer list where it does for the new one or an old one
pub inserted_any : (test : Found → Bool) (l l' : List Found) (f : Found) → IsInserted l f l' →
    list_any test l' ≡ (test f || list_any test l)
inserted_any test l l' f ins =
    ap (list_any test) ins.now ∙ any_more test f ins.before ins.after
    ∙ ap (λ x. test f || list_any test x) (sym ins.was)

-- an inserted record of a fresh name is one record more
pub one_more : (l l' : List Found) (f : Found) → IsInserted l f l' → is_present l (name_of f.rec) ≡ false →
    IsOneMore l l' f.rec
one_more l l' f ins fresh =
    let b = ins.before in
    let a = ins.after in
    let fresh' : is_present (b ++ a) (name_of f.rec) ≡ false = subst (λ x. is_present x (name_of f.rec) ≡ false)
    ins.was fresh in
    let present : (u : Link) → is_present l' u ≡ (has_name u f.rec || is_present l u) = λ u.
    subst (λ x. is_present x u ≡ (has_name u f.rec || is_present l u)) (sym ins.now)
    (subst (λ x. is_present (b ++ f ∷ a) u ≡ (has_name u f.rec || is_present x u)) (sym ins.was)
    (any_more (λ g. has_name u g.rec) f b a)) in
    let other : (u : Link) → (u ≡ name_of f.rec → ⊥) → has_name u f.rec ≡ false =
    λ u off. elim (cases_Bool (has_name u f.rec)) [
      | inl e ↦ absurd (off (sym (has_name_true u f.rec e)))
      | inr e ↦ e
    ] in
    record {
      fresh = fresh;
      kept = λ u h. present u ∙ or_right (has_name u f.rec) (is_present l u) h;
      cases = λ u h. elim (or_cases (has_name u f.rec) (is_present l u) (sym (present u) ∙ h)) [
        | inl e ↦ inl (sym (has_name_true u f.rec e))
        | inr e ↦ inr e
      ];
      own = present (name_of f.rec) ∙ or_left (has_name (name_of f.rec) f.rec) (is_present l (name_of f.rec))
          (has_own_name (name_of f.rec) f.rec refl);
      others = λ u off. ap (λ x. record_named x u) ins.now ∙ others_more f a b u (other u off)
          ∙ ap (λ x. record_named x u) (sym ins.was);
      its = ap (λ x. record_named x (name_of f.rec)) ins.now ∙ its_more f a b fresh';
      greatest_is = λ of. ap (greatest of) ins.now ∙ greatest_more f a of b
          ∙ ap (λ x. max (of f.rec) (greatest of x)) (sym ins.was);
    }

-- the new record is one that a transaction asks for
pub record IsStep (l l' : List Found) (logical : ℕ) (names : List Link) (r : Rec) : Type 0 where
  pub one : IsOneMore l l' r
  pub underway : IsUnderway l logical names
  pub of_names : Contains names (name_of r)
  pub next : (b : Link) → Follows names (name_of r) b → r.next ≡ b

module _ (l l' : List Found) (logical : ℕ) (names : List Link) (r : Rec) (s : IsStep l l' logical names r) where
  -- newest versions, and what else is read of a page
  pub newest_own : newest l' r.page ≡ r.version
  newest_own =
      let e = s.one.greatest_is (version_of r.page) in
      let at : version_of r.page r ≡ r.version = cond-true (eqb r.page r.page) r.version 0
      (eq-eqb r.page r.page refl) in
      let ahead = name_ahead l logical names s.underway (name_of r) s.of_names s.one.fresh in
      omega arith

  -- other pages keep their newest version
  pub newest_else : (page : ℕ) → (page ≡ r.page → ⊥) → newest l' page ≡ newest l page
  newest_else page off =
      let e = s.one.greatest_is (version_of page) in
      let at : version_of page r ≡ 0 = cond-false (eqb r.page page) r.version 0
      (ne_eqb r.page page (λ x. off (sym x))) in
      omega arith

  -- and their next older versions
  pub older_else : (page below : ℕ) → (page ≡ r.page → ⊥) → next_older l' page below ≡ next_older l page below
  older_else page below off =
      let e = s.one.greatest_is (version_below page below) in
      let at : version_below page below r ≡ 0 = cond-false (eqb r.page page && ltb r.version below) r.version 0
      (and_left (eqb r.page page) (ltb r.version below) (ne_eqb r.page page (λ x. off (sym x)))) in
      omega arith

  -- and their newest name
  pub name_else : (page : ℕ) → (page ≡ r.page → ⊥) → newest_name l' page ≡ newest_name l page
  name_else page off = ap (named page) (newest_else page off)

  -- and their newest link
  pub top_else : (page : ℕ) → (page ≡ r.page → ⊥) → top_link l' page ≡ top_link l page
  top_else page off = ap (link_of l') (name_else page off)
      ∙ links_else s.one (newest_name l page) (λ e. off (ap (λ n. n.page) e))

  -- and its back version
  pub back_else : (page : ℕ) → (page ≡ r.page → ⊥) → back_of l' (newest_name l' page) ≡ back_of l (newest_name l page)
  back_else page off = ap (back_of l') (name_else page off)
      ∙ backs_else s.one (newest_name l page) (λ e. off (ap (λ n. n.page) e))

  -- the new record straddles no name of another page
  pub straddling_else : (q : Link) → (q.page ≡ r.page → ⊥) → straddling l' q ≡ straddling l q
  straddling_else q off =
      let e = s.one.greatest_is (straddling_version q) in
      let at : straddling_version q r ≡ 0 = cond-false (eqb r.page q.page && straddles r q.version) r.version 0
      (and_left (eqb r.page q.page) (straddles r q.version) (ne_eqb r.page q.page (λ x. off (sym x)))) in
      omega arith

  -- so a name of another page is clear as before
  pub clear_else : (p : Protocol) (q : Link) → (q.page ≡ r.page → ⊥) → is_clear p l' q ≡ is_clear p l q
  clear_else Scc q off = refl
  clear_else Bpcc q off = ap (λ (n : ℕ). is_committed (if eqb n 0 then Passed else Straddled n)) (straddling_else q off)

  -- the next older version of the new record's page is the old newest one
  pub older_own : next_older l' r.page r.version ≡ newest l r.page
  older_own =
      let e = s.one.greatest_is (version_below r.page r.version) in
      let at : version_below r.page r.version r ≡ 0 = below_self (eqb r.page r.page) r.version in
      let ahead = name_ahead l logical names s.underway (name_of r) s.of_names s.one.fresh in
      let high : next_older l r.page r.version ≤ newest l r.page = elim (cases_lt 0 (next_older l r.page r.version)) [
        | inl has ↦ newest_bound l (named r.page (next_older l r.page r.version)) (older_name l r.page r.version has).0
        | inr none ↦ omega arith
      ] in
      let low : newest l r.page ≤ next_older l r.page r.version = elim (cases_lt 0 (newest l r.page)) [
        | inl has ↦ older_bound l (newest_name l r.page) r.version (newest_present l r.page has) ahead
        | inr none ↦ omega arith
      ] in
      omega arith
    where
      below_self : (b : Bool) (v : ℕ) → cond (b && ltb v v) v 0 ≡ 0
      below_self true v = cond-false (ltb v v) v 0 (le-ltb v v (omega arith))
      below_self false v = refl

  -- the names stand in the longer list as they did
  pub step_underway : IsUnderway l' logical names
  step_underway = record {
    apart = s.underway.apart;
    range = s.underway.range;
    asked = λ a b i here. elim (s.one.cases a here) [
      | inl e ↦ ap (link_of l') e ∙ its_link s.one ∙ s.next b (subst (λ n. Follows names n b) e i)
      | inr old ↦ links_else s.one a (λ e. false≢true (sym s.one.fresh ∙ subst (λ n. is_present l n ≡ true) e old))
          ∙ s.underway.asked a b i old
    ];
    lower = λ u here out a i. elim (s.one.cases u here) [
      | inl e ↦ absurd (out (subst (Contains names) (sym e) s.of_names))
      | inr old ↦ (
          let low = s.underway.lower u old out a i in
          let e = links_else s.one u (λ same. out (subst (Contains names) (sym same) s.of_names)) in
          (low.0, subst (λ n. n.page ≡ a.page → n.version < a.version) (sym e) low.1))
    ];
  }

  -- the link of the new record is a name too
  pub next_after : Follows names (name_of r) r.next
  next_after =
      let after = follows_of names (name_of r) s.of_names in
      subst (λ n. Follows names (name_of r) n) (sym (s.next after.0 after.1)) after.1

  -- it is one of the names
  pub next_in : Contains names r.next
  next_in = (follows_in names (name_of r) r.next next_after).1

  -- an old name is not the new one, and has its record
  pub not_new : (u : Link) → is_present l u ≡ true → u ≡ name_of r → ⊥
  not_new u old e = false≢true (sym s.one.fresh ∙ subst (λ n. is_present l n ≡ true) e old)

  pub old_record : (u : Link) → is_present l u ≡ true → record_named l' u ≡ record_named l u
  old_record u old = s.one.others u (not_new u old)

  -- its link
  pub old_link : (u : Link) → is_present l u ≡ true → link_of l' u ≡ link_of l u
  old_link u old = links_else s.one u (not_new u old)

  -- its back version
  pub old_back : (u : Link) → is_present l u ≡ true → back_of l' u ≡ back_of l u
  old_back u old = backs_else s.one u (not_new u old)

  -- no old record links where the new one does
  before_next : (u : Link) → is_present l u ≡ true → link_of l u ≡ r.next → u ≡ name_of r
  before_next u old e = links_to_name l logical names s.underway u (name_of r) r.next old next_after e

  -- its pages exist, and two names have two links
  pub step_linked : IsLinked l logical → IsLinked l' logical
  step_linked linked = record {
    pages = λ u here. elim (s.one.cases u here) [
      | inl e ↦ subst (λ n. (n.page < logical) × ((link_of l' n).page < logical)) (sym e) (
        (s.underway.range (name_of r) s.of_names).0,
        subst (λ n. n.page < logical) (sym (its_link s.one)) (s.underway.range r.next next_in).0,
      )
      | inr old ↦ (let h = linked.pages u old in (h.0, subst (λ n. n.page < logical) (sym (old_link u old)) h.1))
    ];
    versions = λ u here. elim (s.one.cases u here) [
      | inl e ↦ subst (λ n. (1 ≤ n.version) × (1 ≤ (link_of l' n).version)) (sym e) (
        (s.underway.range (name_of r) s.of_names).1,
        subst (λ n. 1 ≤ n.version) (sym (its_link s.one)) (s.underway.range r.next next_in).1,
      )
      | inr old ↦ (let h = linked.versions u old in (h.0, subst (λ n. 1 ≤ n.version) (sym (old_link u old)) h.1))
    ];
    once = λ u v hu hv same. elim (s.one.cases u hu) [
      | inl e ↦ elim (s.one.cases v hv) [
        | inl f ↦ e ∙ sym f
        | inr old ↦ e ∙ sym (before_next v old (sym (old_link v old) ∙ sym same ∙ ap (link_of l') e ∙ its_link s.one))
      ]
      | inr oldu ↦ elim (s.one.cases v hv) [
        | inl f ↦ before_next u oldu (sym (old_link u oldu) ∙ same ∙ ap (link_of l') f ∙ its_link s.one) ∙ sym f
        | inr oldv ↦ linked.once u v oldu oldv (sym (old_link u oldu) ∙ same ∙ old_link v oldv)
      ]
    ];
  }
