-- The slots of some records, gathered record by record.
use Rattle.slot_tables.proofs.Common.{◌≡◌, ◌≢◌, ℕ, ◌<◌, ◌≤◌, ◌↔◌, Bool, true, false, eqb, ltb, cond, Option, Some, None, List, [], ◌∷◌, ◌++◌, length, map, refl, sym, ap, ◌∙◌, subst, inl, inr, arith, eqb-true, AllPairs, Contains, flat_map, IsSomeAnd, false≢true, nat_tests, Contains-nil, Contains-cases, Contains-first, Contains-rest, pairs_cons, Rec, Block, Holds, TablesState, use_at, copies_of, record_at, number_at, Rises, block_at, copies_below}
use Rattle.std.specs.List.{filter}
use Rattle.std.proofs.lemmas.Bool.{ltb-true}
use Rattle.std.proofs.lemmas.List.Elements.{Contains-append_left, Contains-append_right, Contains-append_cases}
use Rattle.std.proofs.lemmas.List.Kept.{AllPairs-filter}
use Rattle.std.proofs.lemmas.Map.Keys.{IsDistinct-from_apart}
use Rattle.std.proofs.lemmas.Map.Steps.{length-le_from_distinct_below}
use Rattle.list_lemmas.proofs.Membership.{in_filter, from_filter}
use Rattle.list_lemmas.proofs.Pairs.{pairs_head, pairs_tail}
use Rattle.list_lemmas.proofs.Tests.{any_of}
use Rattle.slot_tables.specs.TablesState.{links_below, WaitsBelow}
use Rattle.slot_tables.specs.Gathered.{copies_of_all, AreGathered}
use Rattle.slot_tables.proofs.OfBaseTables.Copying.{copies_have, copies_rise}
use Rattle.slot_tables.proofs.OfBaseTables.Held.{holds_number}

-- pairs of two lists that follow one another
pub pairs_append : {X : Type 0} (R : X → X → Type 0) (xs ys : List X) → AllPairs R xs → AllPairs R ys
    → ((x y : X) → Contains xs x → Contains ys y → R x y) → AllPairs R (xs ++ ys)
pairs_append R [] ys own others across = others
pairs_append R (x ∷ xs) ys own others across =
    pairs_cons R x (xs ++ ys) (λ y has. elim (Contains-append_cases xs ys y has) [
      | inl near ↦ pairs_head R x xs y own near
      | inr far ↦ across x y (Contains-first x xs) far
    ]) (pairs_append R xs ys (pairs_tail R x xs own) others
    (λ u y near far. across u y (Contains-rest x xs u near) far))

-- the numbers of a rising list differ
pub rising_once : (xs : List ℕ) → Rises xs → AllPairs (λ x y. x ≢ y) xs
unfolding Rises
rising_once xs rises i j d less within same = let lower = rises i j d less within in absurd (omega arith)

module _ (k : TablesState) where
  -- a slot is gathered where it holds one of the records
  pub in_all : (numbers : List ℕ) (x at : ℕ) → Contains numbers x → Contains (copies_of k.slots x) at →
      Contains (copies_of_all k numbers) at
  in_all [] x at has own = absurd (Contains-nil x has)
  in_all (y ∷ ys) x at has own = elim (Contains-cases y ys x has) [
    | inl same ↦ Contains-append_left (copies_of k.slots y) (copies_of_all k ys) at
        (subst (λ z. Contains (copies_of k.slots z) at) (sym same) own)
    | inr later ↦ Contains-append_right (copies_of k.slots y) (copies_of_all k ys) at (in_all ys x at later own)
  ]

  pub from_all : (numbers : List ℕ) (at : ℕ) → Contains (copies_of_all k numbers) at
      → (x : ℕ) × Contains numbers x × Contains (copies_of k.slots x) at
  from_all [] at has = absurd (Contains-nil at has)
  from_all (y ∷ ys) at has = elim (Contains-append_cases (copies_of k.slots y) (copies_of_all k ys) at has) [
    | inl own ↦ (y, Contains-first y ys, own)
    | inr other ↦ (let f = from_all ys at other in (f.0, Contains-rest y ys f.0 f.1, f.2))
  ]

  -- no slot holds two records
  only_one : (x y at : ℕ) → Contains (copies_of k.slots x) at → Contains (copies_of k.slots y) at → x ≡ y
  only_one x y at one other =
      let a = holds_number x (use_at k.slots at) ((copies_have k.slots x at).0 one).1 in
      let b = holds_number y (use_at k.slots at) ((copies_have k.slots y at).0 other).1 in
      let same : Holds x ≡ Holds y = sym a ∙ b in
      cc

  -- so each is gathered once
  all_once : (numbers : List ℕ) → AllPairs (λ x y. x ≢ y) numbers → AllPairs (λ a b. a ≢ b) (copies_of_all k numbers)
  all_once [] once = λ i j d less within. absurd (omega arith)
  all_once (x ∷ xs) once =
      pairs_append (λ a b. a ≢ b) (copies_of k.slots x) (copies_of_all k xs)
      (rising_once (copies_of k.slots x) (copies_rise k.slots x))
      (all_once xs (pairs_tail (λ a b. a ≢ b) x xs once)) (λ a b own other same.
      let f = from_all xs b other in
      pairs_head (λ a b. a ≢ b) x xs f.0 once f.1
      (only_one x f.0 b (subst (Contains (copies_of k.slots x)) same own) f.2))

  pub few_gathered : (numbers : List ℕ) → AllPairs (λ x y. x ≢ y) numbers →
      length (copies_of_all k numbers) ≤ length k.slots
  few_gathered numbers once =
      let all = copies_of_all k numbers in
      length-le_from_distinct_below all (length k.slots)
      (IsDistinct-from_apart eqb all (λ i j d less within. apart (all_once numbers once i j d less within)))
      (λ q any.
      let has = any_of (eqb q) all any in
      let is = eqb-true q has.0 has.2 in
      let f = from_all numbers has.0 has.1 in
      subst (λ s. s < length k.slots) (sym is) ((copies_have k.slots f.0 has.0).0 f.2).0)
    where
      apart : {a b : ℕ} → a ≢ b → eqb a b ≡ false
      apart {a} {b} other = let no : eqb a b ≡ false = grind (arith, nat_tests) in no

  links : (below : ℕ) (o : Option Rec) → links_below below o ≡ true → IsSomeAnd o (λ r. r.next.version < below)
  links below None e = absurd (false≢true e)
  links below (Some r) e = ltb-true r.next.version below e

  linked : (below : ℕ) (o : Option Rec) → IsSomeAnd o (λ r. r.next.version < below) → links_below below o ≡ true
  linked below None h = absurd h
  linked below (Some r) h = let is : ltb r.next.version below ≡ true = grind (arith, nat_tests) in is

  -- of those that link below a version
  abbrev below_test : ℕ → ℕ → Bool
  below_test below x = links_below below (record_at k.records x)

  below_all : (below : ℕ) (xs : List ℕ) → flat_map (copies_below k below) xs
      ≡ copies_of_all k (filter (below_test below) xs)
  below_all below [] = refl
  below_all below (x ∷ xs) = by_test (below_test below x) (below_all below xs)
    where
      by_test : (b : Bool) → flat_map (copies_below k below) xs ≡ copies_of_all k (filter (below_test below) xs)
          → cond b (copies_of k.slots x) [] ++ flat_map (copies_below k below) xs
          ≡ copies_of_all k (cond b (x ∷ filter (below_test below) xs) (filter (below_test below) xs))
      by_test true rest = ap (λ r. copies_of k.slots x ++ r) rest
      by_test false rest = rest

  pub few_below : (below : ℕ) (xs : List ℕ) → AllPairs (λ x y. x ≢ y) xs →
      length (flat_map (copies_below k below) xs) ≤ length k.slots
  few_below below xs once =
      subst (λ ys. length ys ≤ length k.slots) (sym (below_all below xs))
      (few_gathered (filter (below_test below) xs) (AllPairs-filter (λ x y. x ≢ y) (below_test below) xs once))

  pub gathered : (page below : ℕ) (xs : List ℕ) → AllPairs (λ x y. x ≢ y) xs →
      ((x : ℕ) → Contains xs x ↔ (number_at k.waits x ≡ Some page))
      → (blocks : List Block) → blocks ≡ map (block_at k.shape.pages_per_block) (flat_map (copies_below k below) xs)
      → AreGathered k (WaitsBelow k page below) blocks
  gathered page below xs once waiting blocks are = record {
    numbers = filter (below_test below) xs;
    once = AllPairs-filter (λ x y. x ≢ y) (below_test below) xs once;
    such = λ x. (
      λ has. (let f = from_filter (below_test below) x xs has in
          ((waiting x).0 f.0, links below (record_at k.records x) f.1)),
      λ waits. in_filter (below_test below) x xs ((waiting x).1 waits.0) (linked below (record_at k.records x) waits.1),
    );
    are = are ∙ ap (map (block_at k.shape.pages_per_block)) (below_all below xs);
  }
