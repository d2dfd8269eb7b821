-- Tests, counts, sums and lists over a range of numbers.
use Rattle.std.proofs.Common.{◌≡◌, ℕ, zero, suc, ◌+◌, ◌<◌, ◌≤◌, Bool, true, subst, inl, inr, arith, refl, false, ◌&&◌, ap₂, ◌-◌, sym, ap, ◌∙◌, ◌∷◌, map, List}
use Rattle.std.proofs.Common.{◌++◌, append_assoc, flat_map, add-one, sum_by, cond, [], filter, length, Any, Contains}
use Rattle.std.specs.List.{range_with_len, list_all}
use Rattle.std.proofs.Math.Bool.{and-true}
use Rattle.std.proofs.lemmas.Bool.{cases_lt, and_parts, and_from, cond-false, cond-true, cond_both}
use Rattle.std.proofs.lemmas.List.{append-nil, map-id}
use Rattle.std.proofs.lemmas.List.Elements.{filter-append}
use Rattle.std.proofs.lemmas.List.FromFn.{sum_by-map-range_with_len_more, filter_of_map_range_with_len_more, length-range_with_len, get_or-range_with_len}
use Rattle.list_lemmas.proofs.Membership.{Contains-nil, Contains-cases}

-- each number passes where the whole range does
pub all_range : (p : ℕ → Bool) (a n : ℕ) → list_all p (range_with_len a n) ≡ true → (k : ℕ) → a ≤ k →
    k < a + n → p k ≡ true
all_range p a zero h k low high = absurd (omega arith)
all_range p a (suc n) h k low high =
    let parts = and_parts (p a) (list_all p (range_with_len (a + 1) n)) h in
    elim (cases_lt a k) [
      | inl later ↦ all_range p (a + 1) n parts.1 k (omega arith) (omega arith)
      | inr here ↦ subst (λ j. p j ≡ true) (let same : a ≡ k = omega arith in same) parts.0
    ]

-- and the range does where each number does
pub range_all : (p : ℕ → Bool) (a n : ℕ) → ((k : ℕ) → a ≤ k → k < a + n → p k ≡ true) →
    list_all p (range_with_len a n) ≡ true
range_all p a zero h = refl
range_all p a (suc n) h =
    and_from (p a) (list_all p (range_with_len (a + 1) n)) (h a (omega arith) (omega arith))
    (range_all p (a + 1) n (λ k low high. h k (omega arith) (omega arith)))

-- two tests that agree on a range
pub range_same : (p q : ℕ → Bool) (a n : ℕ) → ((k : ℕ) → a ≤ k → k < a + n → p k ≡ q k) →
    list_all p (range_with_len a n) ≡ list_all q (range_with_len a n)
range_same p q a zero h = refl
range_same p q a (suc n) h =
    ap₂ (λ x y. x && y) (h a (omega arith) (omega arith))
    (range_same p q (a + 1) n (λ k low high. h k (omega arith) (omega arith)))

-- three tests in a row
and_assoc : (a b c : Bool) → ((a && b) && c) ≡ (a && (b && c))
and_assoc true b c = refl
and_assoc false b c = refl

-- a test of one number more at the end of a range
pub range_push : (p : ℕ → Bool) (a n : ℕ) → list_all p (range_with_len a (n + 1))
    ≡ (list_all p (range_with_len a n) && p (a + n))
range_push p a zero = and-true (p a) ∙ ap p (let same : a ≡ a + 0 = omega arith in same)
range_push p a (suc n) =
    ap (λ k. list_all p (range_with_len a k)) (let more : suc n + 1 ≡ suc (n + 1) = omega arith in more)
    ∙ ap (λ b. p a && b) (range_push p (a + 1) n ∙ ap (λ k. list_all p (range_with_len (a + 1) n) && p k)
    (let same : a + 1 + n ≡ a + suc n = omega arith in
    same))
    ∙ sym (and_assoc (p a) (list_all p (range_with_len (a + 1) n)) (p (a + suc n)))

-- two functions that agree on a range
pub map_range : {X : Type 0} (f g : ℕ → X) (a n : ℕ) → ((i : ℕ) → a ≤ i → i < a + n → f i ≡ g i) →
    map f (range_with_len a n) ≡ map g (range_with_len a n)
map_range f g a zero h = refl
map_range f g a (suc n) h =
    ap (λ x. x ∷ map f (range_with_len (a + 1) n)) (h a (omega arith) (omega arith))
    ∙ ap (λ xs. g a ∷ xs) (map_range f g (a + 1) n (λ i low high. h i (omega arith) (omega arith)))

-- functions that agree below a number give the same list
pub same_range : {X : Type 0} (f g : ℕ → X) (n : ℕ) → ((k : ℕ) → k < n → f k ≡ g k) →
    map f (range_with_len 0 n) ≡ map g (range_with_len 0 n)
same_range f g n same = map_range f g 0 n (λ k low high. same k (omega arith))

-- pieces one after the other, with one more
flat_next : {X : Type 0} (f : ℕ → List X) (a k j : ℕ) → a + k ≡ j →
    flat_map f (range_with_len a (suc k)) ≡ flat_map f (range_with_len a k) ++ f j
flat_next f a zero j e = let same : a ≡ j = omega arith in rw (same, append-nil) refl
flat_next f a (suc k) j e = rw (flat_next f (a + 1) k j (omega arith), append_assoc) refl

-- from 0 on
pub flat_more : {X : Type 0} (f : ℕ → List X) (k : ℕ) → flat_map f (range_with_len 0 (k + 1))
    ≡ flat_map f (range_with_len 0 k) ++ f k
flat_more f k = rw add-one (flat_next f 0 k k (omega arith))

-- a sum over the numbers below one more
pub sum_more : (f : ℕ → ℕ) (n : ℕ) → sum_by f (range_with_len 0 (n + 1)) ≡ sum_by f (range_with_len 0 n) + f n
sum_more f n =
    ap (sum_by f) (sym (map-id (range_with_len 0 (n + 1))))
    ∙ sum_by-map-range_with_len_more f (λ (k : ℕ). k) 0 n n (omega arith)
    ∙ ap (λ xs. sum_by f xs + f n) (map-id (range_with_len 0 n))

-- a sum so far, and one number more
pub sum_next : (f : ℕ → ℕ) (n count one : ℕ) → count ≡ sum_by f (range_with_len 0 n) → one ≡ f n →
    count + one ≡ sum_by f (range_with_len 0 (n + 1))
sum_next f n count one so_far is = (let more = sum_more f n in omega (arith, so_far, is, more))

-- a number of a range
pub range_bounds : (a n x : ℕ) → Contains (range_with_len a n) x → (a ≤ x) × (x < a + n)
range_bounds a n x c =
    let inside : c.0 < n = omega (arith, c.1, length-range_with_len a n) in
    let is : a + c.0 ≡ x = sym (get_or-range_with_len a n c.0 x inside) ∙ c.2 in
    (omega arith, omega arith)

pub in_range : (a n k : ℕ) → a ≤ k → k < a + n → Contains (range_with_len a n) k
in_range a n k low high =
    let at : a + (k - a) ≡ k = omega arith in
    (k - a, omega (arith, length-range_with_len a n), get_or-range_with_len a n (k - a) k (omega arith) ∙ at)

-- the numbers of a range that pass, with one number more
filter_next : (p : ℕ → Bool) (a n at : ℕ) → a + n ≡ at → filter p (range_with_len a (n + 1))
    ≡ filter p (range_with_len a n) ++ cond (p at) (at ∷ []) []
filter_next p a n at e =
    ap (filter p) (sym (map-id (range_with_len a (n + 1))))
    ∙ filter_of_map_range_with_len_more p (λ k. k) a n at e
    ∙ ap (λ l. filter p l ++ cond (p at) (at ∷ []) []) (map-id (range_with_len a n))

-- where it fails
pub filter_passed : (p : ℕ → Bool) (a n at : ℕ) → a + n ≡ at → p at ≡ false →
    filter p (range_with_len a (n + 1)) ≡ filter p (range_with_len a n)
filter_passed p a n at e fail =
    filter_next p a n at e ∙ ap (λ l. filter p (range_with_len a n) ++ l) (cond-false (p at) (at ∷ []) [] fail)
    ∙ append-nil (filter p (range_with_len a n))

-- and where it passes
pub filter_taken : (p : ℕ → Bool) (a n at : ℕ) → a + n ≡ at → p at ≡ true →
    filter p (range_with_len a (n + 1)) ≡ filter p (range_with_len a n) ++ at ∷ []
filter_taken p a n at e pass = filter_next p a n at e ∙ ap (λ l. filter p (range_with_len a n) ++ l)
    (cond-true (p at) (at ∷ []) [] pass)

-- the numbers of a range that pass, about one that does
range_parts : (a k m : ℕ) → range_with_len a (k + (m + 1)) ≡ range_with_len a k ++ (a + k)
    ∷ range_with_len (a + k + 1) m
range_parts a zero m =
    ap (λ l. range_with_len a l) (let more : 0 + (m + 1) ≡ suc m = omega arith in more)
    ∙ ap (λ q. q ∷ range_with_len (q + 1) m) (let at : a ≡ a + 0 = omega arith in at)
range_parts a (suc k) m =
    ap (λ q. range_with_len a q) (let more : suc k + (m + 1) ≡ suc (k + (m + 1)) = omega arith in more)
    ∙ ap (λ l. a ∷ l)
    (range_parts (a + 1) k m
    ∙ ap (λ q. range_with_len (a + 1) k ++ q ∷ range_with_len (q + 1) m)
    (let at : a + 1 + k ≡ a + suc k = omega arith in at))

-- a number that passes stands between those before and those after it
pub filter_parts : (p : ℕ → Bool) (a k m n at : ℕ) → a + k ≡ at → k + (m + 1) ≡ n → p at ≡ true →
    filter p (range_with_len a n) ≡ filter p (range_with_len a k) ++ at ∷ filter p (range_with_len (at + 1) m)
filter_parts p a k m n at is all pass =
    ap (λ q. filter p (range_with_len a q)) (sym all)
    ∙ ap (filter p) (range_parts a k m ∙ ap (λ q. range_with_len a k ++ q ∷ range_with_len (q + 1) m) is)
    ∙ filter-append p (range_with_len a k) (at ∷ range_with_len (at + 1) m)
    ∙ ap (λ l. filter p (range_with_len a k) ++ l)
    (cond-true (p at) (at ∷ filter p (range_with_len (at + 1) m)) (filter p (range_with_len (at + 1) m)) pass)

-- no more pass than there are
few : {X : Type 0} (p : X → Bool) (xs : List X) → length (filter p xs) ≤ length xs
few p [] = omega arith
few p (x ∷ xs) =
    let ih = few p xs in
    cond_both (p x) (x ∷ filter p xs) (filter p xs) (λ l. length l ≤ length (x ∷ xs)) (λ e. omega (arith, ih))
    (λ e. omega (arith, ih))

-- where one item fails, fewer pass than there are
pub fewer : {X : Type 0} (p : X → Bool) (xs : List X) (y : X) → Contains xs y → p y ≡ false →
    length (filter p xs) < length xs
fewer p [] y c fail = absurd (Contains-nil y c)
fewer p (x ∷ xs) y c fail = elim (Contains-cases x xs y c) [
  | inl same ↦ (
      let all = few p xs in
      subst (λ l. length l < length (x ∷ xs))
      (sym (cond-false (p x) (x ∷ filter p xs) (filter p xs) (ap p same ∙ fail))) (omega (arith, all)))
  | inr i ↦ (
      let ih = fewer p xs y i fail in
      cond_both (p x) (x ∷ filter p xs) (filter p xs) (λ l. length l < length (x ∷ xs)) (λ e. omega (arith, ih))
      (λ e. omega (arith, ih)))
]

-- so in a range
pub filter_most : (p : ℕ → Bool) (a n : ℕ) → length (filter p (range_with_len a n)) ≤ n
filter_most p a n = subst (λ k. length (filter p (range_with_len a n)) ≤ k) (length-range_with_len a n)
    (few p (range_with_len a n))

pub filter_fewer : (p : ℕ → Bool) (a n : ℕ) → Any (λ k. p k ≡ false) (range_with_len a n) →
    length (filter p (range_with_len a n)) < n
filter_fewer p a n any =
    let less = fewer p (range_with_len a n) any.1 (any.0, any.2, any.3) any.4 in
    subst (λ k. length (filter p (range_with_len a n)) < k) (length-range_with_len a n) less
