-- A put whose keys differ: what it puts in a page is all there in the end.
use Rattle.page_keys.proofs.Common.{◌≡◌, ℕ, ◌+◌, ◌≤◌, Bool, true, false, not, ◌||◌, cond, List, [], ◌∷◌, ◌++◌, length, filter, Option, Some, None, refl, sym, ap, subst, ◌∙◌, arith, count_by, list_any, AllByRecursion, eq_by_cmp, is_eq, bytes_eq, Ordering, Less, Equal, Greater, list_any-append, with_pair, changed, puts_value, KeyMap, Pair, key_order, apply, part, is_in, of_page, has_key, repeated, PutError, Change}
use Rattle.std.specs.Prelude.{is_some}
use Rattle.std.specs.FinMap as keys
use Rattle.std.specs.FinMap.Entries as sorted
use Rattle.std.proofs.lemmas.List.Sums.{length-filter}
use Rattle.std.proofs.lemmas.Map.Text.{is_eq-slice_cmp}
use Rattle.page_keys.proofs.OfBucket.BucketChanges.{all_filtered}
use Rattle.page_keys.proofs.OfBucket.EntryLists.{turned}
use Rattle.page_keys.proofs.OfBucket.Parts.{entries_change, only_equal}

-- how many pass a test
abbrev passing : {X : Type 0} → (X → Bool) → List X → ℕ
passing p xs = length (filter p xs)

one_more : {X : Type 0} (x y : X) (xs ys : List X) (a b : Bool) → (a ≡ true → b ≡ true) →
    length xs ≤ length ys → length (cond a (x ∷ xs) xs) ≤ length (cond b (y ∷ ys) ys)
one_more x y xs ys false false h less = less
one_more x y xs ys false true h less = omega arith
one_more x y xs ys true true h less = omega arith
one_more x y xs ys true false h less = let e = h refl in cc

module _ {X : Type 0} (p r : X → Bool) (more : (x : X) → p x ≡ true → r x ≡ true) where
  -- what passes one test passes the other
  count_more : (xs : List X) → passing p xs ≤ passing r xs
  count_more [] = omega arith
  count_more (x ∷ xs) =
      one_more x x (filter p xs) (filter r xs) (p x) (r x) (more x) (count_more xs)

  -- and it is kept
  count_kept : (q : X → Bool) → ((x : X) → p x ≡ true → q x ≡ true) → (xs : List X) →
      passing p xs ≤ passing r (filter q xs)
  count_kept q kept [] = omega arith
  count_kept q kept (x ∷ xs) =
      let rest = count_kept q kept xs in
      elim (q x) as (λ b. (p x ≡ true → b ≡ true) →
      length (cond (p x) (x ∷ filter p xs) (filter p xs)) ≤ passing r (cond b (x ∷ filter q xs) (filter q xs))) [
        | true ↦ λ h. one_more x x (filter p xs) (filter r (filter q xs)) (p x) (r x) (more x) rest
        | false ↦ λ h. one_more x x (filter p xs) (filter r (filter q xs)) (p x) false h rest
      ] (kept x)

-- each key differs from those before it
abbrev pub Differ : List Change → Type 0
Differ [] = Unit {0}
Differ (c ∷ cs) = AllByRecursion (λ d. has_key d.key c ≡ false) cs × Differ cs

-- no change has the key of an entry
abbrev stays : List Change → Pair → Bool
stays cs e = not (list_any (λ d. bytes_eq e.0 d.key) cs)

not_either : (a b : Bool) → not (a || b) ≡ true → (a ≡ false) × (not b ≡ true)
not_either false b h = (refl, h)
not_either true b h = cc

module _ (c : Change) (cs : List Change) where
  stays_yet : (e : Pair) → stays (c ∷ cs) e ≡ true → stays cs e ≡ true
  stays_yet e h = (not_either (bytes_eq e.0 c.key) _ h).1

  -- an entry of another key is not removed
  stays_there : (e : Pair) → stays (c ∷ cs) e ≡ true → not (eq_by_cmp key_order c.key e.0) ≡ true
  stays_there e h = by_order (key_order c.key e.0) refl
    where
      by_order : (r : Ordering) → key_order c.key e.0 ≡ r → not (is_eq r) ≡ true
      by_order Less is = refl
      by_order Greater is = refl
      by_order Equal is =
          let back = turned c.key e.0 Equal is in
          let test : bytes_eq e.0 c.key ≡ true = sym (is_eq-slice_cmp e.0 c.key) ∙ ap is_eq back in
          let other = (not_either (bytes_eq e.0 c.key) _ h).0 in
          cc

  itself : (d : List Change) → AllByRecursion (λ d. has_key d.key c ≡ false) d →
      not (list_any (λ d. bytes_eq c.key d.key) d) ≡ true
  itself [] each = refl
  itself (d ∷ ds) each = rw each.0 (itself ds each.1)

  -- a value that is put is there, with what stays
  with_value_put : AllByRecursion (λ d. has_key d.key c ≡ false) cs → (value : List ℕ) (es : List Pair) →
      1 + passing (stays (c ∷ cs)) es ≤ passing (stays cs) (sorted.put key_order c.key value es)
  with_value_put differ value [] =
      let here : stays cs (c.key, value) ≡ true = itself cs differ in rw here (omega arith)
  with_value_put differ value (e ∷ es) =
      by_order (key_order c.key e.0) refl (with_value_put differ value es)
    where
      by_order : (r : Ordering) → key_order c.key e.0 ≡ r →
          1 + passing (stays (c ∷ cs)) es ≤ passing (stays cs) (sorted.put key_order c.key value es) →
          1 + passing (stays (c ∷ cs)) (e ∷ es) ≤ passing (stays cs)
          (sorted.by_order r ((c.key, value) ∷ e ∷ es) ((e.0, value) ∷ es)
          (e ∷ sorted.put key_order c.key value es))
      by_order Less is later =
          let here : stays cs (c.key, value) ≡ true = itself cs differ in
          let rest = count_more (stays (c ∷ cs)) (stays cs) stays_yet (e ∷ es) in
          rw here (omega (arith, rest))
      by_order Equal is later =
          let same : c.key ≡ e.0 = only_equal c.key e.0 is in
          let here : stays cs (e.0, value) ≡ true =
          subst (λ (k : List ℕ). not (list_any (λ d. bytes_eq k d.key) cs) ≡ true) same (itself cs differ) in
          let test : bytes_eq e.0 c.key ≡ true =
          sym (is_eq-slice_cmp e.0 c.key) ∙ ap is_eq (turned c.key e.0 Equal is) in
          let rest = count_more (stays (c ∷ cs)) (stays cs) stays_yet es in
          rw (here, test) (omega (arith, rest))
      by_order Greater is later =
          further (stays (c ∷ cs) e) (stays cs e) _ _ (stays_yet e) later
        where
          further : (a b : Bool) (l k : List Pair) → (a ≡ true → b ≡ true) → 1 + length l ≤ length k →
              1 + length (cond a (e ∷ l) l) ≤ length (cond b (e ∷ k) k)
          further false false l k h less = less
          further false true l k h less = omega arith
          further true true l k h less = omega arith
          further true false l k h less = let x = h refl in cc

all_counted : (es : List Pair) → passing (stays []) es ≡ length es
all_counted [] = refl
all_counted (e ∷ es) = let rest = all_counted es in omega (arith, rest)

-- what no change is of stays, and what is put is there
kept_and_put : (cs : List Change) → Differ cs → (es : List Pair) →
    passing (stays cs) es + passing puts_value cs ≤ length (changed es cs)
kept_and_put [] differ es = let all = all_counted es in omega (arith, all)
kept_and_put (c ∷ cs) differ es =
    let rest = kept_and_put cs differ.1 (with_pair es c.key c.value) in
    by_value c.value refl rest
  where
    by_value : (v : Option (List ℕ)) → c.value ≡ v →
        passing (stays cs) (with_pair es c.key v) + passing puts_value cs ≤ length (changed (with_pair es c.key v) cs) →
        passing (stays (c ∷ cs)) es + length (cond (is_some v) (c ∷ filter puts_value cs) (filter puts_value cs))
        ≤ length (changed (with_pair es c.key v) cs)
    by_value None is rest =
        let kept = count_kept (stays (c ∷ cs)) (stays cs) (stays_yet c cs)
        (λ e. not (eq_by_cmp key_order c.key e.0)) (stays_there c cs) es in
        omega (arith, kept, rest)
    by_value (Some value) is rest =
        let kept = with_value_put c cs differ.0 value es in
        omega (arith, kept, rest)

or_parts : (a b : Bool) → (a || b) ≡ false → (a ≡ false) × (b ≡ false)
or_parts false b h = (refl, h)
or_parts true b h = cc

first_not : (b : Bool) (x : PutError) (rest : Option PutError) → cond b (Some x) rest ≡ None →
    (b ≡ false) × (rest ≡ None)
first_not false x rest h = (refl, h)
first_not true x rest h = cc

-- none has a key, the last one too
none_has : (k : List ℕ) (earlier : List Change) (c : Change) →
    list_any (has_key k) (earlier ++ c ∷ []) ≡ false →
    (list_any (has_key k) earlier ≡ false) × (has_key k c ≡ false)
none_has k earlier c h =
    let parts = or_parts _ _ (sym (list_any-append (has_key k) earlier (c ∷ [])) ∙ h) in
    (parts.0, (or_parts (has_key k c) false parts.1).0)

not_before : (c : Change) (earlier cs : List Change) →
    ((k : List ℕ) → list_any (has_key k) earlier ≡ false → has_key k c ≡ false) →
    repeated earlier cs ≡ None → AllByRecursion (λ d. has_key d.key c ≡ false) cs
not_before c earlier [] other none = tt
not_before c earlier (d ∷ cs) other none =
    let parts = first_not _ _ _ none in (
      other d.key parts.0,
      not_before c (earlier ++ d ∷ []) cs (λ k h. other k (none_has k earlier d h).0) parts.1,
    )

-- where none stood earlier, they differ
differ_from : (earlier cs : List Change) → repeated earlier cs ≡ None → Differ cs
differ_from earlier [] none = tt
differ_from earlier (c ∷ cs) none =
    let parts = first_not _ _ _ none in (
      not_before c (earlier ++ c ∷ []) cs (λ k h. (none_has k earlier c h).1) parts.1,
      differ_from (earlier ++ c ∷ []) cs parts.1,
    )

differ_filtered : (p : Change → Bool) (cs : List Change) → Differ cs → Differ (filter p cs)
differ_filtered p [] differ = tt
differ_filtered p (c ∷ cs) differ =
    let rest = differ_filtered p cs differ.1 in
    elim (p c) as (λ b. Differ (cond b (c ∷ filter p cs) (filter p cs))) [
      | true ↦ (all_filtered (λ d. has_key d.key c ≡ false) p cs differ.0, rest)
      | false ↦ rest
    ]

-- a page has at least the values that a put of different keys puts in it
pub puts_most : (logical page : ℕ) (m : KeyMap) (cs : List Change) → repeated [] cs ≡ None →
    count_by puts_value (of_page logical page cs) ≤ length (keys.entries (part logical page (apply m cs)))
puts_most logical page m cs none =
    let differ = differ_filtered (λ c. is_in logical page c.key) cs (differ_from [] cs none) in
    let least = kept_and_put (of_page logical page cs) differ (keys.entries (part logical page m)) in
    let size = ap (length {A = Pair}) (entries_change logical page m cs) in
    let count = length-filter puts_value (of_page logical page cs) in
    omega (arith, least, size, count)
