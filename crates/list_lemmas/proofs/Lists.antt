-- Parts of lists, mapped lists, and the items at their places.
use Rattle.std.proofs.Common.{◌≡◌, ℕ, List, length, take, arith, ◌+◌, [], ◌∷◌, ◌++◌, ◌∙◌, ◌<◌, drop, zero, suc, ◌-◌, ap, add-one, sym, ◌≤◌, refl, slice_range}
use Rattle.std.proofs.Common.{get_or, map, Some, Option, None, slice_get, ◌⊎◌, inl, inr}
use Rattle.std.proofs.Math.Seq.{drop-cons}
use Rattle.std.proofs.lemmas.List.{take_all, take-append-le, append-nil, take-append-drop, drop-drop, length-take, length-drop}
use Rattle.std.proofs.lemmas.Option.{same_Some}

-- as many as there are
pub take_whole : {X : Type 0} (n : ℕ) (xs : List X) → length xs ≡ n → take n xs ≡ xs
take_whole n xs same = take_all n xs (omega arith)

-- all but the last
pub take_before_last : {X : Type 0} (n : ℕ) (xs : List X) (x : X) → length xs ≡ n → take n (xs ++ x ∷ []) ≡ xs
take_before_last n xs x same = take-append-le n xs (x ∷ []) (omega arith) ∙ take_whole n xs same

-- the front of a list one element later
pub record Next {X : Type 0} (xs : List X) (i : ℕ) (x : X) (more : List X) : Type 0 where
  pub front : take (i + 1) xs ≡ take i xs ++ x ∷ []
  pub behind : drop (i + 1) xs ≡ more
  pub within : i < length xs

-- where the rest begins with an item
pub next : {X : Type 0} (xs : List X) (i : ℕ) (x : X) (more : List X) → drop i xs ≡ x ∷ more → Next xs i x more
next [] zero x more h = absurd (cc)
next [] (suc i) x more h = absurd (cc)
next (y ∷ ys) zero x more h = let heads : y ≡ x = cc in let tails : ys ≡ more = cc in
    record { front = ap (λ z. z ∷ []) heads; behind = tails; within = omega arith }
next (y ∷ ys) (suc i) x more h =
    let rest = next ys i x more h in
    record {
      front = rw add-one (ap (λ zs. y ∷ zs) (rw add-one at rest.front));
      behind = rw add-one (rw add-one at rest.behind);
      within = let w = rest.within in
          omega arith;
    }

-- where nothing is behind
pub take_to_end : {X : Type 0} (xs : List X) (i : ℕ) → drop i xs ≡ [] → take i xs ≡ xs
take_to_end xs i h = sym (append-nil (take i xs)) ∙ rw h at (take-append-drop i xs)

-- a shorter front of a front
pub take_shorter : {X : Type 0} (n m : ℕ) (xs : List X) → n ≤ m → take n (take m xs) ≡ take n xs
take_shorter zero m xs h = refl
take_shorter (suc n) zero xs h = absurd (omega arith)
take_shorter (suc n) (suc m) [] h = refl
take_shorter (suc n) (suc m) (x ∷ xs) h = ap (λ zs. x ∷ zs) (take_shorter n m xs (omega arith))

-- what starts at m begins with a part that ends at n
pub split_at : (m n : ℕ) (bytes : List ℕ) → m ≤ n → drop m bytes ≡ slice_range bytes m n ++ drop n bytes
split_at m n bytes le =
    let whole : m + (n - m) ≡ n = omega arith in
    sym (take-append-drop (n - m) (drop m bytes)) ∙ ap (λ rest. slice_range bytes m n ++ rest)
    (drop-drop (n - m) m bytes ∙ ap (λ k. drop k bytes) whole)

-- what starts at m begins with this part, and this is the rest
pub joined : (m n : ℕ) (bytes part rest : List ℕ) → m ≤ n → slice_range bytes m n ≡ part → drop n bytes ≡ rest →
    drop m bytes ≡ part ++ rest
joined m n bytes part rest le is_part is_rest = split_at m n bytes le ∙ rw (is_part, is_rest) refl

-- the bytes at m and behind it
pub next_two : (m : ℕ) (bytes : List ℕ) → suc m < length bytes →
    drop m bytes ≡ get_or bytes m 0 ∷ get_or bytes (suc m) 0 ∷ drop (suc (suc m)) bytes
next_two m bytes lt = drop-cons bytes m 0 (omega arith)
    ∙ ap (λ rest. get_or bytes m 0 ∷ rest) (drop-cons bytes (suc m) 0 lt)

-- a part is as long as its bounds say
pub length-range : (offset n : ℕ) (bytes : List ℕ) → offset + n ≤ length bytes →
    length (slice_range bytes offset (offset + n)) ≡ n
length-range offset n bytes le = omega (
  arith,
  length-take (offset + n - offset) (drop offset bytes),
  length-drop offset bytes,
)

-- a list that is mapped twice
pub map_map : {X Y Z : Type 0} (f : X → Y) (g : Y → Z) (xs : List X) → map g (map f xs) ≡ map (λ x. g (f x)) xs
map_map f g [] = refl
map_map f g (x ∷ xs) = ap (λ ys. g (f x) ∷ ys) (map_map f g xs)

-- lists of given items are equal where the items are
pub same_somes : {X : Type 0} (xs ys : List X) → map Some xs ≡ map Some ys → xs ≡ ys
same_somes [] [] h = refl
same_somes [] (y ∷ ys) h = absurd (cc)
same_somes (x ∷ xs) [] h = absurd (cc)
same_somes (x ∷ xs) (y ∷ ys) h =
    let tails : map Some xs ≡ map Some ys = cc in
    let rest = same_somes xs ys tails in
    cc

-- where one thing is not read, not all are
pub none_among : {X : Type 0} (xs ys : List X) (rest : List (Option X)) → map Some ys ≡ map Some xs ++ None ∷ rest → ⊥
none_among [] [] rest h = cc
none_among [] (y ∷ ys) rest h = cc
none_among (x ∷ xs) [] rest h = cc
none_among (x ∷ xs) (y ∷ ys) rest h = let tails : map Some ys ≡ map Some xs ++ None ∷ rest = cc in
    none_among xs ys rest tails

-- what a place of a mapped list has
pub slice_get_map : {X Y : Type 0} (f : X → Y) (xs : List X) (k : ℕ) (d : X) (y : Y) → slice_get (map f xs) k ≡ Some y →
    (k < length xs) ×
    (f (get_or xs k d) ≡ y)
slice_get_map f [] k d y h = absurd (cc)
slice_get_map f (x ∷ xs) zero d y h = (omega arith, (let same : f x ≡ y = cc in same))
slice_get_map f (x ∷ xs) (suc k) d y h = let rest = slice_get_map f xs k d y h in
    (let w = rest.0 in omega arith, rest.1)

-- and where it has something
pub slice_get_at : {X Y : Type 0} (f : X → Y) (xs : List X) (k : ℕ) (d : X) → k < length xs →
    slice_get (map f xs) k ≡ Some (f (get_or xs k d))
slice_get_at f [] k d h = absurd (omega arith)
slice_get_at f (x ∷ xs) zero d h = refl
slice_get_at f (x ∷ xs) (suc k) d h = slice_get_at f xs k d (omega arith)

-- a place that a list has, it has still
pub got_before : {X : Type 0} (xs : List X) (y : X) (k : ℕ) (x : X) → slice_get xs k ≡ Some x →
    slice_get (xs ++ y ∷ []) k ≡ Some x
got_before [] y k x h = cc
got_before (z ∷ zs) y zero x h = h
got_before (z ∷ zs) y (suc k) x h = got_before zs y k x h

-- and each place is one of before, or that of the new item
pub got_push : {X : Type 0} (xs : List X) (y : X) (k : ℕ) (x : X) → slice_get (xs ++ y ∷ []) k ≡ Some x →
    (slice_get xs k ≡ Some x) ⊎ (y ≡ x)
got_push [] y zero x h = inr (same_Some y x h)
got_push [] y (suc k) x h = cc
got_push (z ∷ zs) y zero x h = inl h
got_push (z ∷ zs) y (suc k) x h = got_push zs y k x h
