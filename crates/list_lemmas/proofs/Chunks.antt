-- A flat list as chunks of one size.
use Rattle.std.proofs.Common.{ℕ, ◌+◌, ◌-◌, ◌*◌, ◌<◌, ◌≤◌, arith, ◌≡◌, List, length, suc, drop, rules, replicate, ◌++◌, take, zero, ap, ◌∙◌, get_or, refl}
use Rattle.std.proofs.Common.{add_comm}
use Rattle.std.specs.Fork.{slice_chunk}
use Rattle.std.specs.Simd.{first_chunks}
use Rattle.std.proofs.Math.Nat.{mul-le-mul_right}
use Rattle.std.proofs.Math.Seq.{take-append_seam, drop-append_seam}
use Rattle.std.proofs.lemmas.List.{length-take, length-drop, places, same_lists, drop-replicate, take-replicate, drop-drop}

-- a chunk below n ends within n chunks
pub chunk_end : (size i n : ℕ) → i < n → i * size + size ≤ n * size
chunk_end size i n below = let whole : (i + 1) * size ≤ n * size = mul-le-mul_right size (omega arith) in omega arith

-- a chunk that the list has whole is as long as it should be
pub length-slice_chunk : {A : Type 0} (flat : List A) (size i : ℕ) → i * size + size ≤ length flat →
    length (slice_chunk flat size i) ≡ size
length-slice_chunk flat size i within = simp (length-take, length-drop) (omega arith)

-- the chunks behind the first are those of the rest
pub slice_chunk-suc : {A : Type 0} (flat : List A) (size i : ℕ) →
    slice_chunk flat size (suc i) ≡ slice_chunk (drop size flat) size i
slice_chunk-suc flat size i = same_lists _ _ (search (rules, places)) (λ k d h. grind (arith, places))

-- a chunk of equal items
pub slice_chunk-replicate : {A : Type 0} (n size i : ℕ) (x : A) → i * size + size ≤ n →
    slice_chunk (replicate n x) size i ≡ replicate size x
slice_chunk-replicate n size i x within = rw (drop-replicate) (take-replicate size (n - i * size) x (omega arith))

-- a list of one chunk
pub slice_chunk-only : {A : Type 0} (flat : List A) (size : ℕ) → length flat ≡ size → slice_chunk flat size 0 ≡ flat
slice_chunk-only flat size long = same_lists _ _ (search (rules, places)) (λ k d h. grind (arith, places))

-- the front of two lists end to end
pub take_front : (xs ys : List ℕ) (k : ℕ) → k ≡ length xs → take k (xs ++ ys) ≡ xs
take_front xs ys k e = rw e (take-append_seam xs ys)

-- and what is behind it
pub drop_front : (xs ys : List ℕ) (k : ℕ) → k ≡ length xs → drop k (xs ++ ys) ≡ ys
drop_front xs ys k e = rw e (drop-append_seam xs ys)

-- the first chunk stands in front
pub first_chunk : (xs ys : List ℕ) (size : ℕ) → size ≡ length xs → slice_chunk (xs ++ ys) size zero ≡ xs
first_chunk xs ys size e = let none : zero * size ≡ 0 = omega arith in rw none (take_front xs ys size e)

-- and a later one is one of the rest
pub later_chunk : (xs ys : List ℕ) (size k : ℕ) → size ≡ length xs →
    slice_chunk (xs ++ ys) size (suc k) ≡ slice_chunk ys size k
later_chunk xs ys size k e = slice_chunk-suc (xs ++ ys) size k
    ∙ ap (λ zs. slice_chunk zs size k) (drop_front xs ys size e)

-- an item of a chunk stands in the list
pub chunk_at : {X : Type 0} (xs : List X) (per block at : ℕ) (d : X) → block * per ≤ at → at < block * per + per →
    get_or (slice_chunk xs per block) (at - block * per) d ≡ get_or xs at d
chunk_at xs per block at d low high = grind (arith, places)

-- at a place that the chunk has
pub length-chunk : {X : Type 0} (xs : List X) (per block at : ℕ) → block * per ≤ at → at < block * per + per →
    at < length xs →
    at - block * per < length (slice_chunk xs per block)
length-chunk xs per block at low high within = grind (arith, places)

-- this many chunks are taken
pub length-first_chunks : {X : Type 0} (n k : ℕ) (xs : List X) → length (first_chunks n k xs) ≡ k
length-first_chunks n zero xs = refl
length-first_chunks n (suc k) xs = ap (λ j. suc j) (length-first_chunks n k (drop n xs))

-- and these are they
pub get_or-first_chunks : {X : Type 0} (n k : ℕ) (xs : List X) (i : ℕ) (d : List X) → i < k →
    get_or (first_chunks n k xs) i d ≡ slice_chunk xs n i
get_or-first_chunks n zero xs i d inside = absurd (omega arith)
get_or-first_chunks n (suc k) xs zero d inside = let start : 0 * n ≡ 0 = omega arith in rw start refl
get_or-first_chunks n (suc k) xs (suc i) d inside =
    let next : i * n + n ≡ suc i * n = omega arith in
    get_or-first_chunks n k (drop n xs) i d (omega arith)
    ∙ ap (take n) (drop-drop (i * n) n xs ∙ ap (λ m. drop m xs) (add_comm n (i * n) ∙ next))
