-- A flat list as chunks of one size: reading one, writing over one, and filling some.
use Rattle.mem_flash.proofs.Common.{◌≡◌, ℕ, ◌+◌, ◌-◌, ◌*◌, ◌<◌, ◌≤◌, List, length, get_or, drop, arith, rules, slice_chunk, length-append, length-drop, mul-le-mul_right, chunk_end, overwritten}
use Rattle.std.proofs.lemmas.List.{places, same_lists, length-take}

-- writing over a part of a list
module _ {A : Type 0} (old : List A) (from : ℕ) (new : List A) (within : from + length new ≤ length old) where
  pub length-overwritten : length (overwritten old from new) ≡ length old
  length-overwritten = simp (length-append, length-take, length-drop) (omega arith)

  pub get_or-overwritten_below : (k : ℕ) (d : A) → k < from → get_or (overwritten old from new) k d ≡ get_or old k d
  get_or-overwritten_below k d below = grind (arith, places)

  pub get_or-overwritten_in : (k : ℕ) (d : A) → from ≤ k → k < from + length new →
      get_or (overwritten old from new) k d ≡ get_or new (k - from) d
  get_or-overwritten_in k d low high = grind (arith, places)

  pub get_or-overwritten_above : (k : ℕ) (d : A) → from + length new ≤ k →
      get_or (overwritten old from new) k d ≡ get_or old k d
  get_or-overwritten_above k d above = grind (arith, places)

  -- a chunk before the part is as it was
  pub slice_chunk-overwritten_below : (size i : ℕ) → i * size + size ≤ from
      → slice_chunk (overwritten old from new) size i ≡ slice_chunk old size i
  slice_chunk-overwritten_below size i below = same_lists _ _ (search (rules, places)) (λ k d h. grind (arith, places))

  -- and so is one behind it
  pub slice_chunk-overwritten_above : (size i : ℕ) → from + length new ≤ i * size
      → slice_chunk (overwritten old from new) size i ≡ slice_chunk old size i
  slice_chunk-overwritten_above size i above = same_lists _ _ (search (rules, places)) (λ k d h. grind (arith, places))

  -- a chunk within the part is a part of what is new
  pub slice_chunk-overwritten_in : (size i j : ℕ) → i * size ≡ from + j * size → j * size + size ≤ length new
      → slice_chunk (overwritten old from new) size i ≡ slice_chunk new size j
  slice_chunk-overwritten_in size i j there inside = same_lists _ _ (search (rules, places))
      (λ k d h. grind (arith, places))

-- writing over a part behind a head
pub drop-overwritten : {A : Type 0} (old : List A) (head from : ℕ) (new : List A) →
    head + from + length new ≤ length old
    → drop head (overwritten old (head + from) new) ≡ overwritten (drop head old) from new
drop-overwritten old head from new within = same_lists _ _ (search (rules, places)) (λ k d h. grind (arith, places))

-- writing over m chunks, from chunk i on
module _ {A : Type 0} (old : List A) (size i m : ℕ) (new : List A) (long : length new ≡ m * size)
    (within : (i + m) * size ≤ length old) where
  -- the chunks before them are as they were
  pub slice_chunk-written_before : (k : ℕ) → k < i → slice_chunk (overwritten old (i * size) new) size k
      ≡ slice_chunk old size k
  slice_chunk-written_before k before =
      let whole : k * size + size ≤ i * size = chunk_end size k i before in
      slice_chunk-overwritten_below old (i * size) new (omega arith) size k whole

  -- and so are those behind them
  pub slice_chunk-written_behind : (k : ℕ) → i + m ≤ k → slice_chunk (overwritten old (i * size) new) size k
      ≡ slice_chunk old size k
  slice_chunk-written_behind k behind =
      let whole : (i + m) * size ≤ k * size = mul-le-mul_right size behind in
      slice_chunk-overwritten_above old (i * size) new (omega arith) size k (omega arith)

  -- they themselves are those of what is new
  pub slice_chunk-written : (k j : ℕ) → k ≡ i + j → j < m → slice_chunk (overwritten old (i * size) new) size k
      ≡ slice_chunk new size j
  slice_chunk-written k j there below =
      let whole : j * size + size ≤ m * size = chunk_end size j m below in
      slice_chunk-overwritten_in old (i * size) new (omega arith) size k j (rw there (omega arith)) (omega arith)
