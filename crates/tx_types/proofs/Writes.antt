-- The writes of a batch, from the bytes of one entry behind another.
use Rattle.std.proofs.Common.{◌≡◌, ℕ, zero, suc, ◌+◌, ◌*◌, ◌^◌, ◌-◌, ◌==◌, ◌<◌, ◌≤◌, ◌↔◌, Bool, true, false, not, if◌then◌else◌}
use Rattle.std.proofs.Common.{List, [], ◌∷◌, ◌++◌, length, get_or, map, take, drop, replicate, refl, ap, sym, subst, ◌∙◌, arith}
use Rattle.std.specs.Prelude.{IsTrue, All}
use Rattle.std.proofs.Math.Dec.{eqb-suc-zero}
use Rattle.std.specs.Fork.{slice_chunk}
use Rattle.std.specs.Simd.{first_chunks}
use Rattle.std.proofs.lemmas.List.{take-append-le, drop-append-le, take_all, length-drop, length-append, length-replicate, length-map, get_or-map, map-append}
use Rattle.std.proofs.lemmas.List.Elements.{All-push, All-get_or}
use Rattle.list_lemmas.proofs.Chunks.{chunk_end, length-first_chunks, get_or-first_chunks}
use Rattle.byteorder.specs.Endian.{little_number}
use Rattle.byteorder.specs.Numbers.{little_number-reads_back}
use Rattle.tx_types.specs.Batch.{PageWrite, no_write, padded, contents_of}
use Rattle.tx_types.specs.declared.target.Target.{Target}
use Rattle.tx_types.specs.Entries.{cell_of, is_discard, value_if, write_of, writes_in, HasZeros, BatchInvariant}

pub length-writes_in : (size count : ℕ) (cells : List ℕ) → length (writes_in size count cells) ≡ count
length-writes_in size count cells = length-map (first_chunks (5 + size) count cells) write_of
    ∙ length-first_chunks (5 + size) count cells

-- the write at an index
pub get_or-writes_in : (size count : ℕ) (cells : List ℕ) (k : ℕ) → k < count →
    get_or (writes_in size count cells) k no_write ≡ write_of (slice_chunk cells (5 + size) k)
get_or-writes_in size count cells k below =
    get_or-map write_of (first_chunks (5 + size) count cells) k [] no_write
    (omega (arith, length-first_chunks (5 + size) count cells))
    ∙ ap write_of (get_or-first_chunks (5 + size) count cells k [] below)

-- the bytes of an entry are the contents that its value has
pub contents_at : (size count : ℕ) (cells : List ℕ) (k : ℕ) → k < count → BatchInvariant size count cells →
    drop 5 (slice_chunk cells (5 + size) k) ≡ contents_of size (write_of (slice_chunk cells (5 + size) k)).value
contents_at size count cells k below are = by_flag (slice_chunk cells (5 + size) k)
    (is_discard (slice_chunk cells (5 + size) k)) zeros
  where
    zeros : HasZeros size (slice_chunk cells (5 + size) k)
    zeros =
        subst (HasZeros size) (get_or-first_chunks (5 + size) count cells k [] below)
        (All-get_or (HasZeros size) (first_chunks (5 + size) count cells) k []
        (omega (arith, length-first_chunks (5 + size) count cells)) are.zeros)

    by_flag : (cell : List ℕ) (d : Bool) → (d ≡ true → drop 5 cell ≡ replicate size 0) →
        drop 5 cell ≡ contents_of size (value_if d (drop 5 cell))
    by_flag cell true zero' = zero' refl
    by_flag cell false zero' = refl

-- an entry more is a chunk more
first_chunks-append : (n count : ℕ) (cells cell : List ℕ) → length cells ≡ count * n → length cell ≡ n →
    first_chunks n (suc count) (cells ++ cell) ≡ first_chunks n count cells ++ cell ∷ []
first_chunks-append n zero [] cell whole long = ap (λ chunk. chunk ∷ []) (take_all n cell (omega arith))
first_chunks-append n zero (b ∷ cells) cell whole long = absurd (omega arith)
first_chunks-append n (suc count) cells cell whole long =
    let inside : n ≤ length cells = omega arith in
    let rest : length (drop n cells) ≡ count * n = simp length-drop (omega arith) in
    rw (take-append-le, drop-append-le) (ap (λ chunks. take n cells ∷ chunks)
    (first_chunks-append n count (drop n cells) cell rest long))

-- what is filled up to a page is a page
pub length-padded : (size : ℕ) (bytes : List ℕ) → length bytes ≤ size → length (padded size bytes) ≡ size
length-padded size bytes short = simp (length-append, length-replicate) (omega arith)

-- and of no bytes it is zeros
padded_none : (size : ℕ) → padded size [] ≡ replicate size 0
padded_none size = let all : size - 0 ≡ size = omega arith in ap (λ n. replicate n 0) all

length-cell : (t : Target) (size : ℕ) (bytes : List ℕ) → length bytes ≤ size → length (cell_of t size bytes) ≡ 5 + size
length-cell t size bytes short = let page = length-padded size bytes short in omega (arith, page)

-- the byte of an entry that says whether it discards
flag_back : (d : Bool) → not ((if d then 1 else 0) == 0) ≡ d
flag_back true = refl
flag_back false = refl

-- what an entry was made of
write_of-cell : (t : Target) (size : ℕ) (bytes : List ℕ) → t.page < 2 ^ 32 →
    write_of (cell_of t size bytes) ≡ record { page = t.page; value = value_if t.discard (padded size bytes) }
write_of-cell t size bytes fits =
    let number : little_number 4 (cell_of t size bytes) ≡ t.page =
    little_number-reads_back 4 t.page ((if t.discard then 1 else 0) ∷ padded size bytes) fits in
    ap (λ (page : ℕ). record { page = page; value = value_if (is_discard (cell_of t size bytes)) (padded size bytes) })
    number
    ∙ ap (λ (d : Bool). record { page = t.page; value = value_if d (padded size bytes) }) (flag_back t.discard)

-- an entry more is a write more
pub writes_in-append : (size count more : ℕ) (cells : List ℕ) (t : Target) (bytes : List ℕ) → more ≡ count + 1 →
    length cells ≡ count * (5 + size) →
    length bytes ≤ size → t.page < 2 ^ 32 → writes_in size more (cells ++ cell_of t size bytes)
    ≡ writes_in size count cells ++ record { page = t.page; value = value_if t.discard (padded size bytes) } ∷ []
writes_in-append size count more cells t bytes one whole short fits =
    let next : more ≡ suc count = omega arith in
    ap (λ n. writes_in size n (cells ++ cell_of t size bytes)) next
    ∙ ap (map write_of) (first_chunks-append (5 + size) count cells (cell_of t size bytes) whole
    (length-cell t size bytes short))
    ∙ map-append write_of (first_chunks (5 + size) count cells) (cell_of t size bytes ∷ [])
    ∙ ap (λ (w : PageWrite). writes_in size count cells ++ w ∷ []) (write_of-cell t size bytes fits)

-- a discard is an entry without bytes
zeros_of-cell : (t : Target) (size : ℕ) (bytes : List ℕ) → (t.discard ≡ true → bytes ≡ []) →
    HasZeros size (cell_of t size bytes)
zeros_of-cell t size bytes none discards =
    ap (padded size) (none (sym (flag_back t.discard) ∙ discards)) ∙ padded_none size

pub AreWhole-append : (size count more : ℕ) (cells : List ℕ) (t : Target) (bytes : List ℕ) → more ≡ count + 1 →
    BatchInvariant size count cells →
    length bytes ≤ size → (t.discard ≡ true → bytes ≡ []) → BatchInvariant size more (cells ++ cell_of t size bytes)
AreWhole-append size count more cells t bytes one are short none =
    let next : more ≡ suc count = omega arith in
    let whole = are.whole in
    let long = length-cell t size bytes short in
    subst (λ n. BatchInvariant size n (cells ++ cell_of t size bytes)) (sym next) (record {
      whole = let sum = length-append cells (cell_of t size bytes) in omega arith;
      zeros =
          subst (All (HasZeros size))
          (sym (first_chunks-append (5 + size) count cells (cell_of t size bytes) whole long))
          (All-push (HasZeros size) (first_chunks (5 + size) count cells) (cell_of t size bytes) are.zeros
          (zeros_of-cell t size bytes none));
    })

-- there is none where there is no entry
pub is_empty-writes_in : (size count : ℕ) (cells : List ℕ) → IsTrue (count == 0) ↔ (writes_in size count cells ≡ [])
is_empty-writes_in size zero cells = (λ _. refl, λ _. refl)
is_empty-writes_in size (suc count) cells = (λ yes. absurd (cc (yes, eqb-suc-zero count)), λ none. absurd cc)

-- the bytes of an entry are there
pub cell_within : (size count : ℕ) (cells : List ℕ) (i : ℕ) → BatchInvariant size count cells →
    i < length (writes_in size count cells) →
    i * (5 + size) + (5 + size) ≤ length cells
cell_within size count cells i are below =
    let whole = are.whole in
    let ends : i * (5 + size) + (5 + size) ≤ count * (5 + size) =
    chunk_end (5 + size) i count (omega (arith, length-writes_in size count cells)) in
    omega arith
