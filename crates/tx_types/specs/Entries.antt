-- How a batch keeps its writes.
use Rattle.std.specs.Prelude.{◌≡◌, ℕ, ◌+◌, ◌*◌, ◌==◌, Bool, true, not, Option, Some, None, if◌then◌else◌}
use Rattle.std.specs.Prelude.{List, [], ◌∷◌, ◌++◌, length, map, replicate, drop, slice_index, All}
use Rattle.std.specs.Simd.{first_chunks}
use Rattle.byteorder.specs.Endian.{little_bytes, little_number}
use Rattle.tx_types.specs.Batch.{PageWrite, Writes, padded}
use Rattle.tx_types.specs.declared.target.Target.{Target}

-- the bytes before those of the page
abbrev pub head_of : Target → List ℕ
head_of t = little_bytes 4 t.page ++ (if t.discard then 1 else 0) ∷ []

-- the bytes of an entry, with zeros after those that are given
abbrev pub cell_of : Target → ℕ → List ℕ → List ℕ
cell_of t size bytes = head_of t ++ padded size bytes

-- whether an entry discards its page
abbrev pub is_discard : List ℕ → Bool
is_discard cell = not (slice_index cell 4 == 0)

-- the value of a write of these bytes, or of a discard
abbrev pub value_if : Bool → List ℕ → Option (List ℕ)
value_if discard bytes = if discard then None else Some bytes

-- the writes and one more at the end, with zeros after its bytes up to a page
abbrev pub with_write : Writes → ℕ → Bool → List ℕ → Writes
with_write w page discard bytes =
    record w {
      entries =
          w.entries
          ++ record { page = page; value = value_if discard (padded w.page_bytes bytes) } ∷ [];
    }

-- the write that an entry is
abbrev pub write_of : List ℕ → PageWrite
write_of cell = record { page = little_number 4 cell; value = value_if (is_discard cell) (drop 5 cell) }

-- this many writes, by the bytes of one entry behind another
abbrev pub writes_in : ℕ → ℕ → List ℕ → List PageWrite
writes_in size count cells = map write_of (first_chunks (5 + size) count cells)

-- a batch of these, for pages of this many bytes
abbrev pub writes_of : ℕ → ℕ → List ℕ → Writes
writes_of size count cells = record { page_bytes = size; entries = writes_in size count cells }

-- an entry that discards its page has zeros
abbrev pub HasZeros : ℕ → List ℕ → Type 0
HasZeros size cell = is_discard cell ≡ true → drop 5 cell ≡ replicate size 0

-- there are the bytes of a whole page for each, and those of a page that is discarded are zeros
pub record BatchInvariant (size count : ℕ) (cells : List ℕ) : Type 0 where
  pub whole : length cells ≡ count * (5 + size)
  pub zeros : All (HasZeros size) (first_chunks (5 + size) count cells)
