-- What a transaction writes.
use Rattle.std.specs.Prelude.{ℕ, ◌-◌, Option, Some, None, List, [], ◌∷◌, ◌++◌, length, replicate, slice_index_or}

-- a page and what it is to hold: its bytes, or nothing where it is discarded
pub record PageWrite : Type 0 where
  pub page : ℕ
  pub value : Option (List ℕ)

-- the size of a page, and the writes in order
pub record Writes : Type 0 where
  pub page_bytes : ℕ
  pub entries : List PageWrite

-- the bytes with zeros after them, up to a length
abbrev pub padded : ℕ → List ℕ → List ℕ
padded size bytes = bytes ++ replicate (size - length bytes) 0

-- the writes and one more at the end
abbrev pub with_entry : Writes → ℕ → List ℕ → Writes
with_entry w page bytes =
    record w {
      entries =
          w.entries
          ++ record { page = page; value = Some (padded w.page_bytes bytes) } ∷ [];
    }

-- the writes and a discard at the end
abbrev pub with_discard : Writes → ℕ → Writes
with_discard w page =
    record w { entries = w.entries ++ record { page = page; value = None } ∷ [] }

-- what stands for the write at an index where there is none
abbrev pub no_write : PageWrite
no_write = record { page = 0; value = None }

-- the write at this index
abbrev pub entry_at : Writes → ℕ → PageWrite
entry_at w i = slice_index_or w.entries i no_write

-- the contents of a slot of this size for a value: zeros for none
abbrev pub contents_of : ℕ → Option (List ℕ) → List ℕ
contents_of size None = replicate size 0
contents_of size (Some bytes) = bytes

-- the contents of a slot for a write
abbrev pub bytes_in : ℕ → PageWrite → List ℕ
bytes_in size w = contents_of size w.value
