-- What writes make of the bytes of a file, and what a loss of power leaves of them.
use Rattle.std.specs.Prelude.{◌≡◌, ℕ, ◌-◌, nat_le, Bool, List, [], ◌∷◌, ◌++◌, length, map, slice_index, slice_get, Option, None, Some, unwrap_or, option_map, if◌then◌else◌}
use Rattle.std.specs.List.{range_with_len}
use Rattle.file_flash.specs.Files.{FileState}
use Rattle.lossy_store.specs.declared.write.Write.{Write}

-- the byte that a write has at a place of the file, if it reaches there
abbrev pub byte_in : Write → ℕ → Option ℕ
byte_in w k = if nat_le w.offset k then slice_get w.bytes.items (k - w.offset) else None

-- the byte of a place once this is written, where another one stood
abbrev pub byte_over : Write → ℕ → ℕ → ℕ
byte_over w k byte = unwrap_or (byte_in w k) byte

-- and once these are written, the first of them first
abbrev pub byte_from : List Write → ℕ → ℕ → ℕ
byte_from [] k byte = byte
byte_from (w ∷ ws) k byte = byte_from ws k (byte_over w k byte)

-- a value in front of others, if there is one
abbrev pub in_front : Option ℕ → List ℕ → List ℕ
in_front None values = values
in_front (Some byte) values = byte ∷ values

-- the values of a place, newest first, once these are written, where it had these values before
abbrev pub values_from : List Write → ℕ → List ℕ → List ℕ
values_from [] k values = values
values_from (w ∷ ws) k values = values_from ws k (in_front (byte_in w k) values)

-- a file of which these bytes are durable and these writes are not
abbrev pub file_of : List ℕ → List Write → Bool → FileState
file_of durable writes copies = record {
  values = map (λ k. values_from writes k (slice_index durable k ∷ [])) (range_with_len 0 (length durable));
  copies = copies;
}

-- a write of these bytes from this offset on stands behind the others
pub record Notes (offset : ℕ) (bytes : List ℕ) (old new : List Write) : Type 0 where
  pub write : Write
  pub offset_is : write.offset ≡ offset
  pub bytes_are : write.bytes.items ≡ bytes
  pub behind : new ≡ old ++ write ∷ []

-- how many bytes a write of this number has, and 0 where there is none
abbrev pub bytes_in : List Write → ℕ → ℕ
bytes_in writes number = unwrap_or (option_map (λ (w : Write). length w.bytes.items) (slice_get writes number)) 0
