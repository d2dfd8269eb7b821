-- A file of which a loss leaves nothing but what is known.
use Rattle.std.specs.Prelude.{◌≡◌, ℕ, ◌<◌, false, List, [], ◌∷◌, length, slice_index}
use Rattle.file_flash.specs.Files.{FileState, values_at}

-- a loss leaves these bytes of the file, and no others; and a sync makes durable what is written from now on
pub record IsDurable (bytes : List ℕ) (file : FileState) : Type 0 where
  pub long : length file.values ≡ length bytes
  pub copies : file.copies ≡ false
  pub each : (k : ℕ) → k < length bytes → values_at file k ≡ slice_index bytes k ∷ []
