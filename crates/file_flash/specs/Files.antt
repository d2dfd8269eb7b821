-- An open file of fixed length, and what a loss of power may leave of it.
use Rattle.std.specs.Prelude.{◌≡◌, ◌⊎◌, ℕ, ◌+◌, ◌<◌, ◌≤◌, Bool, false, List, [], ◌∷◌, length, take, map, slice_index, slice_index_or, Contains, Option, None, Some, Result, Ok, Err}
use Rattle.flash_model.specs.Flash.{counted}
use Rattle.file_flash.specs.declared.store.StoreError.{StoreError}

-- Of each byte the values that a loss of power may leave, newest first: the newest is read. But while the system may
-- hold copies that no sync makes durable, from before the file was opened or from a sync that failed, any may be read.
pub record FileState : Type 0 where
  pub values : List (List ℕ)
  pub copies : Bool

-- the values that a loss may leave of the byte at an offset
abbrev pub values_at : FileState → ℕ → List ℕ
values_at file k = slice_index_or file.values k []

-- the newest of some values
abbrev pub newest : List ℕ → ℕ
newest [] = 0
newest (value ∷ values) = value

-- a loss of power leaves these bytes: of each byte one of its values, each byte by itself
pub record LeavesBytes (file : FileState) (left : List ℕ) : Type 0 where
  pub long : length left ≡ length file.values
  pub each : (k : ℕ) → k < length left → Contains (values_at file k) (slice_index left k)

-- These bytes are written from an offset on: each is in front of the values of its place, and no other byte is touched.
-- Once all bytes of the file are written, the next sync makes each durable.
pub record Writes (offset : ℕ) (bytes : List ℕ) (old new : FileState) : Type 0 where
  pub long : length new.values ≡ length old.values
  pub copies : old.copies ≡ false → new.copies ≡ false
  pub whole : length bytes ≡ length old.values → new.copies ≡ false
  pub inside : (k : ℕ) → k < length bytes →
      values_at new (offset + k) ≡ slice_index bytes k ∷ values_at old (offset + k)
  pub outside : (k : ℕ) → (k < offset) ⊎ (offset + length bytes ≤ k) → values_at new k ≡ values_at old k

-- any of them are
pub record MayWrite (offset : ℕ) (bytes : List ℕ) (old new : FileState) : Type 0 where
  pub long : length new.values ≡ length old.values
  pub copies : old.copies ≡ false → new.copies ≡ false
  pub inside : (k : ℕ) → k < length bytes →
      (values_at new (offset + k) ≡ slice_index bytes k ∷ values_at old (offset + k))
      ⊎ (values_at new (offset + k) ≡ values_at old (offset + k))
  pub outside : (k : ℕ) → (k < offset) ⊎ (offset + length bytes ≤ k) → values_at new k ≡ values_at old k

-- A loss leaves the newest value of each byte alone; but of some bytes, while copies are held, all that it left before.
pub record Syncs (old new : FileState) : Type 0 where
  pub long : length new.values ≡ length old.values
  pub copies : old.copies ≡ false → new.copies ≡ false
  pub newest : old.copies ≡ false → (k : ℕ) → values_at new k ≡ take 1 (values_at old k)
  pub each : (k : ℕ) → (values_at new k ≡ take 1 (values_at old k)) ⊎ (values_at new k ≡ values_at old k)

-- a write of these bytes, by what it answered: one that failed may have written any of them
abbrev pub WritesFile : ℕ → List ℕ → Result (Unit {0}) StoreError → FileState → FileState → Type 0
WritesFile offset bytes (Ok done) old new = Writes offset bytes old new
WritesFile offset bytes (Err failed) old new = MayWrite offset bytes old new

-- a sync: one that failed makes nothing durable, and copies may be held from now on
abbrev pub SyncsFile : Result (Unit {0}) StoreError → FileState → FileState → Type 0
SyncsFile (Ok done) old new = Syncs old new
SyncsFile (Err failed) old new = new.values ≡ old.values

-- how many calls of a store failed, after one more, by what that answered
abbrev pub faults_after : {T : Type 0} → Result T StoreError → ℕ → ℕ
faults_after (Ok value) faults = faults
faults_after (Err failed) faults = counted faults

-- these are all bytes that are read
pub record ReadsFile (bytes : List ℕ) (file : FileState) : Type 0 where
  pub left : LeavesBytes file bytes
  pub read : file.copies ≡ false → bytes ≡ map newest file.values

-- both tell what a loss may leave, and this holds of it, or neither tells
abbrev pub BothTell : (FileState → FileState → Type 0) → Option FileState → Option FileState → Type 0
BothTell P None None = Unit {0}
BothTell P (Some old) (Some new) = P old new
BothTell P None (Some new) = ⊥
BothTell P (Some old) None = ⊥
