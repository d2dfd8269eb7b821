-- What a write of the state byte or of the own bytes of a slot, and a sync, leave as it was.
use Rattle.file_flash.proofs.Common.{◌≡◌, ℕ, List, [], get_or, Result, Ok, Err, ap, inl, StoreError, FileState, values_at, MayWrite, WritesFile}

-- a write that is done may be done
pub may_write : (offset : ℕ) (bytes : List ℕ) (r : Result (Unit {0}) StoreError) (old new : FileState) →
    WritesFile offset bytes r old new → MayWrite offset bytes old new
may_write offset bytes (Err e) old new w = w
may_write offset bytes (Ok u) old new w = record {
  long = w.long;
  copies = w.copies;
  inside = λ k within. inl (w.inside k within);
  outside = w.outside;
}

-- a sync that fails leaves the values of each byte
pub values_stay : (old new : FileState) → new.values ≡ old.values → (k : ℕ) → values_at new k ≡ values_at old k
values_stay old new same k = ap (λ values. get_or values k []) same
