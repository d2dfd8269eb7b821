-- What the pages of a put become.
use Rattle.std.specs.Prelude.{◌≡◌, ℕ, ◌≤◌, Bool, true, false, List, length, flat_map, None, Some, Result, Ok, Err}
use Rattle.std.specs.FinMap as keys
use Rattle.tx_types.specs.Batch.{PageWrite}
use Rattle.tx_types.specs.declared.config.Config.{Config}
use Rattle.page_keys.specs.Buckets.{entry_bytes}
use Rattle.page_keys.specs.KeyMaps.{KeyMap, apply, part}
use Rattle.page_keys.specs.Puts.{is_over, full, put_writes}
use Rattle.page_keys.specs.declared.changes.Change.{Change}
use Rattle.page_keys.specs.declared.answers.PutError.{PutError}
use Rattle.page_keys.specs.declared.answers.PutError.TheVariants as refused

abbrev pub is_put_fault : PutError → Bool
is_put_fault refused.Fault = true
is_put_fault _ = false

abbrev pub is_failed : {X : Type 0} → Result X PutError → Bool
is_failed (Ok x) = false
is_failed (Err e) = is_put_fault e

-- the bytes of the entries that a page has after changes, which fit
pub record HasNewBytes (its : Config) (m : KeyMap) (cs : List Change) (page : ℕ)
    (bytes : List ℕ) : Type 0 where
  pub bytes_are : bytes ≡ flat_map entry_bytes (keys.entries (part its.logical page (apply m cs)))
  pub within : length bytes ≤ its.page_bytes
  pub fits : is_over its (apply m cs) page ≡ false

-- they do not fit, or memory ran out, or a read failed
abbrev pub IsTooMuch : Config → KeyMap → List Change → ℕ → PutError → Type 0
IsTooMuch its m cs page (refused.Bucket full_page) =
    (full_page ≡ page) × (is_over its (apply m cs) page ≡ true)
IsTooMuch its m cs page refused.Fault = Unit {0}
IsTooMuch its m cs page refused.Memory = Unit {0}
IsTooMuch its m cs page _ = ⊥

-- what a put writes, each page of which fits
pub record HasWrites (its : Config) (m : KeyMap) (cs : List Change) (writes : List PageWrite) :
    Type 0 where
  pub writes_are : writes ≡ put_writes its m cs
  pub fits : full its m cs ≡ None

-- a page does not fit, or memory ran out, or a read failed
abbrev pub IsFull : Config → KeyMap → List Change → PutError → Type 0
IsFull its m cs (refused.Bucket page) = full its m cs ≡ Some (refused.Bucket page)
IsFull its m cs refused.Fault = Unit {0}
IsFull its m cs refused.Memory = Unit {0}
IsFull its m cs _ = ⊥
