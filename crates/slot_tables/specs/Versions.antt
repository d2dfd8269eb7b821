-- The records by their numbers, and those of a page in the order of their versions.
use Rattle.std.specs.Prelude.{◌≡◌, ℕ, ◌+◌, ◌<◌, ◌⊎◌, Option, None, List, [], length}
use Rattle.std.specs.List.{Contains}
use Rattle.dense_tables.specs.LinkedLists.{LinkedListsState, list_of, without}
use Rattle.tx_types.specs.declared.record.Rec.{Rec}
use Rattle.slot_tables.specs.TablesState.{record_at}

-- the record of each number, and of each page the numbers of its records
pub record RecordsState : Type 0 where
  pub records : List (Option Rec)
  pub pages : List (List ℕ)

-- a record has this page and this version
abbrev pub Names : ℕ → ℕ → Rec → Type 0
Names page version r = (r.page ≡ page) × (r.version ≡ version)

-- some number has no record
pub record HasFree (records : List (Option Rec)) : Type 0 where
  pub number : ℕ
  pub within : number < length records
  pub free : record_at records number ≡ None

-- a number was taken out of the list of a key, or it is the first unused one, where the list is empty
abbrev pub IsTaken : LinkedListsState → LinkedListsState → ℕ → ℕ → ℕ → ℕ → Type 0
IsTaken old new key unused rest number =
    (Contains (list_of old key) number × (new ≡ without old key number) × (rest ≡ unused))
    ⊎ ((list_of old key ≡ []) × (new ≡ old) × (number ≡ unused) × (rest ≡ unused + 1))
