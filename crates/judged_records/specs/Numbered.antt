-- What is kept of records by numbers, and when it is what is derived from them by names.
use Rattle.std.specs.Prelude.{◌≡◌, ℕ, ◌<◌, if◌then◌else◌, List, slice_index_or, Option, Some, None}
use Rattle.std.specs.Option.{option_map}
use Rattle.tx_types.specs.declared.record.Link.{Link}
use Rattle.tx_types.specs.declared.record.Rec.{Rec}
use Rattle.record_list.specs.Records.{name_of}
use Rattle.judged_records.specs.Derived.{name_at}
use Rattle.judged_records.specs.DerivedChanges.{Derived}

-- the record of each number, of each page the number of its current record, and of each number the one that
-- answers for it and the page that it waits for
pub record Numbered : Type 0 where
  pub records : List (Option Rec)
  pub current : List (Option ℕ)
  pub answerers : List (Option ℕ)
  pub waits : List (Option ℕ)

-- the record of a number, if it has one
abbrev pub rec_at : List (Option Rec) → ℕ → Option Rec
rec_at records number = slice_index_or records number None

-- a number that a table has, if it has one
abbrev pub number_at : List (Option ℕ) → ℕ → Option ℕ
number_at numbers at = slice_index_or numbers at None

-- the name of the record of a number, where there is a number
abbrev pub named : List (Option Rec) → Option ℕ → Option (Option Link)
named records number = option_map (λ x. option_map name_of (rec_at records x)) number

-- the page that a record waits for, if it waits
abbrev pub awaited : Derived → Rec → Option ℕ
awaited j r = if j.waits r then Some r.next.page else None

-- what is kept by numbers is what is derived by names
pub record AreDerived (t : Numbered) (logical : ℕ) (j : Derived) : Type 0 where
  pub current :
      (page : ℕ) → page < logical →
      named t.records (number_at t.current page) ≡ option_map Some (name_at page (j.current page))
  pub answerers :
      (number : ℕ) (r : Rec) → rec_at t.records number ≡ Some r →
      named t.records (number_at t.answerers number) ≡ option_map Some (j.answerer r)
  pub waits :
      (number : ℕ) (r : Rec) → rec_at t.records number ≡ Some r →
      number_at t.waits number ≡ awaited j r
