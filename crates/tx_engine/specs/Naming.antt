-- The names that a transaction is opened with.
use Rattle.std.specs.Prelude.{◌≡◌, ℕ, nat_le, Bool, false, List, [], ◌∷◌, ◌++◌, map, slice_index, slice_set, Result, Ok, Err}
use Rattle.tx_types.specs.Batch.{PageWrite}
use Rattle.tx_types.specs.Limits.{max_version}
use Rattle.tx_types.specs.declared.record.Link.{Link}
use Rattle.judged_records.specs.IndexState.{IndexState}
use Rattle.open_table.specs.OpenTransactionsState.{next_name, Naming}
use Rattle.tx_engine.specs.DeviceState.{DeviceState}
use Rattle.array_machine.specs.declared.answers.SubmitError.{SubmitError}

-- the page has no version left
abbrev pub is_spent : List ℕ → ℕ → Bool
is_spent mentions page = nat_le max_version (slice_index mentions page)

-- the pins with each of these pages pinned at its version, in place of an older one
abbrev pub with_pins : List ℕ → List Link → List ℕ
with_pins pins [] = pins
with_pins pins (name ∷ names) = with_pins (slice_set pins name.page name.version) names

-- the names of the open transactions after a batch, which is named where it was opened
abbrev pub named_after : IndexState → List PageWrite → Result (Unit {0}) SubmitError → List Naming →
    List Naming
named_after n writes (Ok u) namings =
    namings ++ record { names = map (next_name n) writes; noted_count = 0 } ∷ []
named_after n writes (Err e) namings = namings

-- Only the array machine, the names and the pins may have changed. The device is not dropped.
pub record KeepsTables {F : Type 0} (old new : DeviceState F) : Type 0 where
  pub flash : new.flash ≡ old.flash
  pub config : new.config ≡ old.config
  pub table : new.table ≡ old.table
  pub unsure : new.unsure ≡ old.unsure
  pub noted : new.noted ≡ record old.noted { pins = new.noted.pins }
  pub kept : new.dropped ≡ false
