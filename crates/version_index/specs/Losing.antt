-- Slots that are used otherwise, one after the other, and the records that are given up with their last slot.
use Rattle.std.specs.Prelude.{ℕ, zero, suc, ◌+◌, Option, Some, None, slice_set}
use Rattle.std.specs.List.{slice_get}
use Rattle.tx_types.specs.declared.record.Rec.{Rec}
use Rattle.slot_tables.specs.declared.slots.SlotUse.{SlotUse}
use Rattle.slot_tables.specs.TablesState.{TablesState, use_at, record_at, copies_of, number_in, given_up}

-- a record has no answerer and does not wait
abbrev pub freed : TablesState → ℕ → TablesState
freed k number = record k {
  answerers = slice_set k.answerers number None;
  waits = slice_set k.waits number None;
}

-- a record is given up where it has no slot
abbrev pub bared_as : TablesState → ℕ → Option Rec → Option ℕ → TablesState
bared_as k number None at = k
bared_as k number (Some r) (Some at) = k
bared_as k number (Some r) None = given_up (freed k number) r.page number

abbrev pub bared : TablesState → ℕ → TablesState
bared k number = bared_as k number (record_at k.records number) (slice_get (copies_of k.slots number) 0)

abbrev pub without : TablesState → Option ℕ → TablesState
without k None = k
without k (Some number) = bared k number

-- a slot is used so
abbrev pub used_so : TablesState → ℕ → SlotUse → TablesState
used_so k at to = without (record k { slots = slice_set k.slots at to }) (number_in (use_at k.slots at))

-- this many slots from the first one on are
unfoldable pub used_from : TablesState → ℕ → SlotUse → ℕ → TablesState
used_from k first to zero = k
used_from k first to (suc n) = used_so (used_from k first to n) (first + n) to
