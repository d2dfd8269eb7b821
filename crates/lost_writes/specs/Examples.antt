-- Images of a few slots, of which a loss leaves some.
use Rattle.std.specs.Prelude.{◌≡◌, ℕ, Bool, true, false, Option, None, Some, List, [], ◌∷◌}
use Rattle.tx_types.specs.declared.config.Protocol.{Protocol}
use Rattle.tx_types.specs.declared.config.Protocol.TheVariants.{Scc, Bpcc}
use Rattle.tx_types.specs.declared.record.Rec.{Rec}
use Rattle.flash_model.specs.Flash.{Contents, blank, complete}
use Rattle.page_record.specs.Spelling.{spelling}
use Rattle.judged_records.specs.Examples.{config, name, rec}
use Rattle.judged_records.specs.Images.{array_in}
use Rattle.tx_types.specs.Config.{shape_of}
use Rattle.array_machine.specs.ArrayState.{ArrayState, Entry, new_entry}
use Rattle.host_protocol.specs.declared.command.Command.TheVariants as command
use Rattle.lost_writes.specs.Fired.{Fired}
use Rattle.lost_writes.specs.AfterLoss.{IsProgramming}

-- a slot with a page of one byte and its record, and a slot that is left or lost
abbrev pub slot : Protocol → ℕ → Rec → Contents
slot protocol byte r = complete (byte ∷ []) (spelling protocol r)

abbrev pub left_if : Bool → Contents → Contents
left_if true contents = contents
left_if false contents = blank

-- an array of two pages
abbrev pub pages : ℕ → ℕ → List (Option (List ℕ))
pages a b = Some (a ∷ []) ∷ Some (b ∷ []) ∷ []

-- two pages, and a transaction of both, of which each record may be lost
abbrev pub two : Bool → Bool → List Contents
two first second =
    slot Scc 1 (rec 0 1 0 1 0) ∷ slot Scc 2 (rec 1 1 1 1 0)
    ∷ left_if first (slot Scc 3 (rec 0 2 1 2 0)) ∷ left_if second (slot Scc 4 (rec 1 2 0 2 0)) ∷ []

abbrev pub TwoWait : Type 0
TwoWait =
    (array_in Scc 2 (two false false) ≡ pages 1 2) × (array_in Scc 2 (two true false) ≡ pages 1 2)
    × (array_in Scc 2 (two false true) ≡ pages 1 2) × (array_in Scc 2 (two true true) ≡ pages 3 4)

-- the same under Back Pointer Cyclic Commit, where a record of page 0 was aborted before
abbrev pub two_after : Bool → Bool → List Contents
two_after first second =
    slot Bpcc 1 (rec 0 1 0 1 0) ∷ slot Bpcc 2 (rec 1 1 1 1 0) ∷ slot Bpcc 9 (rec 0 2 1 2 1)
    ∷ left_if first (slot Bpcc 3 (rec 0 3 1 3 1)) ∷ left_if second (slot Bpcc 4 (rec 1 3 0 3 1)) ∷ []

abbrev pub AbortedBetween : Type 0
AbortedBetween =
    (array_in Bpcc 2 (two_after false false) ≡ pages 1 2) × (array_in Bpcc 2 (two_after true false) ≡ pages 1 2)
    × (array_in Bpcc 2 (two_after false true) ≡ pages 1 2) × (array_in Bpcc 2 (two_after true true) ≡ pages 3 4)

-- two transactions of two pages, of which the last records were started together
abbrev pub four : Bool → Bool → List Contents
four first second =
    slot Scc 1 (rec 0 1 0 1 0) ∷ slot Scc 2 (rec 1 1 1 1 0) ∷ slot Scc 3 (rec 2 1 2 1 0)
    ∷ slot Scc 4 (rec 3 1 3 1 0) ∷ slot Scc 5 (rec 0 2 1 2 0) ∷ slot Scc 7 (rec 2 2 3 2 0)
    ∷ left_if first (slot Scc 6 (rec 1 2 0 2 0)) ∷ left_if second (slot Scc 8 (rec 3 2 2 2 0)) ∷ []

abbrev pub four_pages : ℕ → ℕ → ℕ → ℕ → List (Option (List ℕ))
four_pages a b c d = Some (a ∷ []) ∷ Some (b ∷ []) ∷ pages c d

abbrev pub TwoTogether : Type 0
TwoTogether =
    (array_in Scc 4 (four false false) ≡ four_pages 1 2 3 4) × (array_in Scc 4 (four true false) ≡ four_pages 5 6 3 4)
    × (array_in Scc 4 (four false true) ≡ four_pages 1 2 7 8) × (array_in Scc 4 (four true true) ≡ four_pages 5 6 7 8)

-- a record and its copy, of which one may be lost, but not both
abbrev pub copied : Bool → Bool → List Contents
copied original copy = left_if original (slot Scc 1 (rec 0 1 0 1 0)) ∷ left_if copy (slot Scc 1 (rec 0 1 0 1 0)) ∷ []

abbrev pub CopyOrOriginal : Type 0
CopyOrOriginal =
    (array_in Scc 1 (copied true false) ≡ Some (1 ∷ []) ∷ [])
    × (array_in Scc 1 (copied false true) ≡ Some (1 ∷ []) ∷ [])
    × (array_in Scc 1 (copied false false) ≡ None ∷ [])

-- A transaction of one page on a blank flash: its record was started by a `finish`, and waits. Of the two slots the
-- first one has it.
abbrev pub blank_flash : List Contents
blank_flash = blank ∷ blank ∷ []

abbrev pub opened : Entry
opened = new_entry 1 (record { page = 0; value = Some (7 ∷ []) } ∷ [])

abbrev pub started : Fired
started = record {
  entry = opened;
  names = name 0 1 ∷ [];
  at = 0;
  bytes = 7 ∷ [];
  rec = record (rec 0 1 0 1 0) { count = 1 };
}

abbrev pub one_open : ArrayState
one_open = record { pages = None ∷ None ∷ []; entries = opened ∷ [] }

abbrev pub FirstIsProgramming : Type 0
FirstIsProgramming =
    IsProgramming Scc 2 (shape_of (config Scc)) (command.Finish 1) one_open blank_flash [] blank_flash (started ∷ [])
