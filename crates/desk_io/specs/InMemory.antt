-- A desk in memory, and which of its calls fail.
use Rattle.std.specs.Prelude.{◌≡◌, ℕ, ◌/◌, ◌==◌, Bool, true, false, List, [], length, take, Some, Result, Ok, Err, Vec, if◌then◌else◌, refl}
use Rattle.std.specs.Global.{Global}
use Rattle.std.specs.Coded.{Coded, code_by, coded×, coded_list, coded_ℕ}
use Rattle.std.specs.FinMap as map
use Rattle.std.specs.List.{list_any}
use Rattle.desk_io.specs.declared.desk.LoadError.{LoadError}
use Rattle.desk_io.specs.declared.desk.LoadError.TheVariants as load
use Rattle.desk_io.specs.declared.desk.SinkError.{SinkError}
use Rattle.desk_io.specs.declared.desk.SinkError.TheVariants as sink
use Rattle.desk_io.specs.Desk.{Files, DeskContents, DeskState, counted, called, once_asked, as_before, with_file, with_said}

-- A desk in memory: its contents, the numbers of the calls that are to fail, from 1, and how many failed.
pub record MemDeskState : Type 0 where
  pub contents : DeskContents
  pub fails : List ℕ
  pub faults : ℕ

-- it is stored as the tuple of its fields
abbrev pub memory_desk_code : Coded MemDeskState
memory_desk_code =
    code_by (Files × (List ℕ × (ℕ × (ℕ × (List ℕ × ℕ)))))
    (coded× (map.code (coded_list coded_ℕ) (coded_list coded_ℕ))
    (coded× (coded_list coded_ℕ)
    (coded× coded_ℕ (coded× coded_ℕ (coded× (coded_list coded_ℕ) coded_ℕ)))))
    (λ d. (
      d.contents.files,
      (d.contents.said, (d.contents.asked, (d.contents.calls, (d.fails, d.faults)))),
    ))
    (λ p. record {
      contents = record { files = p.0; said = p.1.0; asked = p.1.1.0; calls = p.1.1.1.0 };
      fails = p.1.1.1.1.0;
      faults = p.1.1.1.1.1;
    })
    (λ _. refl)

-- no files, nothing said, and no call made
abbrev pub empty_desk : List ℕ → MemDeskState
empty_desk fails =
    record {
      contents =
          record { files = map.empty; said = []; asked = 0; calls = 0 };
      fails = fails;
      faults = 0;
    }

-- with these bytes in the file of this name
abbrev pub after_put : List ℕ → List ℕ → MemDeskState → MemDeskState
after_put name bytes d = record d { contents = with_file name (Some bytes) d.contents }

-- it tells all
abbrev pub open_desk : MemDeskState → DeskState
open_desk d = record { told = Some d.contents; faults = d.faults }

-- the next call is to fail
abbrev pub fails_next : MemDeskState → Bool
fails_next d = list_any (λ n. n == counted d.contents.calls) d.fails

-- a call more, which changed the contents so, and failed or not
abbrev pub after_call : (DeskContents → DeskContents) → Bool → MemDeskState → MemDeskState
after_call change fails d =
    record d {
      contents =
          called change d.contents;
      faults = if fails then counted d.faults else d.faults;
    }

-- a call ran out of memory: it was asked for, and nothing else has changed
abbrev pub after_starving : MemDeskState → MemDeskState
after_starving d = record d { contents = once_asked d.contents }

-- a load fails exactly where it is to fail, and counts as a call, unless it runs out of memory
abbrev pub LoadsInMemory : MemDeskState → MemDeskState → Result (Vec ℕ Global) LoadError → Type 0
LoadsInMemory old new (Err load.Failed) =
    (fails_next old ≡ true) × (new ≡ after_call as_before true old)
LoadsInMemory old new (Err load.Memory) = (fails_next old ≡ false) × (new ≡ after_starving old)
LoadsInMemory old new _ = (fails_next old ≡ false) × (new ≡ after_call as_before false old)

-- the first half of the bytes, rounded down
abbrev pub first_half : List ℕ → List ℕ
first_half bytes = take (length bytes / 2) bytes

-- the bytes that are kept by a call that fails or does not
abbrev pub kept_of : List ℕ → Bool → List ℕ
kept_of bytes fails = if fails then first_half bytes else bytes

-- A save or a say does this with the bytes that are kept: all of them, or the first half where it is to fail. Where
-- memory runs out nothing changes, the number of calls included, but how many were asked for.
abbrev pub KeepsInMemory : (List ℕ → DeskContents → DeskContents) → MemDeskState → MemDeskState →
    List ℕ →
    Result (Unit {0}) SinkError → Type 0
KeepsInMemory with_kept old new bytes (Ok _) =
    (fails_next old ≡ false) × (new ≡ after_call (with_kept bytes) false old)
KeepsInMemory with_kept old new bytes (Err sink.Failed) =
    (fails_next old ≡ true) × (new ≡ after_call (with_kept (first_half bytes)) true old)
KeepsInMemory with_kept old new bytes (Err sink.Memory) = new ≡ after_starving old

abbrev pub SavesInMemory : MemDeskState → MemDeskState → List ℕ → List ℕ → Result (Unit {0}) SinkError →
    Type 0
SavesInMemory old new name bytes result =
    KeepsInMemory (λ kept. with_file name (Some kept)) old new bytes result

abbrev pub SaysInMemory : MemDeskState → MemDeskState → List ℕ → Result (Unit {0}) SinkError → Type 0
SaysInMemory old new bytes result = KeepsInMemory with_said old new bytes result
