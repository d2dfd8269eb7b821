-- How a desk in memory is kept.
use Rattle.std.specs.Prelude.{ℕ, List, map, string_bytes, Vec, String}
use Rattle.std.specs.Global.{Global}
use Rattle.std.specs.FinMap as files
use Rattle.desk_io.specs.InMemory.{MemDeskState}
use Rattle.desk_io.specs.declared.memory.MemDesk.TheInside.{Inside}

-- a file's name and its bytes
abbrev pub kept_file : String Global × Vec ℕ Global → List ℕ × List ℕ
kept_file e = (string_bytes e.0, e.1.items)

abbrev pub desk_of : Inside → MemDeskState
desk_of d = record {
  contents =
      record {
        files =
            files.from_entries (map kept_file d.files.entries);
        said = d.said.items;
        asked = d.asked;
        calls = d.calls;
      };
  fails = d.fails.items;
  faults = d.faults;
}
