-- A desk in memory that fails keeps the first half of the bytes, which is a first part of them.
use Rattle.std.proofs.Common.{◌≡◌, Bool, true, false, ◌/◌, List, ℕ, length, Some, Result, Ok, Err, refl, if◌then◌else◌}
use Rattle.desk_io.specs.declared.desk.SinkError.{SinkError}
use Rattle.desk_io.specs.declared.desk.SinkError.TheVariants.{Failed}
use Rattle.desk_io.specs.Desk.{Saves, Says, with_file, with_said}
use Rattle.desk_io.specs.InMemory.{MemDeskState, open_desk, after_call, first_half, kept_of}

-- the answer of a save or a say that keeps something
abbrev pub answer_of : Bool → Result (Unit {0}) SinkError
answer_of fails = if fails then Err Failed else Ok tt

pub says_kept : (old new : MemDeskState) (bytes : List ℕ) (fails : Bool) (result : Result (Unit {0}) SinkError) →
    new ≡ after_call (with_said (kept_of bytes fails)) fails old → result ≡ answer_of fails →
    Says (open_desk old) (open_desk new) bytes result
says_kept old new bytes true result state answer = rw (state, answer) (length bytes / 2, refl)
says_kept old new bytes false result state answer = rw (state, answer) refl

pub saves_kept : (old new : MemDeskState) (name bytes : List ℕ) (fails : Bool) (result : Result (Unit {0}) SinkError) →
    new ≡ after_call (with_file name (Some (kept_of bytes fails))) fails old → result ≡ answer_of fails →
    Saves (open_desk old) (open_desk new) name bytes result
saves_kept old new name bytes true result state answer = rw (state, answer) (Some (first_half bytes), refl)
saves_kept old new name bytes false result state answer = rw (state, answer) refl
