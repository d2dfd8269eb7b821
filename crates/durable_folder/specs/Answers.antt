-- What a save makes of the answers of the system.
use Rattle.std.specs.Prelude.{◌≢◌, Bool, true, false, if◌then◌else◌, Result, Ok, Err}
use Rattle.std.specs.IoError.{error_kind}
use Rattle.std.specs.declared.io.Error.{Error}
use Rattle.std.specs.declared.io.ErrorKind.TheVariants as kind
use Rattle.durable_folder.specs.declared.answers.Replaced.{Replaced}
use Rattle.durable_folder.specs.declared.answers.Replaced.TheVariants as replaced
use Rattle.durable_folder.specs.Counting.{is_refusal, is_unable}

-- by the kind of an error, whether a new file is refused there
abbrev pub refusal_of : Error → Result Replaced Error
refusal_of error = if is_refusal (error_kind error) then Ok replaced.Refused else Err error

-- what can't be synced is taken for synced
abbrev pub unless_unable : Bool → Error → Result (Unit {0}) Error
unless_unable true error = Ok tt
unless_unable false error = Err error

abbrev pub sync_answer : Result (Unit {0}) Error → Result (Unit {0}) Error
sync_answer (Ok done) = Ok done
sync_answer (Err error) = unless_unable (is_unable (error_kind error)) error

-- an answer that comes when the file may have changed, in place of this one: an error stays one, and is no want of
-- memory
abbrev pub IsLate : Result (Unit {0}) Error → Result (Unit {0}) Error → Type 0
IsLate (Ok done) (Ok answer) = Unit {0}
IsLate (Err error) (Err answer) = error_kind answer ≢ kind.OutOfMemory
IsLate _ _ = ⊥

-- the answer of syncing a folder, in place of that of the system
pub record IsNamesSyncAnswer (done result : Result (Unit {0}) Error) : Type 0 where
  pub is : IsLate (sync_answer done) result
