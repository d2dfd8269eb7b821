-- The numbers of the statuses.
use Rattle.std.specs.Prelude.{ℕ}
use Rattle.program_base.specs.declared.status.Status.{Status}
use Rattle.program_base.specs.declared.status.Status.TheVariants as status

-- the number that a program returns
abbrev pub code : Status → ℕ
code status.Done = 0
code status.BadWords = 1
code status.NoFile = 2
code status.BadImage = 3
code status.BadLine = 4
code status.DeskFault = 5
code status.NoMemory = 6
code status.Unsound = 7
code status.BadConfiguration = 8
code status.TooLong = 9
code status.BadBucket = 11
code status.WrongLine = 12
code status.Differ = 13
code status.RefusedBlock = 14
