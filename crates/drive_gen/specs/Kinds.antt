-- What becomes of a transaction.
use Rattle.std.specs.Prelude.{ℕ, ◌==◌, nat_le, if◌then◌else◌}
use Rattle.drive_gen.specs.declared.kind.Kind.{Kind}
use Rattle.drive_gen.specs.declared.kind.Kind.TheVariants as kind

-- the kind of a number below 50: one in fifty follows a cut, five are aborted
abbrev pub kind_of : ℕ → Kind
kind_of n = if n == 0 then kind.Cut else if nat_le n 5 then kind.Abort else kind.Finish
