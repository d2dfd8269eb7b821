use Rattle.std.proofs.Common.{◌≡◌, ℕ, List, ◌++◌}
use Rattle.std.specs.Io.KnownBytes.{Appends}
use Rattle.desk_io.proofs.real_folder.write_pieces.Given as goal

-- some first bytes are written, and the others are to come
abbrev pub invariant-loop-piece : goal.invariant-loop-piece
invariant-loop-piece g l =
    (done : List ℕ) × Appends (g.F.Write.contents l.initial.file) (g.F.Write.contents l.file) done
    × (done ++ l.piece-iterator.rest.now ≡ l.initial.bytes)
