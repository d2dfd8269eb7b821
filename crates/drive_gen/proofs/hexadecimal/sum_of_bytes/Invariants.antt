use Rattle.drive_gen.proofs.Common.{◌≡◌, ◌+◌, length, sum_of_bytes}
use Rattle.drive_gen.proofs.hexadecimal.sum_of_bytes.Given as goal

abbrev pub invariant-loop-rest : goal.invariant-loop-rest
invariant-loop-rest l = l.sum + sum_of_bytes l.rest ≡ sum_of_bytes l.digits

abbrev pub decreases-loop-rest : goal.decreases-loop-rest
decreases-loop-rest l = length l.rest
