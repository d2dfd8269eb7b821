use Rattle.flash_picture.proofs.Common.{◌≡◌, ◌++◌}
use Rattle.std.proofs.Common.{replicate}
use Rattle.flash_picture.proofs.text.add_spaces.Given as goal

abbrev pub invariant-loop-space : goal.invariant-loop-space
invariant-loop-space l = l.text.items ≡ l.initial.text.items ++ replicate l._space 32
