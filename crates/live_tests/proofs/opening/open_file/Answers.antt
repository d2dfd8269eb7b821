use Rattle.std.proofs.Common.{ap, ◌∙◌, Ok}
use Rattle.mem_flash.specs.MemFlashState.{MemFlashState}
use Rattle.live_tests.proofs.opening.open_file.Goals as goal

pub turn-requires-clause-checks : goal.turn-requires-clause-checks
turn-requires-clause-checks c =
    c.in-Ok.ensures.check ∙ ap (λ (x : MemFlashState). Ok x.shape) c.in-Ok.ensures.flash
