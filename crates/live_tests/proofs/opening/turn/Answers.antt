use Rattle.std.proofs.Common.{sym, ap, ◌∙◌, Ok}
use Rattle.mem_flash.specs.MemFlashState.{MemFlashState}
use Rattle.live_tests.proofs.opening.turn.Goals as goal

pub write_live-requires : goal.write_live-requires
write_live-requires c = c.requires.checks ∙ ap (λ (x : MemFlashState). Ok x.shape) (sym c.requires.memory)
