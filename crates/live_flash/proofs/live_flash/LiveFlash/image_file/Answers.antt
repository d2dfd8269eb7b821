use Rattle.live_flash.proofs.Common.{Ok, sym, ap, ◌∙◌}
use Rattle.live_flash.proofs.live_flash.LiveFlash.image_file.Goals as goal

pub write_image-requires : goal.write_image-requires
write_image-requires g c = c.self.invariant.checks ∙ ap (λ s. Ok s) (sym c.self.invariant.shape)

pub returns : goal.returns
returns g c = rw (← c.self.view_is) c.write_image.ensures
