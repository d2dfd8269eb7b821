use Rattle.mem_flash.proofs.Common.{arith}
use Rattle.flash_model.proofs.ImageLemmas.{block_within}
use Rattle.mem_flash.proofs.slots.Slots.erase.Goals as goal

pub fill-requires-clause-exist : goal.fill-requires-clause-exist
fill-requires-clause-exist c =
    let within = block_within c.self.inside.shape c.args.block.0 (rw (← c.self.view_is) at c.requires) in
    rw (← c.self.view_is) (omega (arith, within))

pub fill-requires-in-Bad-clause-exist : goal.fill-requires-in-Bad-clause-exist
fill-requires-in-Bad-clause-exist c =
    rw (← c.self.view_is) (block_within c.self.inside.shape c.args.block.0 (rw (← c.self.view_is) at c.requires))
