use Rattle.mem_flash.proofs.Common.{◌≡◌, ◌<◌, sym, ap, subst}
use Rattle.std.proofs.Common.{◌/◌}
use Rattle.flash_model.specs.Operations.{die_of}
use Rattle.flash_model.proofs.FireLemmas.{die_within}
use Rattle.mem_flash.proofs.registers.die_of.Goals as goal

pub returns-clause-die : goal.returns-clause-die
returns-clause-die c = ap (λ block. block / c.args.shape.blocks_per_die) c.block_of.ensures

pub returns-clause-within : goal.returns-clause-within
returns-clause-within c =
    let is : c.block_of.result.0 / c.args.shape.blocks_per_die ≡ die_of c.args.shape c.args.at.0 =
    ap (λ block. block / c.args.shape.blocks_per_die) c.block_of.ensures in
    subst (λ die. die < c.args.shape.dies) (sym is)
    (die_within c.args.shape c.args.at.0 c.requires.shape c.requires.exists)
