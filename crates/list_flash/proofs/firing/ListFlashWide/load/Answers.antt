use Rattle.std.proofs.Common.{List, map, set, Option, ap, ap₂, ◌∙◌}
use Rattle.std.proofs.lemmas.List.{map-set}
use Rattle.flash_model.specs.Operations.{Load}
use Rattle.list_flash.specs.ListFlash.{list_flash_of}
use Rattle.list_flash.specs.Registers.{load_in}
use Rattle.list_flash.proofs.firing.ListFlashWide.load.Goals as goal

pub returns-clause-exact : goal.returns-clause-exact
returns-clause-exact c =
    let all = c.self.inside.registers.items in
    rw (← c.self.view_is)
    (ap (λ (registers : List (Option Load)). record (list_flash_of c.self.inside) { registers = registers })
    (map-set load_in all c.die_of-die.result c.put.new.register
    ∙ ap₂ (λ k load. set (map load_in all) k load) c.die_of-die.ensures.die c.put.ensures.loaded))
