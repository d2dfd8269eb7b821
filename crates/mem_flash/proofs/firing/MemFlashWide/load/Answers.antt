use Rattle.mem_flash.proofs.Common.{List, map, set, Option, ap, ap₂, ◌∙◌, length-map, length-set, Shape, Load, load_in}
use Rattle.std.proofs.lemmas.List.{map-set}
use Rattle.flash_model.specs.Operations.{die_of}
use Rattle.mem_flash.specs.MemFlash.{memory_of}
use Rattle.mem_flash.proofs.firing.MemFlashWide.load.Goals as goal

pub returns : goal.returns
returns c =
    let all = c.self.inside.registers.items in
    let die = c.die_of-die.ensures.die ∙ ap (λ (s : Shape). die_of s c.args.at.0) c.shape.ensures.shape in
    rw (← c.self.view_is)
    (record {
      exact =
          ap (λ (registers : List (Option Load)). record (memory_of c.self.inside) { registers = registers })
          (map-set load_in all c.die_of-die.result c.put.new.register
          ∙ ap₂ (λ k load. set (map load_in all) k load) die c.put.ensures.loaded);
      whole =
          length-map (set all c.die_of-die.result c.put.new.register) load_in
          ∙ length-set all c.die_of-die.result c.put.new.register ∙ c.self.invariant.registers.dies;
    })
