use Rattle.live_flash.proofs.Common.{map, Some, refl, sym, ap, ◌∙◌}
use Rattle.std.proofs.Common.{set}
use Rattle.std.proofs.lemmas.List.{length-set, map-set}
use Rattle.flash_model.specs.Operations.{Load, die_of}
use Rattle.mem_flash.specs.MemFlashState.{MemFlashState}
use Rattle.tx_types.specs.declared.config.Shape.{Shape}
use Rattle.file_flash.specs.FileFlashState.{slot_loaded}
use Rattle.live_flash.proofs.Kept.{loads_same}
use Rattle.live_flash.proofs.live_flash.LiveFlashWide.load.Goals as goal

pub invariant_of-self : goal.invariant_of-self
invariant_of-self g c =
    let f = c.self.inside in
    let exact = c.load.ensures.exact in
    let load : Load = record { at = c.args.at.0; bytes = c.args.bytes.now; spare_area = c.args.spare_area.now } in
    let die = c.die_of-die.ensures.die ∙ ap (λ (x : Shape). die_of x c.args.at.0) c.shape.ensures.shape in
    loads_same g.S.Store.told g.S.Store.faults f _ c.self.invariant refl (ap (λ (x : MemFlashState). x.shape) exact)
    (ap (λ (x : MemFlashState). x.extras) exact)
    (ap (λ xs. set xs c.die_of-die.result (Some c.args.at)) c.self.invariant.loaded
    ∙ ap (λ i. set (map slot_loaded f.memory.registers) i (Some c.args.at)) die
    ∙ sym (ap (λ (x : MemFlashState). map slot_loaded x.registers) exact
    ∙ map-set slot_loaded f.memory.registers (die_of f.memory.shape c.args.at.0) (Some load)))
    (length-set f.loaded.items c.die_of-die.result (Some c.args.at) ∙ c.self.invariant.dies
    ∙ ap (λ (x : MemFlashState). x.shape.dies) (sym exact)) refl
    (ap (λ (x : MemFlashState). x.image) exact) refl refl refl
