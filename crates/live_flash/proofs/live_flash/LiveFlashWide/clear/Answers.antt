use Rattle.live_flash.proofs.Common.{◌≡◌, length, map, refl, sym, ap, ◌∙◌, arith}
use Rattle.std.proofs.Common.{replicate, None}
use Rattle.std.proofs.lemmas.List.{with_items_is, length-replicate}
use Rattle.mem_flash.specs.MemFlashState.{MemFlashState}
use Rattle.file_flash.specs.FileFlashState.{slot_loaded}
use Rattle.file_flash.proofs.Keeping.{none_loaded}
use Rattle.live_flash.proofs.Kept.{loads_same}
use Rattle.live_flash.proofs.live_flash.LiveFlashWide.clear.Goals as goal

pub invariant_of-self : goal.invariant_of-self
invariant_of-self g c =
    let f = c.self.inside in
    let exact = c.clear.ensures.exact in
    let items = with_items_is f.loaded c.clear_slots.new.slots (omega arith) in
    let many : length c.deref_mut.result.now ≡ f.memory.shape.dies = ap length c.deref_mut.ensures.value
    ∙ c.self.invariant.dies in
    let none = items ∙ c.clear_slots.ensures ∙ ap (λ n. replicate n None) many in
    loads_same g.S.Store.told g.S.Store.faults f _ c.self.invariant refl (ap (λ (x : MemFlashState). x.shape) exact)
    (ap (λ (x : MemFlashState). x.extras) exact)
    (none ∙ sym (ap (λ (x : MemFlashState). map slot_loaded x.registers) exact ∙ none_loaded f.memory.shape.dies))
    (ap length none ∙ length-replicate f.memory.shape.dies None
    ∙ ap (λ (x : MemFlashState). x.shape.dies) (sym exact)) refl
    (ap (λ (x : MemFlashState). x.image) exact) refl refl refl
