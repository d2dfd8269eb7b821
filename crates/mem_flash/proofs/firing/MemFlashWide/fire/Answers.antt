mod Fires
use Rattle.mem_flash.proofs.Common.{◌≡◌, length, replicate, map, None, sym, ap, ◌∙◌, length-map, load_in, loads_of}
use Rattle.mem_flash.proofs.firing.MemFlashWide.fire.Answers.Fires.{is_busy, operates_started}
use Rattle.mem_flash.proofs.Loaded.{none_in}
use Rattle.mem_flash.specs.Breaking.{is_idle}
use Rattle.std.proofs.Common.{false}
use Rattle.mem_flash.proofs.firing.MemFlashWide.fire.Goals as goal

pub returns-then-count-eq0-clause-empty : goal.returns-then-count-eq0-clause-empty
returns-then-count-eq0-clause-empty c =
    let all = c.self.inside.registers.items in
    let none : length (loads_of all) ≡ 0 =
    ap (λ xs. length (loads_of xs)) (sym c.deref.ensures.value) ∙ sym c.count_loaded-count.ensures ∙ c.if-count-eq0.true
    in
    rw (← c.self.view_is)
    (none_in (map load_in all) none ∙ ap (λ n. replicate n None) (length-map all load_in
    ∙ c.self.invariant.registers.dies))

pub returns-clause-fires : goal.returns-clause-fires
returns-clause-fires c =
    let all = c.self.inside.registers.items in
    let count = c.count_loaded-count.ensures ∙ ap (λ xs. length (loads_of xs)) c.deref.ensures.value in
    let busy : is_idle c.args.self.now ≡ false =
    rw (← c.self.view_is) (is_busy c.self.inside.live c.count_loaded-count.result (length (loads_of all)) count
    c.else-self.either)
    in
    rw (c.start_loaded.ensures.next, c.start_loaded.ensures.answer)
    (operates_started c.args.self.now busy c.start_loaded.ensures.arms)
