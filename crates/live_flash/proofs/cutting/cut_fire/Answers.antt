use Rattle.live_flash.proofs.Common.{sym, ap, subst, ◌∙◌}
use Rattle.flash_model.specs.Calls.{Operates}
use Rattle.flash_model.specs.Firing.{no_loads, loads_in}
use Rattle.flash_model.specs.Operations.{fire}
use Rattle.mem_flash.specs.MemFlashState.{MemFlashState, state_of}
use Rattle.file_flash.specs.FileFlashState.{untold, powerless}
use Rattle.file_flash.proofs.Breaking.{cut_operates, cut_fired}
use Rattle.live_flash.proofs.cutting.cut_fire.Goals as goal

pub returns-clause-fires : goal.returns-clause-fires
returns-clause-fires c =
    let s = c.args.memory.now in
    let m = c.fire.new.self in
    let lost = c.lose_power.ensures.lost s c.programs-programs.ensures c.erases-erases.ensures in
    subst (λ (x : MemFlashState). Operates (untold s) (untold x) (fire (loads_in c.args.memory.now.registers))
    c.lose_power.result) (sym lost)
    (subst (λ r. Operates (untold s) (untold (powerless s m)) (fire (loads_in c.args.memory.now.registers)) r)
    (sym c.lose_power.ensures.broken)
    (cut_operates s c.arm_cut.new.self m (fire (loads_in c.args.memory.now.registers)) c.fire.result
    c.arm_cut.ensures.exact
    (subst (λ (x : MemFlashState). Operates (state_of c.arm_cut.new.self) (state_of m) (fire (loads_in x.registers))
    c.fire.result)
    c.arm_cut.ensures.exact c.fire.ensures.fires) c.lose_power.ensures.later))

pub returns-clause-cut : goal.returns-clause-cut
returns-clause-cut c =
    let s = c.args.memory.now in
    let lost = c.lose_power.ensures.lost s c.programs-programs.ensures c.erases-erases.ensures in
    cut_fired s c.arm_cut.new.self c.fire.new.self c.lose_power.new.memory c.arm_cut.ensures.exact
    c.fire.ensures.next lost

pub returns-clause-registers : goal.returns-clause-registers
returns-clause-registers c =
    let s = c.args.memory.now in
    let lost = c.lose_power.ensures.lost s c.programs-programs.ensures c.erases-erases.ensures in
    ap (λ (x : MemFlashState). x.registers) lost ∙ c.fire.ensures.empty
    ∙ ap (λ (x : MemFlashState). no_loads x.shape) c.arm_cut.ensures.exact
