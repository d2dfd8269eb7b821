use Rattle.live_flash.proofs.Common.{sym, subst}
use Rattle.flash_model.specs.Calls.{Operates}
use Rattle.flash_model.specs.Operations.{erase}
use Rattle.mem_flash.specs.MemFlashState.{MemFlashState}
use Rattle.file_flash.specs.FileFlashState.{untold, powerless}
use Rattle.file_flash.proofs.Breaking.{cut_operates, cut_operated}
use Rattle.live_flash.proofs.cutting.cut_erase.Goals as goal

pub returns-clause-erases : goal.returns-clause-erases
returns-clause-erases c =
    let s = c.args.memory.now in
    let m = c.erase.new.self in
    let lost = c.lose_power.ensures.lost s c.programs-programs.ensures c.erases-erases.ensures in
    subst (λ (x : MemFlashState). Operates (untold s) (untold x) (erase c.args.block.0) c.lose_power.result) (sym lost)
    (subst (λ r. Operates (untold s) (untold (powerless s m)) (erase c.args.block.0) r)
    (sym c.lose_power.ensures.broken)
    (cut_operates s c.arm_cut.new.self m (erase c.args.block.0) c.erase.result c.arm_cut.ensures.exact
    c.erase.ensures.erases c.lose_power.ensures.later))

pub returns-clause-cut : goal.returns-clause-cut
returns-clause-cut c =
    let s = c.args.memory.now in
    let lost = c.lose_power.ensures.lost s c.programs-programs.ensures c.erases-erases.ensures in
    (cut_operated s c.arm_cut.new.self c.erase.new.self c.lose_power.new.memory (erase c.args.block.0)
    c.arm_cut.ensures.exact c.erase.ensures.next lost).0

pub returns-clause-registers : goal.returns-clause-registers
returns-clause-registers c =
    let s = c.args.memory.now in
    let lost = c.lose_power.ensures.lost s c.programs-programs.ensures c.erases-erases.ensures in
    (cut_operated s c.arm_cut.new.self c.erase.new.self c.lose_power.new.memory (erase c.args.block.0)
    c.arm_cut.ensures.exact c.erase.ensures.next lost).1
