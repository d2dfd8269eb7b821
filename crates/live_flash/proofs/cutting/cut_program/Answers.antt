use Rattle.live_flash.proofs.Common.{sym, subst}
use Rattle.flash_model.specs.Calls.{Operates}
use Rattle.flash_model.specs.Operations.{program}
use Rattle.mem_flash.specs.MemFlashState.{MemFlashState}
use Rattle.file_flash.specs.FileFlashState.{untold, powerless}
use Rattle.file_flash.proofs.Breaking.{cut_operates, cut_operated}
use Rattle.live_flash.proofs.cutting.cut_program.Goals as goal

pub returns-clause-programs : goal.returns-clause-programs
returns-clause-programs c =
    let s = c.args.memory.now in
    let m = c.program.new.self in
    let lost = c.lose_power.ensures.lost s c.programs-programs.ensures c.erases-erases.ensures in
    subst (λ (x : MemFlashState). Operates (untold s) (untold x)
    (program c.args.at.0 c.args.bytes.now c.args.spare_area.now) c.lose_power.result) (sym lost)
    (subst (λ r. Operates (untold s) (untold (powerless s m))
    (program c.args.at.0 c.args.bytes.now c.args.spare_area.now) r) (sym c.lose_power.ensures.broken)
    (cut_operates s c.arm_cut.new.self m (program c.args.at.0 c.args.bytes.now c.args.spare_area.now) c.program.result
    c.arm_cut.ensures.exact c.program.ensures.programs c.lose_power.ensures.later))

pub returns-clause-cut : goal.returns-clause-cut
returns-clause-cut c =
    let s = c.args.memory.now in
    let lost = c.lose_power.ensures.lost s c.programs-programs.ensures c.erases-erases.ensures in
    (cut_operated s c.arm_cut.new.self c.program.new.self c.lose_power.new.memory
    (program c.args.at.0 c.args.bytes.now c.args.spare_area.now) c.arm_cut.ensures.exact
    c.program.ensures.next lost).0

pub returns-clause-registers : goal.returns-clause-registers
returns-clause-registers c =
    let s = c.args.memory.now in
    let lost = c.lose_power.ensures.lost s c.programs-programs.ensures c.erases-erases.ensures in
    (cut_operated s c.arm_cut.new.self c.program.new.self c.lose_power.new.memory
    (program c.args.at.0 c.args.bytes.now c.args.spare_area.now) c.arm_cut.ensures.exact
    c.program.ensures.next lost).1
