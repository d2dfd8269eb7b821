use Rattle.desk_tasks.proofs.Common.{refl, Retiring, RefusesRetirement}
use Rattle.desk_tasks.specs.Ending.{Retired}
use Rattle.desk_tasks.proofs.Retirements.{retiring_done, retiring_refused}
use Rattle.desk_tasks.proofs.Works.{stopped, unread_image}
use Rattle.desk_tasks.proofs.retiring.retire_from_bytes.Goals as goal

pub returns-in_err-config : goal.returns-in_err-config
returns-in_err-config c =
    unread_image c.args.bytes.items _ c.from_residual.result c.in_err-config.field-0.0 c.from_residual.ensures.1
    c.in_err-config.ensures.err

pub returns-in_err-left : goal.returns-in_err-left
returns-in_err-left c =
    let its = c.in_ok-config.config in
    let flash = c.in_ok-config.flash in
    stopped (RefusesRetirement its flash.image flash.extras c.args.block.0)
    (Retiring c.args.name.now c.args.bytes.items c.args.block.0)
    c.from_residual-in_err-left.result c.in_err-left.field-0.0 c.from_residual-in_err-left.ensures.1
    (retiring_refused c.args.name.now c.args.bytes.items c.args.block.0 its flash.image flash.extras
    c.in_ok-config.ensures.read) c.in_err-left.ensures.err

pub returns : goal.returns
returns c =
    let its = c.in_ok-config.config in
    let flash = c.in_ok-config.flash in
    let leaves = c.in_ok-left.ensures.ok in (
      Retired c.args.name.now its flash.image flash.extras c.args.block.0,
      retiring_done c.args.name.now c.args.bytes.items c.args.block.0 its flash.image flash.extras
          c.in_ok-config.ensures.read leaves.empties.sound
          leaves.refusal,
      refl,
      record {
        bytes = c.in_ok-saved.saved.items;
        saves = refl;
        left = c.in_ok-left.left.image;
        empties = leaves.empties;
        spelled = rw leaves.extras at c.in_ok-saved.ensures;
        said = c.in_ok-line.ensures;
      },
    )
