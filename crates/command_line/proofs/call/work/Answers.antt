use Rattle.std.proofs.Common.{◌≡◌, refl, arith, Some}
use Rattle.tx_types.specs.Config.{checked}
use Rattle.desk_io.specs.Disk.{FindsBoth}
use Rattle.desk_tasks.specs.Ending.{Ending, SummedUp}
use Rattle.desk_tasks.specs.Steps.{formatting}
use Rattle.desk_tasks.specs.Request.{Drive, Format}
use Rattle.desk_tasks.proofs.Works.{found_none, works}
use Rattle.command_line.proofs.call.work.Goals as goal

pub returns-in-Some-Format-clause-works : goal.returns-in-Some-Format-clause-works
returns-in-Some-Format-clause-works g c =
    let asks = rw c.in-Some-Format.field-0-is at c.in-Some-Format.ensures in
    let image = c.in-Some-Format.image.now in
    let its = c.in-Some-Format.config in
    let allowance = c.in-Some-Format.allowance in
    let desk = g.D.Desk.state c.args.desk.now in
    let done = works (Some (Format image its allowance)) (FindsBoth desk (g.D.Desk.disk c.args.desk.now)) desk desk 0
    (λ (ending : Ending). ending
    ≡ formatting image its allowance (checked its))
    c.do_format.result refl (omega arith) (found_none desk) (λ ending h. (h, refl)) c.do_format.ensures in
    rw (← asks) done

pub returns-in-Some-Drive-clause-works : goal.returns-in-Some-Drive-clause-works
returns-in-Some-Drive-clause-works g c =
    let asks = rw c.in-Some-Drive.field-0-is at c.in-Some-Drive.ensures in
    let start = c.in-Some-Drive.start in
    let count = c.in-Some-Drive.count in
    let protocol = c.in-Some-Drive.protocol in
    let desk = g.D.Desk.state c.args.desk.now in
    let done = works (Some (Drive start count protocol)) (FindsBoth desk (g.D.Desk.disk c.args.desk.now)) desk desk 0
    (λ (ending : Ending). ending
    ≡ SummedUp start count protocol) c.do_drive.result
    refl (omega arith) (found_none desk) (λ ending h. (h, refl)) c.do_drive.ensures in
    rw (← asks) done
