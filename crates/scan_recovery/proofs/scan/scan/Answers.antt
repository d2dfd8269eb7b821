use Rattle.scan_recovery.proofs.Common.{◌≤◌, false, arith, slots_of}
use Rattle.std.proofs.lemmas.Result.{err_from_is_err_and}
use Rattle.scan_recovery.proofs.OfScan.ReadingSteps.{reads_nothing, reads_some_within, reads_some_all}
use Rattle.scan_recovery.proofs.scan.scan.Goals as goal

pub returns-in_err-seen-clause-reads : goal.returns-in_err-seen-clause-reads
returns-in_err-seen-clause-reads g c =
    let p = err_from_is_err_and c.from_residual.result c.from_residual.ensures.1 in
    let a = g.F.Flash.state c.args.flash.now in
    let within : 0 ≤ slots_of a.shape = omega arith in
    rw (p.1, p.2) (reads_some_within a a false 0 (slots_of a.shape) (reads_some_all a a 0 (reads_nothing a)) within)
