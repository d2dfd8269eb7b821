use Rattle.scan_recovery.proofs.Common.{ℕ, false, arith, FlashState, ReadsSome}
use Rattle.std.proofs.lemmas.Result.{err_from_is_err_and}
use Rattle.scan_recovery.proofs.OfScan.ReadingSteps.{reads_nothing, reads_some_within, reads_some_all}
use Rattle.scan_recovery.proofs.recovery.sound_scan.Goals as goal

-- without memory nothing is read
none_read : (s : FlashState) (most : ℕ) → ReadsSome s s false most
none_read s most = reads_some_within s s false 0 most (reads_some_all s s 0 (reads_nothing s)) (omega arith)

pub returns-in_err-one-clause-reads : goal.returns-in_err-one-clause-reads
returns-in_err-one-clause-reads g c =
    let p = err_from_is_err_and c.from_residual.result c.from_residual.ensures.1 in
    rw (p.1, p.2) (none_read (g.F.Flash.state c.args.flash.now) _)

pub returns-in_err-two-clause-reads : goal.returns-in_err-two-clause-reads
returns-in_err-two-clause-reads g c =
    let p = err_from_is_err_and c.from_residual-in_err-two.result c.from_residual-in_err-two.ensures.1 in
    rw (p.1, p.2) (none_read (g.F.Flash.state c.args.flash.now) _)
