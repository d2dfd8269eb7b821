use Rattle.scan_recovery.proofs.Common.{◌≡◌, ℕ, ◌+◌, ◌≤◌, true, false, List, ap, ◌∙◌, arith, FlashState, ReadsAll, ReadsSome}
use Rattle.std.proofs.Common.{Bool, Ok, Err}
use Rattle.std.specs.Prelude.{if◌then◌else◌}
use Rattle.flash_model.specs.declared.flash.Broken.{Broken}
use Rattle.flash_model.specs.declared.flash.Seen.{Seen}
use Rattle.flash_model.specs.Flash.{counted}
use Rattle.flash_model.specs.Calls.{Reads}
use Rattle.flash_model.proofs.MoveLemmas.{same_read}
use Rattle.std.proofs.lemmas.Result.{err_from_is_err_and}
use Rattle.scan_recovery.proofs.OfScan.ReadingSteps.{reads_all_then, reads_some_then}
use Rattle.scan_recovery.proofs.twins.same_bytes.Goals as goal

-- a read that was done, and one that was broken
one_read : (old new : FlashState) (at : ℕ) (bytes spare_area : List ℕ) (how : Seen) →
    Reads old new at bytes spare_area (Ok how) → ReadsAll old new 1
one_read old new at bytes spare_area how r = record {
  carries = r.carries;
  moment = same_read old new at bytes spare_area (Ok how) r;
  reads = r.reads ∙ ap (λ (on : Bool). if on then counted old.reads else old.reads) r.powered;
  started = r.started;
}

one_broken : (old new : FlashState) (at : ℕ) (bytes spare_area : List ℕ) (how : Broken) →
    Reads old new at bytes spare_area (Err how)
    → ReadsSome old new true 1
one_broken old new at bytes spare_area how r = record {
  carries = r.carries;
  moment = same_read old new at bytes spare_area (Err how) r;
  reads = by old.live r.reads;
  started = r.started;
}
  where
    by : (on : Bool) → new.reads ≡ (if on then counted old.reads else old.reads) → new.reads ≤ old.reads + 1
    by true is = omega arith
    by false is = omega arith

pub returns-in_err-read-2-clause-reads : goal.returns-in_err-read-2-clause-reads
returns-in_err-read-2-clause-reads g c =
    let p = err_from_is_err_and c.from_residual-in_err-read-2.result c.from_residual-in_err-read-2.ensures.1 in
    let a = g.F.Flash.state c.args.flash.now in
    let b = g.F.Flash.state c.read.new.self in
    let last = g.F.Flash.state c.read-2.new.self in
    rw p.1 (reads_some_then a b last 1 1 true (one_read a b _ _ _ _ c.in_ok-read.ensures)
    (one_broken b last _ _ _ _ c.in_err-read-2.ensures))

pub returns-clause-reads : goal.returns-clause-reads
returns-clause-reads g c =
    let a = g.F.Flash.state c.args.flash.now in
    let b = g.F.Flash.state c.read.new.self in
    let last = g.F.Flash.state c.read-2.new.self in
    reads_all_then a b last 1 1 (one_read a b _ _ _ _ c.in_ok-read.ensures)
    (one_read b last _ _ _ _ c.in_ok-read-2.ensures)
