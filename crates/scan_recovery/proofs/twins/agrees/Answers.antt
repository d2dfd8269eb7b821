use Rattle.scan_recovery.proofs.Common.{◌≡◌, ◌<◌, false, cond, sym, subst, FlashState, ReadsAll, All-contains, slots_of, has_name, name_of}
use Rattle.list_lemmas.proofs.Tests.{find_stands}
use Rattle.std.proofs.Common.{Bool, rules}
use Rattle.scan_recovery.specs.Twins.{is_compared}
use Rattle.scan_recovery.proofs.OfScan.ReadingSteps.{reads_nothing}
use Rattle.scan_recovery.proofs.twins.agrees.Goals as goal

-- a slot that is not compared is not read
none_read : (s : FlashState) (compared : Bool) → compared ≡ false → ReadsAll s s (cond compared 2 0)
none_read s compared not = subst (λ b. ReadsAll s s (cond b 2 0)) (sym not) (reads_nothing s)

pub returns-then-ne-clause-reads : goal.returns-then-ne-clause-reads
returns-then-ne-clause-reads g c =
    none_read (g.F.Flash.state c.args.flash.now) (is_compared c.args.chart.now c.args.found) (search rules)

pub returns-then-eq-clause-reads : goal.returns-then-eq-clause-reads
returns-then-eq-clause-reads g c =
    none_read (g.F.Flash.state c.args.flash.now) (is_compared c.args.chart.now c.args.found) (search rules)

pub same_bytes-requires-clause-first : goal.same_bytes-requires-clause-first
same_bytes-requires-clause-first g c =
    All-contains (λ f. f.slot.0 < slots_of (g.F.Flash.state c.args.flash.now).shape) c.args.chart.now c.in-Some.lowest
    c.requires.exists
    (find_stands (λ f. has_name (name_of c.args.found.rec) f.rec) c.args.chart.now c.in-Some.lowest
    (sym c.in-Some.ensures)).0
