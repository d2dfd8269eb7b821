-- No version that is not below the newest of its page is straddled.
use Rattle.sorted_records.proofs.Common.{◌≤◌, sym, subst}
use Rattle.straddle_sets.proofs.Straddle.{none_above}
use Rattle.sorted_records.proofs.group.straddling.Goals as goal

pub returns-then-newest-name : goal.returns-then-newest-name
returns-then-newest-name c =
    sym (none_above c.args.records.now c.args.name (subst (λ n. n ≤ c.args.name.version) c.newest.ensures
    c.if-newest-name.true))
