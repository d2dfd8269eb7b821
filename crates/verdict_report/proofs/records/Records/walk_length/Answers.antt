use Rattle.verdict_report.proofs.Common.{arith, length, suc, ◌≡◌, ◌+◌, ◌∙◌, sym, ap}
use Rattle.record_list.specs.Records.{record_at}
use Rattle.sorted_records.specs.declared.orbit.Orbit.TheVariants.{Ends, Round, Aside}
use Rattle.sorted_records.proofs.OfWalk.WalkOrbits.{ends_below}
use Rattle.verdict_report.specs.Walks.{stays_at}
use Rattle.verdict_report.proofs.WalkLengths.{orbit_is, walk_length, walk_alone, walk_stays, walk_stops, counted_most, counted_least}
use Rattle.verdict_report.proofs.records.Records.walk_length.Goals as goal

pub bounds-records-at : goal.bounds-records-at
bounds-records-at c =
    let within = ends_below c.args.self.now.chart c.args.page (Ends c.in-Some-Ends.after c.in-Some-Ends.at)
    (orbit_is c.args.self.now.chart c.args.page c.in-Some-Ends.field-0-is c.in-Some-Ends.ensures) in
    let same = ap length c.records.ensures.records in
    omega arith

pub returns-in-None : goal.returns-in-None
returns-in-None c = sym (walk_alone c.args.self.now.chart c.args.logical c.args.page c.in-None.ensures)

pub returns-then-stays_at : goal.returns-then-stays_at
returns-then-stays_at c =
    counted_most _ c.args.logical _ c.from-most.ensures
    (walk_stays c.args.self.now.chart c.args.logical c.args.page c.in-Some-Ends.after c.in-Some-Ends.at
    (orbit_is c.args.self.now.chart c.args.page c.in-Some-Ends.field-0-is c.in-Some-Ends.ensures)
    (ap (λ l. stays_at c.args.self.now.chart (record_at l c.in-Some-Ends.at).next) (sym c.records.ensures.records)
    ∙ sym c.if-stays_at.ensures))

pub returns-else-stays_at : goal.returns-else-stays_at
returns-else-stays_at c =
    let after = c.from.ensures in
    let links : c.from.result + 1 ≡ suc c.in-Some-Ends.after = omega arith in
    counted_least _ c.args.logical _ _ _ _ c.from-most.ensures links c.min.ensures
    (walk_stops c.args.self.now.chart c.args.logical c.args.page c.in-Some-Ends.after c.in-Some-Ends.at
    (orbit_is c.args.self.now.chart c.args.page c.in-Some-Ends.field-0-is c.in-Some-Ends.ensures)
    (ap (λ l. stays_at c.args.self.now.chart (record_at l c.in-Some-Ends.at).next) (sym c.records.ensures.records)
    ∙ sym c.if-stays_at.ensures))

pub returns-in-Some-Round : goal.returns-in-Some-Round
returns-in-Some-Round c =
    counted_least _ c.args.logical _ _ _ _ c.from-most.ensures c.from-in-Some-Round.ensures c.min-in-Some-Round.ensures
    (walk_length c.args.self.now.chart c.args.logical c.args.page (Round c.in-Some-Round.length)
    (orbit_is c.args.self.now.chart c.args.page c.in-Some-Round.field-0-is c.in-Some-Round.ensures))

pub returns-in-Some-Aside : goal.returns-in-Some-Aside
returns-in-Some-Aside c =
    counted_most _ c.args.logical _ c.from-most.ensures
    (walk_length c.args.self.now.chart c.args.logical c.args.page Aside
    (orbit_is c.args.self.now.chart c.args.page c.in-Some-Aside.field-0-is
    c.in-Some-Aside.ensures))
