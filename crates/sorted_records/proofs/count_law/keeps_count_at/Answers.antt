use Rattle.std.specs.Prelude.{All}
use Rattle.sorted_records.proofs.Common.{◌≡◌, get_or, sym, subst, name_of, nothing}
use Rattle.sorted_records.proofs.OfWalk.NameReturns.{next_place}
use Rattle.sorted_records.proofs.OfCount.CountLaw.{uncounted, targets_counted}
use Rattle.sorted_records.proofs.count_law.keeps_count_at.Goals as goal

pub passes_count-requires-clause-target : goal.passes_count-requires-clause-target
passes_count-requires-clause-target c =
    rw (c.targets.ensures.targets, c.records.ensures.records) (next_place c.args.chart.now c.args.at c.requires.within)

pub returns-then-count-eq0 : goal.returns-then-count-eq0
returns-then-count-eq0 c =
    let none = c.if-count-eq0.true in
    let list = c.args.chart.now in (
      (λ passes. rw c.records.ensures.records at (uncounted list (get_or c.records.result.now c.args.at nothing)
          (c.passes_count.ensures.0 passes) none)),
      (λ keeps. c.passes_count.ensures.1 (subst
          (λ l. All (λ g. name_of g.rec ≡ (get_or l c.args.at nothing).rec.next →
          g.rec.count ≡ (get_or l c.args.at nothing).rec.count) list) (sym c.records.ensures.records)
          (targets_counted list (get_or list c.args.at nothing) keeps))),
    )

pub keeps_count-requires-clause-target : goal.keeps_count-requires-clause-target
keeps_count-requires-clause-target c =
    rw (c.targets.ensures.targets, c.records.ensures.records) (next_place c.args.chart.now c.args.at c.requires.within)

pub keeps_count-requires-clause-own : goal.keeps_count-requires-clause-own
keeps_count-requires-clause-own c = rw c.records.ensures.records (sym c.first_namesake-own.ensures)
