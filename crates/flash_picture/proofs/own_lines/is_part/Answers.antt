mod LinkCounts
use Rattle.flash_picture.proofs.Common.{◌∙◌}
use Rattle.sorted_records.proofs.OfWalk.WalkOrbits.{ends_below}
use Rattle.flash_picture.proofs.own_lines.is_part.Answers.LinkCounts.{part_none, part_some}
use Rattle.flash_picture.proofs.own_lines.is_part.Goals as goal

pub part_by-requires : goal.part_by-requires
part_by-requires c = ends_below c.args.chart.now c.args.page c.in-Some.orbit c.in-Some.ensures

pub returns-in-Some : goal.returns-in-Some
returns-in-Some c = c.part_by.ensures ∙ part_some c.args.chart.now c.args.logical c.args.page c.in-Some.orbit
    c.in-Some.ensures

pub returns-in-None : goal.returns-in-None
returns-in-None c = part_none c.args.chart.now c.args.logical c.args.page c.in-None.ensures
