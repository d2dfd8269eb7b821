use Rattle.flash_picture.proofs.Common.{◌∙◌}
use Rattle.sorted_records.proofs.OfWalk.WalkOrbits.{ends_below}
use Rattle.flash_picture.proofs.Leaving.{left_none, left_some}
use Rattle.flash_picture.proofs.walk.leaving_link_at.Goals as goal

pub leaving_link_by-requires : goal.leaving_link_by-requires
leaving_link_by-requires c = ends_below c.args.chart.now c.args.page c.in-Some.orbit c.in-Some.ensures

pub returns-in-Some : goal.returns-in-Some
returns-in-Some c = c.leaving_link_by.ensures ∙ left_some c.args.chart.now c.args.logical c.args.page c.in-Some.orbit
    c.in-Some.ensures

pub returns-in-None : goal.returns-in-None
returns-in-None c = left_none c.args.chart.now c.args.logical c.args.page c.in-None.ensures
