-- The walk from the newest record of a page goes along the orbit of its place.
use Rattle.sorted_records.proofs.Common.{Some, refl, sym, ◌∙◌, newest}
use Rattle.sorted_records.specs.SortedRecords.{IsOrbitOfNewest}
use Rattle.sorted_records.proofs.OfWalk.WalkOrbits.{orbit_found, ends_below, why_shown}
use Rattle.sorted_records.proofs.records.SortedRecords.why_of_newest.Goals as goal

pub why_from_orbit-requires-clause-within : goal.why_from_orbit-requires-clause-within
why_from_orbit-requires-clause-within c =
    let now = c.args.self.now in
    let found : IsOrbitOfNewest now c.args.page (Some c.orbit.result) =
    orbit_found c.self.inside.records.items now c.args.page (newest now c.args.page) c.args.place
    c.self.inside.orbits c.orbit.result c.self.view_is refl (sym c.requires) c.self.invariant.orbits c.orbit.ensures in
    rw (c.deref.ensures.value, c.self.view_is) (ends_below now c.args.page c.orbit.result found)

pub returns : goal.returns
returns c =
    let now = c.args.self.now in
    let found : IsOrbitOfNewest now c.args.page (Some c.orbit.result) =
    orbit_found c.self.inside.records.items now c.args.page (newest now c.args.page) c.args.place
    c.self.inside.orbits c.orbit.result c.self.view_is refl (sym c.requires) c.self.invariant.orbits c.orbit.ensures in
    (rw (c.deref.ensures.value, c.self.view_is) at c.why_from_orbit.ensures)
    ∙ why_shown c.args.protocol now c.args.logical c.args.page c.orbit.result found
