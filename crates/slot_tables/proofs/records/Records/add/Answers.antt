-- The number had no record.
use Rattle.slot_tables.proofs.Common.{◌<◌, refl, arith}
use Rattle.slot_tables.specs.TablesState.{IsNewest}
use Rattle.slot_tables.proofs.OfRecords.Numbering.{pages_long}
use Rattle.slot_tables.proofs.OfRecords.Renumbering.{IsLoose, loose, numbered, numbered_pages}
use Rattle.slot_tables.proofs.records.Records.add.Goals as goal
use Rattle.slot_tables.proofs.records.Records.add.Goals.{After-take_number-number}

its : (c : After-take_number-number) → IsLoose c.self.inside c.take_number-number.new.lists
    c.take_number-number.new.unused c.take_number-number.result
its c =
    loose c.self.inside c.self.invariant c.take_number-number.new.lists c.take_number-number.new.unused
    c.take_number-number.result
    (rw (← c.self.view_is) at c.requires.free) c.take_number-number.ensures

low : (c : After-take_number-number) → c.args.rec.now.page < c.self.inside.pages
low c = rw (← c.self.view_is, pages_long c.self.inside c.self.invariant) at c.requires.page

newest : (c : After-take_number-number) → IsNewest c.self.inside.records c.args.rec.now
newest c = rw (← c.self.view_is) at c.requires.newest

pub take_number-number-requires-clause-few : goal.take_number-number-requires-clause-few
take_number-number-requires-clause-few c = let most = c.self.invariant.unused in
    let small = c.self.invariant.small in omega arith

pub push-requires-clause-place : goal.push-requires-clause-place
push-requires-clause-place c =
    let t = (goal.at.push-requires-clause-place c).After-take_number-number in
    rw ((its t).places, c.self.invariant.places) (its t).within

pub push-requires-clause-free : goal.push-requires-clause-free
push-requires-clause-free c (k, has) =
    (((its (goal.at.push-requires-clause-free c).After-take_number-number).has k c.take_number-number.result).0 has).1
    refl

pub set-requires : goal.set-requires
set-requires c = (its (goal.at.set-requires c).After-take_number-number).within

pub returns-clause-free : goal.returns-clause-free
returns-clause-free c = rw (← c.self.view_is) (its (goal.at.returns-clause-free c).After-take_number-number).none

pub returns-clause-within : goal.returns-clause-within
returns-clause-within c = rw (← c.self.view_is) (its (goal.at.returns-clause-within c).After-take_number-number).within

pub invariant_of-self : goal.invariant_of-self
invariant_of-self c =
    let t = (goal.at.invariant_of-self c).After-take_number-number in
    rw (c.set.ensures, c.push.ensures.first) (numbered c.self.inside c.self.invariant _ _ _ (its t) c.args.rec.now
    (low t) (newest t)
    (rw c.push.ensures.first at c.push.ensures.lists))

pub returns-clause-added : goal.returns-clause-added
returns-clause-added c =
    let t = (goal.at.returns-clause-added c).After-take_number-number in
    let pages = numbered_pages c.self.inside c.self.invariant _ _ _ (its t) c.args.rec.now (low t) (newest t) in
    rw (← c.self.view_is, c.set.ensures, c.push.ensures.first, pages) refl

pub returns-clause-versions : goal.returns-clause-versions
returns-clause-versions c =
    let t = (goal.at.returns-clause-versions c).After-take_number-number in
    let all = numbered c.self.inside c.self.invariant _ _ _ (its t) c.args.rec.now (low t) (newest t)
    (rw c.push.ensures.first at c.push.ensures.lists) in
    rw (c.set.ensures, c.push.ensures.first) all.versions
