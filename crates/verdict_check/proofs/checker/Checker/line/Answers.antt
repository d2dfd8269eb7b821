mod CheckerLemmas
use Rattle.verdict_check.proofs.Common.{refl, sym}
use Rattle.verdict_check.proofs.PlaceLemmas.{newest_stands}
use Rattle.verdict_check.proofs.checker.Checker.line.Answers.CheckerLemmas.{ends_within, is_expected}
use Rattle.verdict_check.proofs.checker.Checker.line.Goals as goal

pub find_walk_end-course-requires-clause-newest : goal.find_walk_end-course-requires-clause-newest
find_walk_end-course-requires-clause-newest c = newest_stands c.args.self.now.records.list.now c.args.page c.args.place
    c.requires.place

pub why-why-requires-clause-ends : goal.why-why-requires-clause-ends
why-why-requires-clause-ends c = ends_within c.args.self.now.protocol c.args.self.now.records.list.now
    c.args.self.now.logical c.args.page c.args.place
    (sym c.requires.place) c.find_walk_end-course.result c.find_walk_end-course.ensures.course

pub current-requires-clause-newest : goal.current-requires-clause-newest
current-requires-clause-newest c = newest_stands c.args.self.now.records.list.now c.args.page c.args.place
    c.requires.place

pub returns-clause-is : goal.returns-clause-is
returns-clause-is c =
    is_expected c.args.self.now.protocol c.args.self.now.records.list.now c.args.self.now.logical c.args.page
    c.args.place c.find_walk_end-course.result _
    c.requires.place c.requires.scanned c.find_walk_end-course.ensures.course refl refl c.why-why.ensures
    c.current.ensures c.links.ensures
