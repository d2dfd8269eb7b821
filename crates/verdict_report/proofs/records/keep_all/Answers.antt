use Rattle.verdict_report.proofs.Common.{◌≡◌, arith, subst, take}
use Rattle.std.proofs.lemmas.List.{take_all}
use Rattle.verdict_report.specs.Newest.{KeepsNewest}
use Rattle.verdict_report.proofs.NewestLemmas.{keeps_more, keeps_none}
use Rattle.verdict_report.proofs.records.keep_all.Goals as goal

pub loop-found-init : goal.loop-found-init
loop-found-init c = keeps_none c.args.newest.now.items c.requires

pub loop-found-preserved : goal.loop-found-preserved
loop-found-preserved c =
    keeps_more c.args.list.now c.loop-found.found-index c.loop-found.newest.items c.keep.new.newest.items (omega arith)
    c.loop-found.invariant (λ page. c.in_ok-keep.ensures page)

pub returns : goal.returns
returns c =
    let all : take c.loop-found.found-index c.args.list.now ≡ c.args.list.now = take_all _ _ (omega arith) in
    subst (λ found. KeepsNewest found c.loop-found.newest.items) all c.loop-found.invariant
