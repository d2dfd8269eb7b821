use Rattle.verdict_check.proofs.Common.{arith, refl}
use Rattle.verdict_check.proofs.PlaceLemmas.{nothing_at}
use Rattle.verdict_check.proofs.StraddlerLemmas.{known, straddlers_more, all_straddlers}
use Rattle.verdict_check.proofs.straddlers.note_versions.Goals as goal

pub loop-found-init : goal.loop-found-init
loop-found-init c = ((λ page low. nothing_at c.args.straddlers.now 0 c.requires.empty page), refl)

pub loop-found-preserved : goal.loop-found-preserved
loop-found-preserved c = (
  straddlers_more c.args.records.now.list.now c.loop-found.found-index c.args.logical c.loop-found.straddlers
      c.note_version.new.straddlers (omega arith)
      c.loop-found.invariant.0 c.note_version.ensures.noted,
  omega arith,
)

pub returns : goal.returns
returns c = all_straddlers c.args.records.now.list.now c.loop-found.found-index c.args.logical c.loop-found.straddlers
    (omega arith) c.requires.pages c.loop-found.invariant.0

pub note_version-requires-clause-known : goal.note_version-requires-clause-known
note_version-requires-clause-known c = known c.args.records.now.list.now c.loop-found.found-index (omega arith)
