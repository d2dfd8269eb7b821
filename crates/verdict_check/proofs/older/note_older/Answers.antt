use Rattle.verdict_check.proofs.Common.{arith, ◌≡◌, length, subst, refl, AreOlder}
use Rattle.verdict_check.proofs.PlaceLemmas.{nothing_at}
use Rattle.verdict_check.proofs.OlderLemmas.{older_more}
use Rattle.verdict_check.proofs.older.note_older.Goals as goal

pub loop-found-init : goal.loop-found-init
loop-found-init c = (nothing_at c.args.older.now 0 c.requires.empty, refl)

pub loop-found-preserved : goal.loop-found-preserved
loop-found-preserved c = (
  older_more c.args.records.now.list.now c.loop-found.found-index c.loop-found.older
      c.note_version.new.older (omega arith)
      c.loop-found.invariant.0 c.note_version.ensures.noted,
  omega arith,
)

pub returns : goal.returns
returns c =
    let end : c.loop-found.found-index ≡ length c.args.records.now.list.now = omega arith in
    subst (λ n. AreOlder c.args.records.now.list.now n c.loop-found.older) end c.loop-found.invariant.0
