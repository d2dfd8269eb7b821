use Rattle.verdict_check.proofs.Common.{◌<◌, subst, sym, arith, place_at}
use Rattle.verdict_check.proofs.ChainLemmas.{above, above_less}
use Rattle.verdict_check.proofs.StraddlerLemmas.{goes_on}
use Rattle.verdict_check.proofs.straddlers.note_version.Goals as goal

pub loop-next-smaller : goal.loop-next-smaller
loop-next-smaller c =
    let inv = rw c.in-Some.is at c.loop-next.invariant in
    let last = c.requires.before c.in-Some.page c.args.rec.page inv.0.0 inv.0.1 in
    subst (λ o. above (place_at c.args.before.now c.in-Some.page) < above o) (sym c.in-Some.is)
    (above_less c.args.records.now.list.now c.args.rec.page c.in-Some.page _ last)

pub loop-next-preserved : goal.loop-next-preserved
loop-next-preserved c =
    let inv = rw c.in-Some.is at c.loop-next.invariant in
    let last = c.requires.before c.in-Some.page c.args.rec.page inv.0.0 inv.0.1 in
    let size = c.note_straddled.ensures.size in (
      goes_on c.args.records.now.list.now c.args.rec c.args.logical c.in-Some.page c.args.straddlers.now
          c.loop-next.straddlers c.note_straddled.new.straddlers
          _
          c.requires.known inv.0 last c.note_straddled.ensures.noted c.note_straddled.ensures.others,
      omega arith,
    )
