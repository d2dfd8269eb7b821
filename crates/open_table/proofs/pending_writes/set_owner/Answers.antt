use Rattle.open_table.proofs.Common.{sym, ◌∙◌, arith, length-set}
use Rattle.open_table.proofs.OfTransactions.Owners.{with_more, with_all}
use Rattle.open_table.proofs.pending_writes.set_owner.Goals as goal

pub loop-p-preserved : goal.loop-p-preserved
loop-p-preserved c = (
  sym (with_more c.loop-p.owners c.args.owner c.args.pages.now c.loop-p.p-index c.p-item.result (omega arith)
      c.p-item.is) ∙ c.loop-p.invariant.0,
  length-set c.loop-p.owners c.p-item.result.name.page c.args.owner ∙ c.loop-p.invariant.1,
)

pub returns : goal.returns
returns c = sym (with_all c.loop-p.owners c.args.owner c.args.pages.now c.loop-p.p-index (omega arith))
    ∙ c.loop-p.invariant.0
