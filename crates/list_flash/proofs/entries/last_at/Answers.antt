use Rattle.std.proofs.Common.{sym, ◌∙◌, arith}
use Rattle.list_flash.proofs.Shown.{contents-set, contents-unset}
use Rattle.list_flash.proofs.entries.last_at.Goals as goal
use Rattle.list_flash.proofs.entries.last_at.Goals.{then-is_at, else-is_at}

pub loop-entry-preserved : goal.loop-entry-preserved
loop-entry-preserved c =
    let list = c.args.list.now in
    let i = c.loop-entry.entry-index in
    let e = c.entry-item.result in
    elim c.if-is_at.branch [
      | then-is_at w ↦
          rw w.last-is
          (contents-set c.args.shape c.args.at.0 list i e (omega arith) c.entry-item.is
          (sym c.is_at.ensures ∙ w.if-is_at.true))
      | else-is_at w ↦
          rw (
            w.last-is,
            contents-unset c.args.shape c.args.at.0 list i e (omega arith) c.entry-item.is
                (sym c.is_at.ensures ∙ w.if-is_at.false),
          )
          c.loop-entry.invariant
    ]
