use Rattle.desk_tasks.proofs.Common.{arith}
use Rattle.desk_tasks.proofs.Copies.{slots_kept}
use Rattle.desk_tasks.proofs.kept.KeptReplies.cell.Goals as goal

pub cell-requires : goal.cell-requires
cell-requires c =
    let inside = c.requires.slot in
    omega (
      arith,
      slots_kept c.self.inside.entries.items c.args.self.now c.args.i c.index.result.now c.self.view_is c.requires.reply
          c.index.ensures c.shape.ensures.whole.slots,
    )
