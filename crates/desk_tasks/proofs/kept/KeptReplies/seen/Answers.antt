use Rattle.desk_tasks.proofs.Common.{arith}
use Rattle.desk_tasks.proofs.Copies.{slots_kept}
use Rattle.desk_tasks.proofs.kept.KeptReplies.seen.Goals as goal

pub seen-requires : goal.seen-requires
seen-requires c =
    let inside = c.requires.slot in
    omega (
      arith,
      slots_kept c.self.inside.entries.items c.args.self.now c.args.i c.index.result.now c.self.view_is c.requires.reply
          c.index.ensures c.shape.ensures.whole.slots,
    )
