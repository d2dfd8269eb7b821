-- The homes of the records in the old spare are refreshed, and then those in the new one.
mod SpareFrame
use Rattle.slot_tables.proofs.Common.{◌<◌, Some, false, set, with_item, blocks_of, tables_state, IsRefreshedFrom}
use Rattle.slot_tables.proofs.tables.Tables.set_spare.Answers.SpareFrame.{IsMiddle, spare_set, no_middle, middle}
use Rattle.slot_tables.proofs.tables.Tables.set_spare.Goals as goal
use Rattle.slot_tables.proofs.tables.Tables.set_spare.Goals.{in-Some, in_default}

pub invariant_of-self : goal.invariant_of-self
invariant_of-self c =
    let t = c.self.inside in
    let low : c.args.block.0 < blocks_of t.base.shape = rw (← c.self.view_is) at c.requires in
    elim c.match-before.branch [
      | in-Some w ↦
          let n0 = record t.live {
            spare = Some c.args.block.0;
            closed = set t.live.closed c.args.block.0 false;
          } in
          let k' = tables_state (record t.base {
            spare = Some c.args.block;
            closed = with_item t.base.closed c.args.block.0 false;
          }) in
          let k = tables_state t.base in
          let first : IsMiddle k' k.spare n0 w.refresh_block.new.live = rw w.in-Some.is
          (middle k' w.in-Some.old.0 n0 w.refresh_block.new.live (rw c.set_spare.ensures at w.refresh_block.ensures)) in
          let then : IsRefreshedFrom k' k.spare c.args.block.0 w.refresh_block.new.live c.refresh_block-2.new.live =
          rw w.in-Some.is (rw (w.self-inside-is, w.before-is) at c.refresh_block-2.ensures) in
          rw w.self-inside-is (spare_set t c.self.invariant c.args.block low w.refresh_block.new.live
          c.refresh_block-2.new.live first then)
      | in_default w ↦
          let n0 = record t.live {
            spare = Some c.args.block.0;
            closed = set t.live.closed c.args.block.0 false;
          } in
          let k' = tables_state (record t.base {
            spare = Some c.args.block;
            closed = with_item t.base.closed c.args.block.0 false;
          }) in
          let k = tables_state t.base in
          let first : IsMiddle k' k.spare n0 n0 = rw w.in_default.is (no_middle k' n0) in
          let then : IsRefreshedFrom k' k.spare c.args.block.0 n0 c.refresh_block-2.new.live = rw
          (w.self-inside-is, w.before-is, c.set_spare.ensures) at c.refresh_block-2.ensures in
          rw w.self-inside-is (spare_set t c.self.invariant c.args.block low n0 c.refresh_block-2.new.live first then)
    ]
