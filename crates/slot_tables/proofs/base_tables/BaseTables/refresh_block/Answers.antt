-- One slot after the other.
use Rattle.slot_tables.proofs.Common.{◌≡◌, ◌+◌, ◌*◌, arith, option_map, tables_state}
use Rattle.slot_tables.proofs.base_tables.BaseTables.refresh_block.Invariants.SpareSetting.{none_refreshed, more_refreshed, all_refreshed}
use Rattle.slot_tables.proofs.base_tables.BaseTables.refresh_block.Goals as goal

pub loop-at-init : goal.loop-at-init
loop-at-init c = none_refreshed _ _ _ c.args.live.now

pub loop-at-preserved : goal.loop-at-preserved
loop-at-preserved c =
    rw c.refresh_slot.ensures
    (more_refreshed (tables_state c.args.self.now) (option_map
    (λ b. b.0) c.args.older) _ c.loop-at.at c.args.live.now c.loop-at.live c.loop-at.invariant c.requires.live)

pub returns : goal.returns
returns c =
    let all : c.loop-at.at ≡ c.args.block.0 * c.args.self.now.shape.pages_per_block
    + c.args.self.now.shape.pages_per_block = omega arith in
    all_refreshed (tables_state c.args.self.now) (option_map (λ b. b.0) c.args.older) c.args.block.0 c.args.live.now
    c.loop-at.live
    (rw all at c.loop-at.invariant)
