use Rattle.live_flash.proofs.Common.{[], ◌∷◌, ◌+◌, ◌-◌, arith}
use Rattle.live_flash.proofs.Calls.{slot_room}
use Rattle.live_flash.proofs.follower.Follower.mark_slot.Goals as goal

pub write_at-requires : goal.write_at-requires
write_at-requires g c = record {
  within = slot_room c.args.shape c.args.at.0 (c.slot_offset.result + c.slot_bytes.result - 1) (128 ∷ [])
      (g.S.Store.told c.args.self.now.store) c.requires.exists
      (omega (arith, c.slot_offset.ensures, c.slot_bytes.ensures)) c.requires.opened;
}
