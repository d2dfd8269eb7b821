use Rattle.live_flash.proofs.Common.{◌*◌, ◌≤◌, length, sym, ap, subst, arith, slot_bytes}
use Rattle.std.proofs.Math.Nat.{mul-le-mul_right}
use Rattle.live_flash.proofs.Runs.{slots_room}
use Rattle.live_flash.proofs.follower.Follower.erase_slots.Goals as goal

pub write_erased-requires : goal.write_erased-requires
write_erased-requires g c =
    let size = slot_bytes c.args.shape.page_bytes in
    let few = mul-le-mul_right size c.requires.few in
    record {
      few = subst (λ b. c.args.count * b ≤ length c.deref_mut.result.now) (sym c.slot_bytes.ensures)
          (omega (arith, few, ap length c.deref_mut.ensures.value, c.requires.room));
      within = slots_room c.args.shape c.args.first.0 c.args.count c.slot_offset-offset.result
          (c.args.count * c.slot_bytes.result) (g.S.Store.told c.args.self.now.store) c.requires.exist
          c.slot_offset-offset.ensures (ap (λ b. c.args.count * b) c.slot_bytes.ensures) c.requires.opened;
    }
