use Rattle.live_flash.proofs.Common.{◌≡◌, ◌++◌, ℕ, [], true, false, drop, IfSome, slots_in, AreProgrammed, Follows}
use Rattle.std.specs.Vec.{vec_capacity}
use Rattle.file_flash.specs.Loads.{slots_loaded}
use Rattle.live_flash.specs.Waiting.{HasRoom}
use Rattle.live_flash.proofs.loads.follow_slots.Given as goal

abbrev pub invariant-loop-slot : goal.invariant-loop-slot
invariant-loop-slot g l = record {
  store : l.follower.store ≡ l.initial.follower.store;
  room : l.follower.room ≡ l.initial.follower.room;
  places : HasRoom l.memory.shape (vec_capacity l.follower.waiting) l.follower.waiting.items;
  fresh : (k : ℕ) → slots_in (slots_loaded (drop l.slot-index l.slots)) k ≡ true →
      slots_in l.follower.waiting.items k ≡ false;
  programmed : AreProgrammed l.memory.image l.follower.waiting.items;
  within : (k : ℕ) → slots_in l.follower.waiting.items k ≡ true →
      slots_in (l.initial.follower.waiting.items ++ slots_loaded l.slots) k ≡ true;
  follows : IfSome (g.S.Store.told l.initial.follower.store)
      (Follows l.memory.shape l.memory.image [] (l.initial.follower.waiting.items ++ slots_loaded l.slots)) →
      IfSome (g.S.Store.told l.follower.store) (Follows l.memory.shape l.memory.image []
      (l.follower.waiting.items ++ slots_loaded (drop l.slot-index l.slots)));
}
