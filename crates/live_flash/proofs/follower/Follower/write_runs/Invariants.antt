use Rattle.live_flash.proofs.Common.{◌≡◌, ◌-◌, ◌≤◌, ℕ, List, take, drop, length, IfSome, IsOpened, IsLiveFile, Follows}
use Rattle.live_flash.proofs.follower.Follower.write_runs.Given as goal

abbrev pub invariant-loop-next : goal.invariant-loop-next
invariant-loop-next g l = record {
  same : l.self.waiting ≡ l.initial.self.waiting;
  room : length l.self.room.items ≡ length l.initial.self.room.items;
  within : l.next ≤ length l.self.waiting.items;
  counts : g.S.Store.faults l.self.store ≡ g.S.Store.faults l.initial.self.store;
  opened : IfSome (g.S.Store.told l.self.store) (IsOpened l.memory.shape);
  kept : (head : List ℕ) → IfSome (g.S.Store.told l.initial.self.store) (IsLiveFile l.memory.shape head) →
      IfSome (g.S.Store.told l.self.store) (IsLiveFile l.memory.shape head);
  follows : IfSome (g.S.Store.told l.self.store) (Follows l.memory.shape l.memory.image
      (take l.next l.self.waiting.items) (drop l.next l.self.waiting.items));
}

abbrev pub decreases-loop-next : goal.decreases-loop-next
decreases-loop-next g l = length l.self.waiting.items - l.next
