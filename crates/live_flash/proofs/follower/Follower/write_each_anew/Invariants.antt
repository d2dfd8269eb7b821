use Rattle.live_flash.proofs.Common.{◌≡◌, ◌≤◌, ℕ, List, [], length, IfSome, Contents, IsOpened, IsLiveFile, Follows, AreWrittenAnew}
use Rattle.file_flash.specs.Clearing.{IsCleared}
use Rattle.live_flash.proofs.follower.Follower.write_each_anew.Given as goal

abbrev pub invariant-loop-number : goal.invariant-loop-number
invariant-loop-number g l = record {
  same : l.self.waiting ≡ l.initial.self.waiting;
  room : length l.self.room.items ≡ length l.initial.self.room.items;
  from : l.first ≤ l.number;
  counts : g.S.Store.faults l.self.store ≡ g.S.Store.faults l.initial.self.store;
  opened : IfSome (g.S.Store.told l.self.store) (IsOpened l.memory.shape);
  kept : (head : List ℕ) → IfSome (g.S.Store.told l.initial.self.store) (IsLiveFile l.memory.shape head) →
      IfSome (g.S.Store.told l.self.store) (IsLiveFile l.memory.shape head);
  tears : (old : List Contents) → IsCleared old l.memory.image l.first l.count →
      IfSome (g.S.Store.told l.initial.self.store) (Follows l.memory.shape old [] []) →
      IfSome (g.S.Store.told l.self.store) (AreWrittenAnew l.memory.shape old l.memory.image l.first l.number);
}
