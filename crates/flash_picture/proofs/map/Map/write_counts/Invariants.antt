use Rattle.flash_picture.proofs.Common.{◌≡◌, ◌++◌, take, flat_map}
use Rattle.flash_picture.specs.Overview.{count_text}
use Rattle.flash_picture.proofs.map.Map.write_counts.Given as goal

abbrev pub invariant-loop-kind : goal.invariant-loop-kind
invariant-loop-kind l =
    l.text.items ≡ l.initial.text.items
    ++ flat_map (count_text l.self.shape l.self.cells.now) (take l.kind-index l.kinds)
