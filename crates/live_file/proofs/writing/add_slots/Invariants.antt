use Rattle.std.proofs.Common.{◌≡◌, ◌++◌, take}
use Rattle.std.specs.List.{flat_map}
use Rattle.live_image.specs.Slots.{live_slot}
use Rattle.live_file.proofs.writing.add_slots.Given as goal

abbrev pub invariant-loop-slot : goal.invariant-loop-slot
invariant-loop-slot l =
    l.bytes.items ≡ l.initial.bytes.items ++ flat_map (live_slot l.flash.shape.page_bytes) (take l.slot l.flash.image)
