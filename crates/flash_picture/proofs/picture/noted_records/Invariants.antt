use Rattle.flash_picture.proofs.Common.{◌≡◌, ◌≤◌, length, take, found_in}
use Rattle.std.proofs.Common.{vec_len, vec_capacity}
use Rattle.flash_picture.proofs.picture.noted_records.Given as goal

abbrev pub invariant-loop-at : goal.invariant-loop-at
invariant-loop-at l =
    (l.list.items ≡ found_in (take l.at l.notes)) × (vec_len l.list ≤ l.at) × (vec_capacity l.list ≡ length l.notes)
