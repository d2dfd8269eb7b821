use Rattle.page_keys.proofs.Common.{◌≡◌, ◌++◌, take, flat_map, entry_bytes}
use Rattle.page_keys.proofs.entries.write.Given as goal

abbrev pub invariant-loop-key : goal.invariant-loop-key
invariant-loop-key l =
    l.out.items ≡ l.initial.out.items ++ flat_map entry_bytes (take l.key-index l.entries)
