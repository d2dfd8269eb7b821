use Rattle.page_keys.proofs.Common.{◌≡◌, ◌++◌, length, flat_map, AllByRecursion, entry_bytes, IsEntry, AreOfPage}
use Rattle.page_keys.proofs.reading.read.Given as goal

abbrev pub decreases-entries : goal.decreases-entries
decreases-entries l = length l.rest

abbrev pub invariant-entries : goal.invariant-entries
invariant-entries l = record {
  split : l.bytes ≡ flat_map entry_bytes l.into.items ++ l.rest;
  each : AllByRecursion IsEntry l.into.items;
  its : AreOfPage l.logical l.page l.into.items;
}
