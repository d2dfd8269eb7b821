use Rattle.page_keys.proofs.Common.{◌≡◌, ◌++◌, ℕ, length, List, Pair, HoldsEntries}
use Rattle.page_keys.proofs.OfPut.EntriesLeft.{IsLeft}
use Rattle.page_keys.proofs.reading.entries_in.Given as goal

abbrev pub decreases-entries : goal.decreases-entries
decreases-entries l = length l.rest

abbrev pub invariant-entries : goal.invariant-entries
invariant-entries l =
    (all : List Pair) → HoldsEntries (length l.bytes) l.bytes all →
    (more : List Pair) × (n : ℕ) × IsLeft l.rest more n × (all ≡ l.into.items ++ more)
