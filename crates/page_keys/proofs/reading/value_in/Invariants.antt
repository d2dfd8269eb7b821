use Rattle.page_keys.proofs.Common.{◌≡◌, ℕ, length, List, Pair, value_of, HoldsEntries}
use Rattle.page_keys.proofs.OfPut.EntriesLeft.{IsLeft}
use Rattle.page_keys.proofs.reading.value_in.Given as goal

abbrev pub decreases-entries : goal.decreases-entries
decreases-entries l = length l.rest

abbrev pub invariant-entries : goal.invariant-entries
invariant-entries l = record {
  same : l.into ≡ l.initial.into;
  finds : (all : List Pair) → HoldsEntries (length l.bytes) l.bytes all →
      (more : List Pair) × (n : ℕ) × IsLeft l.rest more n
      × (value_of l.key all ≡ value_of l.key more);
}
