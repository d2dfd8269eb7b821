use Rattle.dense_tables.proofs.Common.{◌≡◌, drop, greatest}
use Rattle.std.proofs.Common.{max}
use Rattle.dense_tables.proofs.max_tree.greatest.Given as goal

abbrev pub invariant-loop-number : goal.invariant-loop-number
invariant-loop-number l = max l.most (greatest (drop l.number-index l.numbers)) ≡ greatest l.numbers
