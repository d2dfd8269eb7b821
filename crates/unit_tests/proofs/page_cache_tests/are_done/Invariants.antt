use Rattle.std.proofs.Common.{◌≡◌}
use Rattle.unit_tests.proofs.page_cache_tests.are_done.Given as goal

abbrev pub invariant-loop-line : goal.invariant-loop-line
invariant-loop-line l = l.cache.page_bytes ≡ 4
