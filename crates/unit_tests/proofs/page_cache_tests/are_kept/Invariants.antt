use Rattle.std.proofs.Common.{◌≡◌}
use Rattle.unit_tests.proofs.page_cache_tests.are_kept.Given as goal

abbrev pub invariant-loop-page : goal.invariant-loop-page
invariant-loop-page l = l.cache.page_bytes ≡ 4
