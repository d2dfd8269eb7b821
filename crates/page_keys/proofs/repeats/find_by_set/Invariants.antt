use Rattle.page_keys.proofs.Common.{◌≡◌, ℕ, List, [], take, drop, list_any, is_eq, nat_cmp, has_key, repeated}
use Rattle.std.specs.Cmp.Lexicographic.{slice_cmp}
use Rattle.page_keys.proofs.repeats.find_by_set.Given as goal

abbrev pub invariant-loop-i : goal.invariant-loop-i
invariant-loop-i l = record {
  left : repeated [] l.changes ≡ repeated (take l.i l.changes) (drop l.i l.changes);
  keys : (q : List ℕ) →
      list_any (λ k. is_eq (slice_cmp nat_cmp q k.now)) l.keys.keys
      ≡ list_any (has_key q) (take l.i l.changes);
}
