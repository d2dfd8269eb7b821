use Rattle.drive_gen.proofs.Common.{◌≡◌, ◌+◌, map, range_with_len, generator_after, drawn_write}
use Rattle.drive_gen.proofs.transaction.draw_batch.Given as goal

abbrev pub invariant-loop-k : goal.invariant-loop-k
invariant-loop-k l = record {
  size : l.batch.page_bytes ≡ l.config.page_bytes;
  entries : l.batch.entries ≡ map (drawn_write l.config l.fn.generator.state) (range_with_len 0 l.k);
  state : l.generator.state ≡ generator_after l.fn.generator.state (l.k + 2);
}
