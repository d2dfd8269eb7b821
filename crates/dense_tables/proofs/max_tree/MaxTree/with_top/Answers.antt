use Rattle.dense_tables.proofs.Common.{◌≡◌, ℕ, ◌+◌, ◌-◌, ◌*◌, ◌/◌, replicate, length, rules, arith, length-replicate}
use Rattle.std.proofs.lemmas.List.{drop-replicate, take-replicate}
use Rattle.dense_tables.proofs.Tree.{zero_peaks}
use Rattle.dense_tables.proofs.Descent.{level_start_whole}
use Rattle.dense_tables.proofs.Filling.{zeros_filled}
use Rattle.dense_tables.proofs.max_tree.MaxTree.with_top.Goals as goal

pub invariant_of-result : goal.invariant_of-result
invariant_of-result c =
    let all = c.loop-start.start + (c.args.count + 15) / 16 * 16 in
    let items : c.in_ok-vec.field-0.items ≡ replicate (c.loop-start.start + (c.args.count + 15) / 16 * 16) 0 =
    search rules in
    let size : length c.in_ok-vec.field-0.items ≡ c.loop-start.start + (c.args.count + 15) / 16 * 16 =
    rw items (length-replicate {A = ℕ} all 0) in
    let rows = level_start_whole c.loop-start.levels c.loop-start.invariant.0 in
    record {
      shape = rw size (record {
        levels_least = c.loop-start.invariant.0;
        begins = c.loop-start.invariant.1;
        least = omega arith;
        most = omega (arith, c.loop-start.invariant.1, rows.1);
        small = omega arith;
      });
      top = c.requires.top;
      peaks = rw items (zero_peaks all c.args.top c.loop-start.start);
      filled = rw items (zeros_filled all (c.loop-start.start + c.args.count) (omega arith));
    }

pub returns : goal.returns
returns c =
    let all = c.loop-start.start + (c.args.count + 15) / 16 * 16 in
    let items : c.in_ok-vec.field-0.items ≡ replicate (c.loop-start.start + (c.args.count + 15) / 16 * 16) 0 =
    search rules in
    rw (items, drop-replicate {X = ℕ} c.loop-start.start all 0)
    (take-replicate {X = ℕ} c.args.count (all - c.loop-start.start) 0 (omega arith))
