-- Where all marks are the same, each group has all of its places or none.
use Rattle.slot_tables.proofs.Common.{◌≡◌, ℕ, ◌*◌, ◌<◌, Bool, length, replicate, refl, ◌∙◌, arith, get_or-replicate, length-replicate, marked_in}
use Rattle.slot_tables.proofs.OfLiveSlots.Tallying.{marked_all, marked_none}
use Rattle.slot_tables.proofs.block_counts.BlockCounts.new.Goals as goal
use Rattle.slot_tables.proofs.block_counts.BlockCounts.new.Goals.{then-mark, else-mark}

pub invariant_of-result : goal.invariant_of-result
invariant_of-result c =
    let marks = c.in_ok-vec.ensures.items_if_clones_equal (λ y same. same) in
    let counts = c.in_ok-vec-2.ensures.items_if_clones_equal (λ y same. same) in
    let size = c.args.size in
    let groups = c.args.groups in
    let long : length c.in_ok-vec-2.field-0.items ≡ groups =
    rw counts (length-replicate {A = ℕ} groups c.if-mark.count) in
    let whole : length c.in_ok-vec.field-0.items ≡ groups * size =
    rw marks (length-replicate {A = Bool} (groups * size) c.args.mark) in
    record {
      size = rw c.new.ensures c.requires.size;
      groups = rw (c.new.ensures, long) whole;
      small = omega (arith, whole, c.requires.small);
      counts = λ group low.
          let lies : group < groups = omega (arith, low, long) in
          rw (c.new.ensures, marks, counts) (get_or-replicate {A = ℕ} groups group c.if-mark.count 0 lies
          ∙ count_is group lies);
    }
  where
    count_is : (group : ℕ) → group < c.args.groups
        → c.if-mark.count ≡ marked_in (replicate (c.args.groups * c.args.size) c.args.mark) c.args.size group
    count_is group lies = elim c.if-mark.branch [
      | then-mark w ↦ rw (w.count-is, w.if-mark.true, marked_all c.args.groups c.args.size group lies) refl
      | else-mark w ↦ rw (w.count-is, w.if-mark.false, marked_none c.args.groups c.args.size group lies) refl
    ]
