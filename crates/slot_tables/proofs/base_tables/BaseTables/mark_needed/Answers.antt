-- One number after the other, up to those that never had a record.
use Rattle.slot_tables.proofs.Common.{◌≡◌, length, refl, ◌∙◌, subst, arith, tables_state}
use Rattle.slot_tables.proofs.OfBaseTables.RefreshedAll.{AreHomes, one_more, marked_length, none_marked, homes_past, all_marked}
use Rattle.slot_tables.proofs.base_tables.BaseTables.mark_needed.Goals as goal

pub loop-number-init : goal.loop-number-init
loop-number-init c = (
  refl,
  c.requires.slots,
  none_marked (tables_state c.args.self.now) c.args.marks.now.marks
      c.requires.none,
)

pub mark_home-requires-clause-number : goal.mark_home-requires-clause-number
mark_home-requires-clause-number c =
    let low = c.loop-number-test.true in
    omega (
      arith,
      c.end-number-end.ensures.within,
      c.requires.sized.kept.slots,
      c.requires.sized.kept.records,
    )

pub loop-number-preserved : goal.loop-number-preserved
loop-number-preserved c =
    let k = tables_state c.args.self.now in
    let marks = c.loop-number.marks.marks in
    let (size, long, are) = c.loop-number.invariant in
    rw c.mark_home.ensures (
      size,
      marked_length k marks c.loop-number.number ∙ long,
      one_more k c.loop-number.number marks are long,
    )

pub returns : goal.returns
returns c =
    let k = tables_state c.args.self.now in
    let marks = c.loop-number.marks.marks in
    let (its_size, long, are) = c.loop-number.invariant in
    let end = c.end-number-end.result in
    let whole : c.loop-number.number ≡ end =
    omega (
      arith,
      c.loop-number-test.false,
      c.loop-number.auto.number-end,
    ) in
    record {
      size = its_size;
      slots = long;
      needed = all_marked k marks c.requires.sized.kept
          (homes_past k end (length k.slots) marks c.end-number-end.ensures.fresh
          (subst (λ n. AreHomes k n marks) whole are));
    }
