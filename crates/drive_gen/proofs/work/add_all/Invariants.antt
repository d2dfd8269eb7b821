use Rattle.drive_gen.proofs.Common.{◌≡◌, ◌++◌}
use Rattle.drive_gen.specs.Parts.{left_of, parts_left}
use Rattle.drive_gen.proofs.work.add_all.Given as goal

abbrev pub invariant-loop : goal.invariant-loop
invariant-loop l = record {
  gives : l.list.items ++ left_of l.work ≡ l.initial.list.items ++ left_of l.initial.work;
  config : l.work.config ≡ l.initial.work.config;
}

abbrev pub decreases-loop : goal.decreases-loop
decreases-loop l = parts_left l.work
