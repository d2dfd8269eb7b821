-- At first all slots are blank.
mod FirstTables
use Rattle.slot_tables.proofs.Common.{arith}
use Rattle.std.proofs.Common.{rules}
use Rattle.slot_tables.proofs.tables_builder.TablesBuilder.new.Answers.FirstTables.{first_filling}
use Rattle.slot_tables.proofs.tables_builder.TablesBuilder.new.Goals as goal

pub new-requires-clause-small : goal.new-requires-clause-small
new-requires-clause-small c = rw c.blocks-2.ensures (omega (arith, c.requires.shape.slots_most))

pub invariant_of-result : goal.invariant_of-result
invariant_of-result c =
    first_filling c.args.shape c.args.logical c.requires.shape c.requires.pages _ (search rules) (search rules)
    (search rules) (search rules)
