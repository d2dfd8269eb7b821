-- A record with one copy at most has the same home by any spare.
use Rattle.slot_tables.proofs.Common.{sym, ◌∙◌, copies_of, is_outside_spare, tables_state}
use Rattle.slot_tables.proofs.OfSlots.Leaving.{chosen_first}
use Rattle.slot_tables.proofs.base_tables.BaseTables.stands_once.Goals as goal

pub returns-in-Some : goal.returns-in-Some
returns-in-Some c = λ is older.
    let k = tables_state c.args.self.now in
    let copies = copies_of k.slots c.in-Some.number in
    rw c.in-Some.is
    (chosen_first (is_outside_spare k.shape older) copies (c.is_single.ensures is)
    ∙ sym (chosen_first (is_outside_spare k.shape k.spare) copies (c.is_single.ensures is)))
