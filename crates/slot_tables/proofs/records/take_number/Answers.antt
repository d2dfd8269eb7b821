use Rattle.slot_tables.proofs.Common.{inl, inr, refl, sym}
use Rattle.slot_tables.proofs.records.take_number.Goals as goal

pub returns-in-Some : goal.returns-in-Some
returns-in-Some c = inl (rw c.in-Some.is at c.first.ensures.listed, c.remove.ensures.without, refl)

pub returns-in-None : goal.returns-in-None
returns-in-None c = inr (sym (rw c.in-None.is at c.first.ensures.order), refl, refl, refl)
