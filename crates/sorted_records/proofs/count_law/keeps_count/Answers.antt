use Rattle.sorted_records.proofs.count_law.keeps_count.Goals as goal

pub returns_after-requires-clause-place : goal.returns_after-requires-clause-place
returns_after-requires-clause-place c = rw c.name.ensures c.requires.own
