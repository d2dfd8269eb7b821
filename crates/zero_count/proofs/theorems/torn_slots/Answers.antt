use Rattle.std.proofs.Common.{arith}
use Rattle.list_lemmas.proofs.Bytes.{IsBytes-all}
use Rattle.zero_count.proofs.TornLemmas.{fewer, torn_over, torn_back}
use Rattle.zero_count.proofs.WholeLemmas.{torn_whole}
use Rattle.zero_count.proofs.theorems.torn_slots.Goals as goal

pub returns-clause-fewer : goal.returns-clause-fewer
returns-clause-fewer c = λ slot left all least torn.
    fewer slot left (torn_over slot left (IsBytes-all slot all) torn) least

pub returns-clause-program : goal.returns-clause-program
returns-clause-program c = λ own left all few torn whole. torn_whole own left (IsBytes-all own all) few torn whole

pub returns-clause-erase : goal.returns-clause-erase
returns-clause-erase c = λ own left all few torn whole.
    torn_whole own left (IsBytes-all own all) few (torn_back _ _ left torn) whole

pub returns-clause-under : goal.returns-clause-under
returns-clause-under c = λ slot left all least under torn.
    let f = fewer slot left (torn_over slot left (IsBytes-all slot all) torn) least in
    omega (arith, f.falls, f.rises, under)
