use Rattle.std.proofs.Common.{◌+◌, arith}
use Rattle.list_lemmas.proofs.Bytes.{IsBytes-all}
use Rattle.zero_count.proofs.TornLemmas.{torn_over}
use Rattle.live_image.proofs.Reading.{torn_reads, torn_counted, written_complete, damaged_by_last, erased_blank}
use Rattle.live_image.proofs.theorems.torn_slots_read.Goals as goal

pub returns-clause-over : goal.returns-clause-over
returns-clause-over c = λ page_bytes slot left all least most sound torn.
    torn_reads page_bytes slot left (torn_over slot left (IsBytes-all slot all) torn) least most sound

pub returns-clause-counted : goal.returns-clause-counted
returns-clause-counted c = λ slot left all least most sound torn.
    torn_counted 0 slot left (torn_over slot left (IsBytes-all slot all) torn) least most sound

pub returns-clause-complete : goal.returns-clause-complete
returns-clause-complete c = λ page_bytes bytes spare_area whole most.
    written_complete page_bytes bytes spare_area whole (omega arith)

pub returns-clause-damage : goal.returns-clause-damage
returns-clause-damage c = damaged_by_last

pub returns-clause-blank : goal.returns-clause-blank
returns-clause-blank c = λ page_bytes most. erased_blank page_bytes (page_bytes + 64)
