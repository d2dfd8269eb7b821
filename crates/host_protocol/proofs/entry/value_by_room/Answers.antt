use Rattle.host_protocol.proofs.EntryLemmas.{digits_value, digits_within}
use Rattle.host_protocol.proofs.entry.value_by_room.Goals as goal

pub returns-then-is_read-clause-value : goal.returns-then-is_read-clause-value
returns-then-is_read-clause-value c =
    rw c.deref.ensures.value
    (digits_value c.args.page_bytes c.args.text.now c.args.room.now.items (c.requires c.if-is_read.true))

pub returns-then-is_read-clause-within : goal.returns-then-is_read-clause-within
returns-then-is_read-clause-within c =
    rw c.deref.ensures.value
    (digits_within c.args.page_bytes c.args.text.now c.args.room.now.items (c.requires c.if-is_read.true))
