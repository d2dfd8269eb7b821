use Rattle.page_keys.proofs.Common.{◌∙◌, ap, is_lt}
use Rattle.page_keys.proofs.OfPut.EntriesLeft.{follows, less_index}
use Rattle.page_keys.proofs.reading.is_above.Goals as goal

pub returns-in-len1-up : goal.returns-in-len1-up
returns-in-len1-up c value =
    follows c.args.entries.now c.last-item.result c.as_slice.result.now c.args.key.now value _
    c.in-len1-up.len_at_least c.last-item.is c.requires c.as_slice.ensures.bytes
    (c.eq.ensures ∙ less_index c.cmp.result ∙ ap is_lt c.cmp.ensures)
