use Rattle.version_index.proofs.Common.{set, ap, sym, ◌∙◌, not, slots_of}
use Rattle.judged_records.specs.IndexState.{is_used_block}
use Rattle.flash_model.specs.Readings.{reads_blank_block}
use Rattle.version_index.proofs.OfOpening.ClosedBlocks.{stays_open}
use Rattle.version_index.proofs.filling.close_if_used.Goals as goal

pub are_blank-requires-clause-exists : goal.are_blank-requires-clause-exists
are_blank-requires-clause-exists c = rw c.requires.shape c.requires.exists

pub are_blank-requires-clause-seen : goal.are_blank-requires-clause-seen
are_blank-requires-clause-seen c = c.requires.seen ∙ ap slots_of (sym c.requires.shape)

pub returns-then-are_blank : goal.returns-then-are_blank
returns-then-are_blank c =
    let k = c.args.tables.now in
    let used = is_used_block k.shape c.args.seen.now c.args.block in
    stays_open k c.args.block used c.requires.not_closed
    (ap not (ap (λ s. reads_blank_block s c.args.seen.now c.args.block) (sym c.requires.shape)
    ∙ sym c.are_blank.ensures ∙ c.if-are_blank.true))

pub returns : goal.returns
returns c =
    let k = c.args.tables.now in
    c.set_closed.ensures
    ∙ ap (λ b. record k { closed = set k.closed c.args.block b })
    (sym (ap not (ap (λ s. reads_blank_block s c.args.seen.now c.args.block) (sym c.requires.shape)
    ∙ sym c.are_blank.ensures ∙ c.if-are_blank.false)))
