use Rattle.drive_gen.proofs.Common.{[], ◌∷◌, ap, sym, codes, lines_of, last_stats}
use Rattle.std.specs.Fmt.{decimal}
use Rattle.host_protocol.specs.Replies.{line_of}
use Rattle.drive_gen.specs.Summary.{asked_words, count_words, flash_words, spaced, sum_of_pages, sum_words, summary_line}
use Rattle.drive_gen.specs.Tally.{tally_words}
use Rattle.drive_gen.proofs.Texts.{and_then, with_piece}
use Rattle.drive_gen.proofs.TextLemmas.{line_parts}
use Rattle.drive_gen.proofs.line.add_counted.Goals as goal

pub returns : goal.returns
unfolding summary_line
returns c = λ replies counted.
    let old = c.args.line.now.items in
    let asked = asked_words c.args.start c.args.count c.args.protocol c.args.commands in
    let parts = line_parts asked (count_words replies) (flash_words (last_stats (lines_of replies)))
    (codes "sum") (decimal (sum_of_pages replies) ∷ []) in
    with_piece old _ _ _ _ (sym parts)
    (and_then old _ _ _ _ _ _ _
    (and_then old _ _ _ _ _ _ _
    (and_then old _ _ _ _ _ _ _ c.add_asked.ensures
    (with_piece _ _ _ _ _ (ap (λ t. spaced (tally_words t)) counted.counts) c.add_counts.ensures)
    c.and.ensures)
    (with_piece _ _ _ _ _ (ap (λ s. spaced (flash_words s)) counted.last) c.add_flash.ensures)
    c.and-2.ensures)
    (with_piece _ _ _ _ _ (ap (λ t. line_of (sum_words t.sum)) counted.counts) c.add_sum.ensures)
    c.and-3.ensures)
