use Rattle.host_protocol.proofs.Common.{sym}
use Rattle.host_protocol.proofs.WordLemmas.{word_first, word_none}
use Rattle.host_protocol.proofs.words.first_word.Goals as goal

pub returns-in_err-start-clause-none : goal.returns-in_err-start-clause-none
returns-in_err-start-clause-none c = rw c.from_residual.ensures (word_none c.args.line.now (sym c.in_err-start.ensures))

pub returns-clause-word : goal.returns-clause-word
returns-clause-word c =
    rw (c.split_at.ensures.front, c.split_at.ensures.back)
    (word_first c.args.line.now c.in_ok-start.start c.unwrap_or-end.result (sym c.in_ok-start.ensures)
    (rw c.first_blank.ensures at c.unwrap_or-end.ensures))
