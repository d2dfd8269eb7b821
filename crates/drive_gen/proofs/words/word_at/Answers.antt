use Rattle.drive_gen.proofs.Common.{◌∙◌, words_of}
use Rattle.list_lemmas.proofs.Lists.{next}
use Rattle.drive_gen.proofs.words.word_at.Goals as goal

pub loop-passed-preserved : goal.loop-passed-preserved
loop-passed-preserved c =
    (next (words_of c.args.line.now) c.loop-passed._passed c.in-Some.field-0-0.now (words_of c.in-Some.behind.now)
    (c.loop-passed.invariant ∙
    c.in-Some.ensures.word)).behind
