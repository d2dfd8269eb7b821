use Rattle.drive_gen.proofs.Common.{◌≡◌, drop, words_of}
use Rattle.drive_gen.proofs.words.word_at.Given as goal

abbrev pub invariant-loop-passed : goal.invariant-loop-passed
invariant-loop-passed l = drop l._passed (words_of l.line) ≡ words_of l.rest
