use Rattle.drive_gen.proofs.Common.{sym, ◌∙◌, ap, arith, lines_of, plus, tally_of}
use Rattle.drive_gen.proofs.TallyLemmas.{last_begin, some_small, tally_begin, tally_small}
use Rattle.drive_gen.proofs.tally.count_lines.Goals as goal

pub loop-line-init : goal.loop-line-init
loop-line-init c = record {
  tally = ap (λ t. plus t (tally_of (lines_of c.args.replies.now))) c.none-tally.ensures
      ∙ tally_begin (tally_of (lines_of c.args.replies.now));
  stats = last_begin (lines_of c.args.replies.now);
}

pub plus-tally-requires : goal.plus-tally-requires
plus-tally-requires c =
    rw c.tally_of.ensures
    (some_small c.loop-line.tally (tally_of (lines_of c.args.replies.now)) c.in-Some.line.now
    (lines_of c.in-Some.behind.now)
    (ap (λ lines. plus c.loop-line.tally (tally_of lines)) (sym c.in-Some.ensures.line) ∙ c.loop-line.invariant.tally)
    (tally_small c.args.replies.now (omega arith)))
