use Rattle.host_protocol.proofs.Common.{rules, sym, ap, ◌∙◌, refl, length, ◌<◌, ◌+◌, ◌≡◌, [], drop, eqb-true, lines_of}
use Rattle.std.proofs.Math.Seq.{drop-length}
use Rattle.host_protocol.proofs.LineLemmas.{line_first, line_last, lines_none}
use Rattle.host_protocol.proofs.PartLemmas.{rest_is}
use Rattle.host_protocol.proofs.lines.first_line.Goals as goal

pub returns-then-is_empty-clause-none : goal.returns-then-is_empty-clause-none
returns-then-is_empty-clause-none c = lines_none c.args.bytes.now
    (eqb-true (length c.args.bytes.now) 0 (sym c.if-is_empty.ensures))

pub returns-in-Some-clause-line : goal.returns-in-Some-clause-line
returns-in-Some-clause-line c =
    rw (c.without_return.ensures, rest_is (c.in-Some.end + 1) c.args.bytes.now)
    (line_first c.args.bytes.now c.in-Some.end (sym c.in-Some.ensures))

pub returns-in-None-clause-line : goal.returns-in-None-clause-line
returns-in-None-clause-line c =
    let some : 0 < length c.args.bytes.now = search rules in
    let none : lines_of (drop (length c.args.bytes.now) c.args.bytes.now) ≡ [] =
    ap lines_of (drop-length c.args.bytes.now) ∙ lines_none [] refl in
    rw (
      c.without_return-in-None.ensures,
      rest_is (length c.args.bytes.now) c.args.bytes.now,
      none,
    ) (line_last c.args.bytes.now some (sym c.in-None.ensures))
