use Rattle.host_protocol.proofs.Common.{◌≡◌, ◌+◌, length, ap, ◌∙◌, take, arith, Err, entries_in, lines_of}
use Rattle.std.specs.Option.{option_to_list}
use Rattle.std.proofs.lemmas.List.Sums.{sum_by-append}
use Rattle.list_lemmas.proofs.Lists.{next, take_to_end}
use Rattle.host_protocol.proofs.FileLemmas.{add_line, first_bad, ends}
use Rattle.host_protocol.proofs.file.add_commands.Goals as goal

pub returns-in-Err-clause-line : goal.returns-in-Err-clause-line
returns-in-Err-clause-line c =
    let here = next (lines_of c.args.bytes.now) c.loop-line.number c.in-Some.line.now (lines_of c.in-Some.behind.now)
    (c.loop-line.invariant.lines ∙
    c.in-Some.ensures.line) in
    let count : c.len-before.result ≡ length c.loop-line.commands.items = c.len-before.ensures
    ∙ c.loop-line.commands.ok.0 in
    rw c.at.ensures (ends c.args.page_bytes c.args.bytes.now (c.loop-line.number + 1) c.in-Err.e (λ bad.
    let none = rw count at (c.in-Err.ensures.bad (ap Err bad)) in
    first_bad c.args.page_bytes c.args.bytes.now c.loop-line.number c.in-Some.line.now
    (lines_of c.in-Some.behind.now) c.loop-line.commands.items c.loop-line.entries_left
    here none c.loop-line.invariant.entries_left c.loop-line.invariant.good))

pub loop-line-preserved : goal.loop-line-preserved
loop-line-preserved c =
    let here = next (lines_of c.args.bytes.now) c.loop-line.number c.in-Some.line.now (lines_of c.in-Some.behind.now)
    (c.loop-line.invariant.lines ∙
    c.in-Some.ensures.line) in
    let count : c.len-before.result ≡ length c.loop-line.commands.items = c.len-before.ensures
    ∙ c.loop-line.commands.ok.0 in
    record {
      lines = here.behind;
      good = rw (here.front, c.in_ok-keep-in-Ok.ensures.commands)
          (add_line c.args.page_bytes (take c.loop-line.number (lines_of c.args.bytes.now)) c.in-Some.line.now
          c.loop-line.commands.items
          c.loop-line.entries_left c.in-Ok.found
          c.in-Ok.ensures.idle (rw count at c.in-Ok.ensures.command) c.loop-line.invariant.entries_left
          c.loop-line.invariant.good);
      entries_left =
          let taken = c.in_ok-keep-in-Ok.ensures.entries_left in
          let left = c.loop-line.invariant.entries_left in
          rw (
            c.in_ok-keep-in-Ok.ensures.commands,
            sum_by-append entries_in c.loop-line.commands.items
                (option_to_list c.in-Ok.found),
          ) (omega arith);
      short = let shorter = c.in-Some.ensures.shorter in omega arith;
    }

-- at the end of the bytes all lines are read
pub returns-clause-file : goal.returns-clause-file
returns-clause-file c = rw (take_to_end (lines_of c.args.bytes.now) c.loop-line.number (c.loop-line.invariant.lines ∙
    c.in_default.ensures.none)) at c.loop-line.invariant.good
