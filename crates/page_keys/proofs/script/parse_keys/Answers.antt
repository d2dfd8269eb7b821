use Rattle.page_keys.proofs.Common.{◌≡◌, ◌+◌, ◌<◌, length, ap, ◌∙◌, take, arith, Err, lines_of}
use Rattle.std.proofs.Common.{◌^◌}
use Rattle.list_lemmas.proofs.Lists.{next, take_to_end}
use Rattle.page_keys.specs.Scripts.{IsScript}
use Rattle.page_keys.specs.ScriptReading.{EndsAt}
use Rattle.page_keys.proofs.OfParse.ScriptLemmas.{add_line, add_suits, first_bad, script_bad, script_same, only_memory, only_first, ends, line_short}
use Rattle.page_keys.proofs.script.parse_keys.Goals as goal

-- where a line was bad, the reading ends at it
ended : (c : goal.After-drop-commands-in-Err) → EndsAt c.args.bytes.now c.at.result
ended c =
    let here = next (lines_of c.args.bytes.now) c.loop-line.number c.in-Some.line.now
    (lines_of c.in-Some.behind.now) (c.loop-line.invariant.lines ∙ c.in-Some.ensures.line) in
    let count : c.len.result ≡ length c.loop-line.commands.items =
    c.len.ensures ∙ c.loop-line.commands.ok.0 in
    rw c.at.ensures (ends c.args.bytes.now (c.loop-line.number + 1) c.in-Err.e (λ bad.
    let none = rw count at (c.in-Err.ensures.bad (ap Err bad)) in
    first_bad c.args.bytes.now c.loop-line.number c.in-Some.line.now
    (lines_of c.in-Some.behind.now) c.loop-line.commands.items here none
    c.loop-line.invariant.good))

pub returns-in-Err-clause-line : goal.returns-in-Err-clause-line
returns-in-Err-clause-line c = ended c

pub returns-in-Err-clause-only : goal.returns-in-Err-clause-only
returns-in-Err-clause-only c = λ commands script.
    only_memory c.args.bytes.now c.at.result commands (ended c) script

pub returns-in-Err-clause-first : goal.returns-in-Err-clause-first
returns-in-Err-clause-first c = λ n bad. only_first c.args.bytes.now c.at.result n (ended c) bad

pub loop-line-preserved : goal.loop-line-preserved
loop-line-preserved c =
    let here = next (lines_of c.args.bytes.now) c.loop-line.number c.in-Some.line.now
    (lines_of c.in-Some.behind.now) (c.loop-line.invariant.lines ∙ c.in-Some.ensures.line) in
    let count : c.len.result ≡ length c.loop-line.commands.items =
    c.len.ensures ∙ c.loop-line.commands.ok.0 in
    let adds = rw count at c.in-Ok.ensures.command in
    let short = line_short c.loop-line.rest.now c.in-Some.line.now
    (lines_of c.in-Some.behind.now) c.in-Some.ensures.line in
    let few : length c.in-Some.line.now < 2 ^ 32 =
    omega (arith, short, c.loop-line.invariant.short, c.requires) in
    record {
      lines = here.behind;
      good = rw (here.front, c.in_ok-keep-in-Ok.ensures)
          (add_line (take c.loop-line.number (lines_of c.args.bytes.now)) c.in-Some.line.now
          c.loop-line.commands.items c.in-Ok.found c.in-Ok.ensures.idle adds
          c.loop-line.invariant.good);
      suits = rw c.in_ok-keep-in-Ok.ensures
          (add_suits c.in-Some.line.now (length c.in-Some.line.now) c.loop-line.commands.items
          c.in-Ok.found adds c.in-Ok.ensures.few few c.loop-line.invariant.suits);
      short = let shorter = c.in-Some.ensures.shorter in omega arith;
    }

-- at the end of the bytes all lines are read
whole : (c : goal.In_default) → IsScript c.args.bytes.now c.loop-line.commands.items
whole c =
    rw (take_to_end (lines_of c.args.bytes.now) c.loop-line.number
    (c.loop-line.invariant.lines ∙ c.in_default.ensures.none)) at c.loop-line.invariant.good

pub returns-clause-script : goal.returns-clause-script
returns-clause-script c = whole c

pub returns-clause-only : goal.returns-clause-only
returns-clause-only c = λ commands script.
    script_same c.args.bytes.now c.loop-line.commands.items commands (whole c) script

pub returns-clause-first : goal.returns-clause-first
returns-clause-first c = λ n bad.
    script_bad c.args.bytes.now c.loop-line.commands.items n (whole c) bad
