use Rattle.std.proofs.Common.{◌≡◌, ◌<◌, length, rules, sym, ◌∙◌, eqb-true, eq-eqb, vec_len}
use Rattle.std.proofs.lemmas.Bool.{false≢true}
use Rattle.live_session.specs.declared.lines.TheConstants.{MAX_LINE_BYTES}
use Rattle.live_session.proofs.Reading.{reads_long, taken_feeds, takes_end, takes_line, takes_part}
use Rattle.live_session.proofs.lines.next_line.Goals as goal

pub returns-then-len-gt-MAX_LINE_BYTES-clause-takes :
    goal.returns-then-len-gt-MAX_LINE_BYTES-clause-takes
returns-then-len-gt-MAX_LINE_BYTES-clause-takes g c =
    let long : MAX_LINE_BYTES < length c.take_buffered.new.line.items = search rules in
    reads_long (g.B.Read.remaining c.args.input.now) (g.B.Read.remaining c.loop.input)
    (g.B.Read.remaining c.take_buffered.new.input) (g.B.Read.remaining c.read_over.new.input) c.loop.line.items
    c.take_buffered.new.line.items c.read_over.new.line.items c.in_ok-taken.taken c.read_over.result c.loop.invariant
    c.in_ok-taken.ensures long c.read_over.ensures.over

pub returns-in-WithFeed-clause-takes : goal.returns-in-WithFeed-clause-takes
returns-in-WithFeed-clause-takes g c =
    takes_line (g.B.Read.remaining c.args.input.now) (g.B.Read.remaining c.loop.input)
    (g.B.Read.remaining c.take_buffered.new.input) c.loop.line.items c.take_buffered.new.line.items
    c.in_ok-taken.taken c.loop.invariant c.in_ok-taken.ensures c.in-WithFeed.is (search rules)

pub returns-in-Nothing-clause-takes : goal.returns-in-Nothing-clause-takes
returns-in-Nothing-clause-takes g c =
    let line = c.take_buffered.new.line in
    let none : vec_len line ≡ 0 = eqb-true (vec_len line) 0 (sym c.if-is_empty.ensures) in
    let same : length line.items ≡ vec_len line = search rules in
    takes_end (g.B.Read.remaining c.args.input.now) (g.B.Read.remaining c.loop.input)
    (g.B.Read.remaining c.take_buffered.new.input) c.loop.line.items line.items c.in_ok-taken.taken c.loop.invariant
    c.in_ok-taken.ensures c.in-Nothing.is (same ∙ none)

pub returns-in-Nothing-2-clause-takes : goal.returns-in-Nothing-2-clause-takes
returns-in-Nothing-2-clause-takes g c =
    let line = c.take_buffered.new.line in
    let same : length line.items ≡ vec_len line = search rules in
    takes_part (g.B.Read.remaining c.args.input.now) (g.B.Read.remaining c.loop.input)
    (g.B.Read.remaining c.take_buffered.new.input) c.loop.line.items line.items c.in_ok-taken.taken c.loop.invariant
    c.in_ok-taken.ensures c.in-Nothing-2.is
    (λ none. false≢true (c.if-is_empty.ensures ∙ eq-eqb (vec_len line) 0 (sym same ∙ none)))

pub returns-in-WithFeed-clause-feeds : goal.returns-in-WithFeed-clause-feeds
returns-in-WithFeed-clause-feeds g c =
    taken_feeds (g.B.Read.remaining c.loop.input) (g.B.Read.remaining c.take_buffered.new.input) c.loop.line.items
    c.take_buffered.new.line.items c.in_ok-taken.taken c.loop.invariant.feeds c.in_ok-taken.ensures

pub returns-in-Nothing-clause-feeds : goal.returns-in-Nothing-clause-feeds
returns-in-Nothing-clause-feeds g c =
    taken_feeds (g.B.Read.remaining c.loop.input) (g.B.Read.remaining c.take_buffered.new.input) c.loop.line.items
    c.take_buffered.new.line.items c.in_ok-taken.taken c.loop.invariant.feeds c.in_ok-taken.ensures

pub returns-in-Nothing-2-clause-feeds : goal.returns-in-Nothing-2-clause-feeds
returns-in-Nothing-2-clause-feeds g c =
    taken_feeds (g.B.Read.remaining c.loop.input) (g.B.Read.remaining c.take_buffered.new.input) c.loop.line.items
    c.take_buffered.new.line.items c.in_ok-taken.taken c.loop.invariant.feeds c.in_ok-taken.ensures
