mod ReadingLemmas
use Rattle.host_protocol.proofs.Common.{◌≡◌, refl, sym, rules, arith, length-append, err_from_is_err_and, page_value, page_write_of, words_of, Bad}
use Rattle.host_protocol.proofs.line.add_entries.Answers.ReadingLemmas.{none_where_bad, other_among, more_than, read_more}
use Rattle.host_protocol.proofs.line.add_entries.Goals as goal

pub returns-in_err-page-clause-bad : goal.returns-in_err-page-clause-bad
returns-in_err-page-clause-bad c = λ is writes same.
    let begins = c.in_err-page.ensures.bad refl in
    absurd (other_among (page_write_of c.args.page_bytes) (words_of c.args.words.now) c.loop-page.batch.entries
    (words_of c.loop-page.rest.now) begins.word begins.others
    c.loop-page.invariant.read begins.words (begins.none c.args.page_bytes) writes same)

pub returns-then-len-entries_left-clause-bad : goal.returns-then-len-entries_left-clause-bad
returns-then-len-entries_left-clause-bad c = λ is writes same.
    let begins = rw c.in-Some.is at c.in_ok-page.ensures.entry in
    more_than (page_write_of c.args.page_bytes) (words_of c.args.words.now) c.loop-page.batch.entries
    (words_of c.loop-page.rest.now) begins.word
    (words_of c.in-Some.behind.now)
    c.loop-page.invariant.read begins.words c.args.entries_left
    (omega (arith, c.if-len-entries_left.true, c.len.ensures)) writes same

pub returns-in_err-bytes-clause-bad : goal.returns-in_err-bytes-clause-bad
returns-in_err-bytes-clause-bad c = λ is writes same.
    let p = err_from_is_err_and c.from_residual-in_err-bytes.result c.from_residual-in_err-bytes.ensures.1 in
    let whole = rw (p.1, p.2) at is in
    let bad : c.in_err-bytes.field-0.0 ≡ Bad = cc in
    let begins = rw c.in-Some.is at c.in_ok-page.ensures.entry in
    let none = none_where_bad c.in_err-bytes.field-0.0 (page_value c.args.page_bytes c.in-Some.text.now) bad
    c.in_err-bytes.ensures.value in
    absurd (other_among (page_write_of c.args.page_bytes) (words_of c.args.words.now) c.loop-page.batch.entries
    (words_of c.loop-page.rest.now) begins.word
    (words_of c.in-Some.behind.now)
    c.loop-page.invariant.read begins.words (rw none at (begins.write c.args.page_bytes)) writes same)

pub loop-page-preserved-in_ok-add-in-Some-2 : goal.loop-page-preserved-in_ok-add-in-Some-2
loop-page-preserved-in_ok-add-in-Some-2 c =
    let begins = rw c.in-Some.is at c.in_ok-page.ensures.entry in
    let held = rw c.in-Some-2.is at c.in_ok-bytes.ensures.value in
    let wrote = rw held at (begins.write c.args.page_bytes) in
    rw (c.in_ok-add-in-Some-2.ensures.ok, c.loop-page.invariant.size) (record {
      size = refl;
      read = read_more (page_write_of c.args.page_bytes) (words_of c.args.words.now) c.loop-page.batch.entries
          (words_of c.loop-page.rest.now) begins.word
          (words_of c.in-Some.behind.now) c.loop-page.invariant.read begins.words _ wrote;
      most = simp length-append (omega (arith, c.if-len-entries_left.false, c.len.ensures));
    })
