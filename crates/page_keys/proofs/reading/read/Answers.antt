use Rattle.page_keys.proofs.Common.{false, inl, inr, true, ◌≡◌, replicate, length, sym, ◌∙◌}
use Rattle.page_keys.proofs.OfBucket.EntryLists.{not_in_page}
use Rattle.page_keys.proofs.OfPut.EntriesLeft.{unread, astray, no_zeros_left, all_read}
use Rattle.page_keys.proofs.reading.read.Goals as goal
use Rattle.page_keys.proofs.reading.read.Goals.{then-bucket-page-via-then-bucket-page, then-bucket-page-via-else-bucket-page+then-not-is_above}
use Rattle.page_keys.proofs.reading.read.Goals.{then-entries-test+else-rest-ne0, else-entries-test}

apart : ¬ (true ≡ false)
apart h = cc

pub returns-in_default-clause-no : goal.returns-in_default-clause-no
returns-in_default-clause-no c is =
    let i = c.entries.invariant in
    unread c.args.logical c.args.page c.args.bytes.now c.entries.rest.now c.entries.into.items
    i.split i.each c.if-rest-ne0.true
    (λ e entry same. c.in_default.ensures.none e entry (c.split_at.ensures.front ∙ same))

pub returns-then-bucket-page-clause-no : goal.returns-then-bucket-page-clause-no
returns-then-bucket-page-clause-no c is =
    let i = c.entries.invariant in
    let read = c.in-Some.ensures.some in
    let wrong = astray c.args.logical c.args.page c.args.bytes.now c.entries.rest.now
    c.entries.into.items i.split i.each c.if-rest-ne0.true (c.in-Some.key, c.in-Some.value)
    read.1 (sym c.split_at.ensures.front ∙ read.0) in
    elim c.then-bucket-page.branch [
      | then-bucket-page-via-then-bucket-page w ↦
          wrong (inl (not_in_page c.args.logical c.args.page c.bucket.result c.as_slice.result.now
          c.in-Some.key c.as_slice.ensures.bytes c.bucket.ensures.bucket w.if-bucket-page.true))
      | then-bucket-page-via-else-bucket-page+then-not-is_above w ↦
          let told = w.is_above.ensures c.in-Some.value in
          let parts = rw (w.deref.ensures.value, w.as_slice-else-bucket-page.ensures.bytes) at told in
          wrong (inr (sym parts ∙ w.if-not-is_above.true))
    ]

pub returns-clause-yes : goal.returns-clause-yes
returns-clause-yes c is =
    let i = c.entries.invariant in
    let zeros : c.all_zero.result ≡ true = cc in
    all_read c.args.logical c.args.page c.args.bytes.now c.entries.rest.now c.entries.into.items
    i.split i.each (c.all_zero.ensures.0 zeros) i.its

pub returns-clause-no : goal.returns-clause-no
returns-clause-no c is =
    let i = c.entries.invariant in
    let not_zeros : c.all_zero.result ≡ false = cc in
    let wrong = no_zeros_left c.args.logical c.args.page c.args.bytes.now c.entries.rest.now
    c.entries.into.items i.split i.each in
    let rest = c.entries.rest.now in
    let other : ¬ (rest ≡ replicate (length rest) 0) =
    λ h. apart (sym (c.all_zero.ensures.1 h) ∙ not_zeros) in
    elim c.entries-test.branch [
      | then-entries-test+else-rest-ne0 w ↦ wrong (inl w.if-rest-ne0.false) other
      | else-entries-test w ↦ wrong (inr w.entries-test.false) other
    ]
