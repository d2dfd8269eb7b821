-- The last record of a page is its newest.
use Rattle.sorted_records.proofs.Common.{true, false, Some, None, length, sym, ap, ◌∙◌, cond-true, cond-false, eq-eqb, ne_eqb, lt-ltb, le-ltb, nat_lt, ◌==◌, newest, record_at}
use Rattle.std.proofs.Common.{◌&&◌}
use Rattle.std.proofs.lemmas.Bool.{and_from}
use Rattle.sorted_records.specs.SortedRecords.{newest_target}
use Rattle.sorted_records.proofs.OfGroup.Readings.{last_newest}
use Rattle.sorted_records.proofs.walks.newest_target.Goals as goal

pub returns-then-place-records : goal.returns-then-place-records
returns-then-place-records c =
    let l = c.args.records.now in
    let place = c.in_ok-at.at in
    let newest_here = newest l (record_at l place).page == (record_at l place).version in
    sym (ap (newest_target l) c.in_ok-at.was
    ∙ cond-false (nat_lt place (length l) && newest_here) (Some place) None
    (ap (λ b. b && newest_here) (le-ltb place (length l) c.if-place-records.true)))

pub returns-then-is_last_of_page : goal.returns-then-is_last_of_page
returns-then-is_last_of_page c =
    let l = c.args.records.now in
    let place = c.in_ok-at.at in
    let within = c.if-place-records.false in
    let newest_here = newest l (record_at l place).page == (record_at l place).version in
    let last = last_newest l c.requires.order place within (c.is_last_of_page.ensures c.if-is_last_of_page.true) in
    c.in_ok-at.was
    ∙ sym (ap (newest_target l) c.in_ok-at.was
    ∙ cond-true (nat_lt place (length l) && newest_here) (Some place) None
    (and_from (nat_lt place (length l)) newest_here (lt-ltb place (length l) within)
    (eq-eqb (newest l (record_at l place).page) (record_at l place).version last)))

pub returns-then-version-rec : goal.returns-then-version-rec
returns-then-version-rec c =
    let l = c.args.records.now in
    let place = c.in_ok-at.at in
    let within = c.if-place-records.false in
    let newest_here = newest l (record_at l place).page == (record_at l place).version in
    c.in_ok-at.was
    ∙ sym (ap (newest_target l) c.in_ok-at.was
    ∙ cond-true (nat_lt place (length l) && newest_here) (Some place) None
    (and_from (nat_lt place (length l)) newest_here (lt-ltb place (length l) within)
    (eq-eqb (newest l (record_at l place).page) (record_at l place).version
    (sym c.newest-version.ensures ∙ c.if-version-rec.true))))

pub returns-else-version-rec : goal.returns-else-version-rec
returns-else-version-rec c =
    let l = c.args.records.now in
    let place = c.in_ok-at.at in
    let within = c.if-place-records.false in
    let newest_here = newest l (record_at l place).page == (record_at l place).version in
    sym (ap (newest_target l) c.in_ok-at.was
    ∙ cond-false (nat_lt place (length l) && newest_here) (Some place) None
    (ap (λ b. b && newest_here) (lt-ltb place (length l) within)
    ∙ ne_eqb (newest l (record_at l place).page) (record_at l place).version
    (λ same. c.if-version-rec.false (c.newest-version.ensures ∙ same))))
