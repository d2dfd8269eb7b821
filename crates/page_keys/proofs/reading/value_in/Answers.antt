use Rattle.page_keys.proofs.Common.{refl, ap, sym, ◌∙◌, ◌≡◌, ◌∷◌, Some, Pair, value_of}
use Rattle.page_keys.proofs.OfBucket.Spelling.{entry_equal}
use Rattle.page_keys.proofs.OfPut.EntriesLeft.{first_entry, none_left, none_short, found_first, found_later, same_bytes, other_bytes}
use Rattle.page_keys.proofs.reading.value_in.Goals as goal

pub returns-in_err-found-clause-gives : goal.returns-in_err-found-clause-gives
returns-in_err-found-clause-gives c pairs holds =
    let found = c.entries.invariant.finds pairs holds in
    let one = first_entry c.entries.rest.now found.0 found.1 found.2 c.if-rest-ne0.true in
    absurd (c.in_err-found.ensures.none one.one one.is (c.split_at.ensures.front ∙ one.here))

pub returns-then-eq-clause-gives : goal.returns-then-eq-clause-gives
returns-then-eq-clause-gives c pairs holds =
    let found = c.entries.invariant.finds pairs holds in
    let one = first_entry c.entries.rest.now found.0 found.1 found.2 c.if-rest-ne0.true in
    let read = c.in_ok-found.ensures.some in
    let e : Pair = (c.in_ok-found.found, c.in_ok-found.value) in
    let its : one.one ≡ e =
    entry_equal one.one e one.is read.1 (sym one.here ∙ sym c.split_at.ensures.front ∙ read.0) in
    let key = sym c.as_slice.ensures.bytes
    ∙ same_bytes c.as_slice.result.now c.args.key.now c.eq.result c.eq.ensures c.if-eq.true in
    let value : value_of c.args.key.now pairs ≡ Some c.in_ok-found.value =
    found.3 ∙ ap (value_of c.args.key.now) one.parts
    ∙ ap (λ (x : Pair). value_of c.args.key.now (x ∷ one.others)) its
    ∙ found_first c.args.key.now e one.others key in
    rw (value, ← c.as_slice-then-eq.ensures.bytes, ← c.entries.invariant.same, c.copy.ensures.gives.0)
    (refl, rw (← c.copy.ensures.gives.0) c.copy.ensures.gives.1)

pub entries-preserved : goal.entries-preserved
entries-preserved c = record {
  same = c.entries.invariant.same;
  finds = λ pairs holds.
      let found = c.entries.invariant.finds pairs holds in
      let one = first_entry c.entries.rest.now found.0 found.1 found.2 c.if-rest-ne0.true in
      let read = c.in_ok-found.ensures.some in
      let e : Pair = (c.in_ok-found.found, c.in_ok-found.value) in
      let its : one.one ≡ e =
      entry_equal one.one e one.is read.1
      (sym one.here ∙ sym c.split_at.ensures.front ∙ read.0) in
      let other = other_bytes c.as_slice.result.now c.args.key.now c.eq.result c.eq.ensures
      c.if-eq.false in
      let apart : ¬ (one.one.0 ≡ c.args.key.now) =
      λ h. other (c.as_slice.ensures.bytes ∙ sym (ap (λ (x : Pair). x.0) its) ∙ h) in (
        one.others,
        found.1,
        rw c.split_at.ensures.back one.left,
        found.3 ∙ ap (value_of c.args.key.now) one.parts
            ∙ found_later c.args.key.now one.one one.others apart,
      );
}

pub returns-else-rest-ne0-clause-gives : goal.returns-else-rest-ne0-clause-gives
returns-else-rest-ne0-clause-gives c pairs holds =
    let found = c.entries.invariant.finds pairs holds in
    let none = none_left c.entries.rest.now found.0 found.1 found.2 c.if-rest-ne0.false in
    rw (found.3, none) c.entries.invariant.same

pub returns-after-entries-clause-gives : goal.returns-after-entries-clause-gives
returns-after-entries-clause-gives c pairs holds =
    let found = c.entries.invariant.finds pairs holds in
    let none = none_short c.entries.rest.now found.0 found.1 found.2 c.entries-test.false in
    rw (found.3, none) c.entries.invariant.same
