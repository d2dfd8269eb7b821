use Rattle.page_keys.proofs.Common.{◌≡◌, ◌∷◌, ◌++◌, [], List, ap, sym, ◌∙◌, append_assoc, append-nil, Pair}
use Rattle.page_keys.proofs.OfPut.EntriesLeft.{first_entry, none_left, none_short}
use Rattle.page_keys.proofs.reading.entries_in.Goals as goal

pub known_entry-requires : goal.known_entry-requires
known_entry-requires c =
    let holds = c.requires.bucket in
    let left = c.entries.invariant holds.0 holds.1 in
    let one = first_entry c.entries.rest.now left.0 left.1 left.2 c.if-rest-ne0.true in
    (one.one, one.is, c.split_at.ensures.front ∙ one.here)

pub entries-preserved : goal.entries-preserved
entries-preserved c all holds =
    let left = c.entries.invariant all holds in
    let one = first_entry c.entries.rest.now left.0 left.1 left.2 c.if-rest-ne0.true in
    let its : c.known_entry.result ≡ one.one =
    c.known_entry.ensures one.one one.is (c.split_at.ensures.front ∙ one.here) in (
      one.others,
      left.1,
      rw c.split_at.ensures.back one.left,
      left.3 ∙ ap (λ (l : List Pair). c.entries.into.items ++ l)
          (one.parts ∙ ap (λ (x : Pair). x ∷ one.others) (sym its))
          ∙ sym (append_assoc c.entries.into.items (c.known_entry.result ∷ []) one.others)
          ∙ ap (λ (l : List Pair). l ++ one.others) (sym c.in_ok-push.ensures.items),
    )

pub returns-else-rest-ne0 : goal.returns-else-rest-ne0
returns-else-rest-ne0 c pairs holds =
    let left = c.entries.invariant pairs holds in
    let none = none_left c.entries.rest.now left.0 left.1 left.2 c.if-rest-ne0.false in
    let into = c.entries.into.items in
    sym (left.3 ∙ ap (λ (l : List Pair). into ++ l) none ∙ append-nil into)

pub returns-after-entries : goal.returns-after-entries
returns-after-entries c pairs holds =
    let left = c.entries.invariant pairs holds in
    let none = none_short c.entries.rest.now left.0 left.1 left.2 c.entries-test.false in
    let into = c.entries.into.items in
    sym (left.3 ∙ ap (λ (l : List Pair). into ++ l) none ∙ append-nil into)
