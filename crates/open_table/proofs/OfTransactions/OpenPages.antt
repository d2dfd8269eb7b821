-- The open transactions as callers see them: the one at an index, another one in its place, and how many pages they
-- have.
use Rattle.open_table.proofs.Common.{◌≡◌, ℕ, ◌<◌, ◌≤◌, Bool, true, false, List, [], ◌∷◌, length, map, ◌||◌, ◌==◌, refl, sym, subst, ap, ◌∙◌, arith, is_none, position, list_any, get_or-map, length-map, All-nil, All-cons, All-head, All-tail, All-map, PageWrite, bytes_in, no_write, pending_pages, has_tag, name_at, write_at, no_name, TransactionState, no_transaction, transaction_of, write_held, IsWhole, Transaction, PendingWrite}
use Rattle.std.specs.Prelude.{slice_index_or, sum_by, All}
use Rattle.std.specs.List.{position_or_len}
use Rattle.std.proofs.lemmas.List.Sums.{sum_by-cons, sum_by_more_le}
use Rattle.std.proofs.lemmas.Simd.{map-map}
use Rattle.tx_types.specs.Entries.{value_if}
use Rattle.open_table.specs.OpenTransactionsState.{IsOpenTransactionsState}
use Rattle.open_table.specs.OpenTransactions.{table_of, OpenTransactionsInvariant, TransactionInvariant}
use Rattle.open_table.specs.PendingWrites.{pages_of}
use Rattle.open_table.specs.declared.open_transactions.OpenTransactions.TheInside.{Inside}

-- the one that was read at an index
pub transaction_read : (os : List Transaction) (k : ℕ) (x : Transaction) → k < length os → x ≡ slice_index_or os k x →
    slice_index_or (map transaction_of os) k no_transaction ≡ transaction_of x
transaction_read os k x lt is = get_or-map transaction_of os k x no_transaction lt ∙ ap transaction_of (sym is)

pub transactions_long : (os : List Transaction) → length (map transaction_of os) ≡ length os
transactions_long os = length-map os transaction_of

-- its pages
pub pages_read : (os : List Transaction) (k : ℕ) (x : Transaction) → k < length os → x ≡ slice_index_or os k x →
    length (slice_index_or (map transaction_of os) k no_transaction).entry.writes ≡ pages_of x
pages_read os k x lt is = ap (λ (o : TransactionState). length o.entry.writes) (transaction_read os k x lt is)
    ∙ length-map x.pages.items write_held

pub name_read : (os : List Transaction) (k place : ℕ) (x : Transaction) (p : PendingWrite) → k < length os →
    x ≡ slice_index_or os k x →
    place < length x.pages.items → p ≡ slice_index_or x.pages.items place p →
    p.name ≡ name_at (slice_index_or (map transaction_of os) k no_transaction).naming place
name_read os k place x p lt is within at =
    ap (λ (q : PendingWrite). q.name) at
    ∙ sym (get_or-map (λ (q : PendingWrite). q.name) x.pages.items place p no_name within)
    ∙ ap (λ (o : TransactionState). name_at o.naming place) (sym (transaction_read os k x lt is))

-- what it writes
write_read : (os : List Transaction) (k place : ℕ) (x : Transaction) (p : PendingWrite) → k < length os →
    x ≡ slice_index_or os k x →
    place < length x.pages.items → p ≡ slice_index_or x.pages.items place p →
    write_held p ≡ write_at (slice_index_or (map transaction_of os) k no_transaction).entry place
write_read os k place x p lt is within at =
    ap write_held at
    ∙ sym (get_or-map write_held x.pages.items place p no_write within)
    ∙ ap (λ (o : TransactionState). write_at o.entry place) (sym (transaction_read os k x lt is))

none_if : (discard : Bool) (bytes : List ℕ) → is_none (value_if discard bytes) ≡ discard
none_if true bytes = refl
none_if false bytes = refl

pub discard_read : (os : List Transaction) (k place : ℕ) (x : Transaction) (p : PendingWrite) → k < length os →
    x ≡ slice_index_or os k x →
    place < length x.pages.items → p ≡ slice_index_or x.pages.items place p →
    p.discard ≡ is_none (write_at (slice_index_or (map transaction_of os) k no_transaction).entry place).value
discard_read os k place x p lt is within at =
    sym (none_if p.discard p.bytes.items) ∙ ap (λ (w : PageWrite). is_none w.value)
    (write_read os k place x p lt is within at)

-- its pages are among those of all
pub pages_within : (os : List Transaction) (k : ℕ) (x : Transaction) → k < length os → x ≡ slice_index_or os k x →
    pages_of x ≤ sum_by pages_of os
pages_within os k x lt is =
    let at = sum_by_more_le pages_of os k x lt in
    let same = ap pages_of is in
    omega arith

-- the first one that passes a test
first_place : (p : TransactionState → Bool) (q : Transaction → Bool) →
    ((o : Transaction) → p (transaction_of o) ≡ q o) →
    (os : List Transaction) → position_or_len p (map transaction_of os) ≡ position_or_len q os
first_place p q same [] = refl
first_place p q same (o ∷ os) = rw (same o, first_place p q same os) refl

pub position_of_transaction : (p : TransactionState → Bool) (q : Transaction → Bool) →
    ((o : Transaction) → p (transaction_of o) ≡ q o) →
    (os : List Transaction) → position p (map transaction_of os) ≡ position q os
position_of_transaction p q same os = rw (first_place p q same os, transactions_long os) refl

pub pages_of_transactions : (os : List Transaction) → pending_pages (map (λ o. o.entry) (map transaction_of os))
    ≡ sum_by pages_of os
pages_of_transactions [] = refl
pages_of_transactions (o ∷ os) =
    let rest = pages_of_transactions os in
    let one = length-map o.pages.items write_held in
    sum_by-cons (λ e. length e.writes) (transaction_of o).entry (map (λ o. o.entry) (map transaction_of os))
    ∙ omega (arith, sum_by-cons pages_of o os)

-- each has a page at least
pub length-le-pages : (os : List Transaction) → All (λ o. 0 < pages_of o) os → length os ≤ sum_by pages_of os
length-le-pages [] each = omega arith
length-le-pages (o ∷ os) each =
    let one = All-head (λ o. 0 < pages_of o) o os each in
    let rest = length-le-pages os (All-tail (λ o. 0 < pages_of o) o os each) in
    omega (arith, sum_by-cons pages_of o os)

pub tag_among : (tag : ℕ) (os : List Transaction) →
    list_any (has_tag tag) (map (λ o. o.entry) (map transaction_of os)) ≡ list_any (λ o. o.tag == tag) os
tag_among tag [] = refl
tag_among tag (o ∷ os) = ap (λ rest. (o.tag == tag) || rest) (tag_among tag os)

all_named : (os : List Transaction) →
    All (λ o. map (λ name. name.page) o.naming.names ≡ map (λ w. w.page) o.entry.writes) (map transaction_of os)
all_named [] = All-nil _
all_named (o ∷ os) =
    All-cons (λ (o : TransactionState). map (λ name. name.page) o.naming.names ≡ map (λ w. w.page) o.entry.writes)
    (transaction_of o) _
    (map-map (λ name. name.page) (λ p. p.name) o.pages.items ∙ sym (map-map (λ w. w.page) write_held o.pages.items))
    (all_named os)

all_whole : (size logical pending : ℕ) (os : List Transaction) → All (TransactionInvariant size logical pending) os →
    All (λ o. All (λ w. length (bytes_in size w) ≡ size) o.entry.writes) (map transaction_of os)
all_whole size logical pending [] each = All-nil _
all_whole size logical pending (o ∷ os) each =
    All-cons (λ (o : TransactionState). All (λ w. length (bytes_in size w) ≡ size) o.entry.writes) (transaction_of o) _
    (All-map (λ (w : PageWrite). length (bytes_in size w) ≡ size) write_held o.pages.items (λ k d within.
    let whole = (All-head (TransactionInvariant size logical pending) o os each).whole k d within in
    ap length (sym whole.bytes) ∙ whole.long))
    (all_whole size logical pending os (All-tail (TransactionInvariant size logical pending) o os each))

-- what is kept is as callers see it
pub kept_is_table : (t : Inside) → OpenTransactionsInvariant t → IsOpenTransactionsState (table_of t)
kept_is_table t kept = record {
  named = all_named t.all.items;
  whole = all_whole t.page_bytes (length t.owners.items) t.pending t.all.items kept.each;
  few = let count = pages_of_transactions t.all.items in omega (arith, count, kept.rooms);
}

pub page_whole : (t : Inside) (k place : ℕ) (x : Transaction) (p : PendingWrite) → OpenTransactionsInvariant t →
    k < length t.all.items → x ≡ slice_index_or t.all.items k x →
    place < length x.pages.items → p ≡ slice_index_or x.pages.items place p → IsWhole t.page_bytes p
page_whole t k place x p kept lt is within at =
    let its = subst (TransactionInvariant t.page_bytes (length t.owners.items) t.pending) (sym is) (kept.each k x lt) in
    subst (IsWhole t.page_bytes) (sym at) (its.whole place p within)

-- its bytes are those that it writes
pub bytes_read : (t : Inside) (k place : ℕ) (x : Transaction) (p : PendingWrite) → OpenTransactionsInvariant t →
    k < length t.all.items → x ≡ slice_index_or t.all.items k x →
    place < length x.pages.items → p ≡ slice_index_or x.pages.items place p →
    p.bytes.items ≡ bytes_in t.page_bytes
    (write_at (slice_index_or (map transaction_of t.all.items) k no_transaction).entry place)
bytes_read t k place x p kept lt is within at =
    (page_whole t k place x p kept lt is within at).bytes
    ∙ ap (bytes_in t.page_bytes) (write_read t.all.items k place x p lt is within at)
