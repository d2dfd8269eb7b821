-- The names of the open transactions, as settling leaves them.
use Rattle.tx_engine.proofs.Common.{◌≡◌, ℕ, ◌<◌, List, [], length, map, get_or, refl, sym, ap, ◌∙◌, arith, length-map, get_or-map, map-set_same, Link, Mark, OpenTransactionsState, TransactionState, no_transaction, transaction_at, with_transaction, with_mark, with_next}
use Rattle.tx_engine.proofs.OfSettle.NextNoted.{next_parts}

-- of all of them
abbrev pub all_names : OpenTransactionsState → List (List Link)
all_names o = map (λ (x : TransactionState). x.naming.names) o.all

-- another mark changes none
pub marked_names : (o o' : OpenTransactionsState) (i : ℕ) (its : Mark) → i < length o.all →
    o' ≡ with_transaction o i (with_mark (transaction_at o i) its) →
    all_names o' ≡ all_names o
marked_names o o' i its within is =
    ap all_names is ∙ map-set_same (λ (x : TransactionState). x.naming.names) o.all i
    (with_mark (transaction_at o i) its) no_transaction refl

-- nor does a record more that is noted
pub noted_names : (o o' : OpenTransactionsState) (i : ℕ) → i < length o.all →
    o' ≡ with_transaction o i (with_next (transaction_at o i)) → all_names o' ≡ all_names o
noted_names o o' i within is =
    ap all_names is ∙ map-set_same (λ (x : TransactionState). x.naming.names) o.all i (with_next (transaction_at o i))
    no_transaction (next_parts (transaction_at o i)).names

-- so each transaction has the names that it had
pub names_at : (o o' : OpenTransactionsState) (i : ℕ) → all_names o' ≡ all_names o → i < length o.all →
    (transaction_at o' i).naming.names ≡ (transaction_at o i).naming.names
names_at o o' i same within =
    let long : length o'.all ≡ length o.all = sym (length-map o'.all (λ (x : TransactionState). x.naming.names))
    ∙ ap length same
    ∙ length-map o.all (λ (x : TransactionState). x.naming.names) in
    let within' : i < length o'.all = omega arith in
    sym (get_or-map (λ (x : TransactionState). x.naming.names) o'.all i no_transaction [] within')
    ∙ ap (λ ns. get_or ns i []) same
    ∙ get_or-map (λ (x : TransactionState). x.naming.names) o.all i no_transaction [] within
