-- The open transaction at an index of the table, once it was changed, and the first one that passes a test.
use Rattle.tx_engine.proofs.Common.{◌≡◌, ℕ, ◌+◌, ◌<◌, ◌==◌, length, sym, ap, ap₂, ◌∙◌, eq-eqb, cond-true, get_or-set_same, Whole, OpenTransactionsState, TransactionState, no_transaction, transaction_at, with_transaction, with_noted_count, with_mark, with_next}
use Rattle.std.proofs.lemmas.List.{set-set}

-- what was put at an index is there
pub transaction_set : (o : OpenTransactionsState) (i : ℕ) (new : TransactionState) → i < length o.all →
    transaction_at (with_transaction o i new) i ≡ new
transaction_set o i new within = get_or-set_same o.all i new no_transaction within

-- and is replaced by what is put there then
pub transaction_twice : (o : OpenTransactionsState) (i : ℕ) (new newer : TransactionState) →
    with_transaction (with_transaction o i new) i newer ≡ with_transaction o i newer
transaction_twice o i new newer = ap (λ all. record o { all = all }) (set-set o.all i new newer)

pub next_whole : (o mid new : OpenTransactionsState) (i noted : ℕ) → i < length o.all →
    mid ≡ with_transaction o i (with_noted_count (transaction_at o i) noted) →
    noted ≡ (transaction_at o i).naming.noted_count + 1 → noted ≡ length (transaction_at o i).entry.writes →
    new ≡ with_transaction mid i (with_mark (transaction_at mid i) Whole) →
    new ≡ with_transaction o i (with_next (transaction_at o i))
next_whole o mid new i noted within is more last after =
    let its = transaction_at o i in
    let put : transaction_at mid i ≡ with_noted_count its noted = ap (λ (t : OpenTransactionsState). transaction_at t i)
    is ∙ transaction_set o i (with_noted_count its noted) within in
    after
    ∙ ap₂ (λ (t : OpenTransactionsState) (x : TransactionState). with_transaction t i (with_mark x Whole)) is put
    ∙ transaction_twice o i (with_noted_count its noted) (with_mark (with_noted_count its noted) Whole)
    ∙ ap (λ n. with_transaction o i (with_mark (with_noted_count its n) Whole)) more
    ∙ ap (with_transaction o i) (sym
    (cond-true (its.naming.noted_count + 1 == length its.entry.writes)
    (with_mark (with_noted_count its (its.naming.noted_count + 1)) Whole)
    (with_noted_count its (its.naming.noted_count + 1))
    (eq-eqb (its.naming.noted_count + 1) (length its.entry.writes) (sym more ∙ last))))
