-- The open transactions as entries of the array machine: the one with a tag by its index, and lists side by side.
use Rattle.open_table.proofs.Common.{◌≡◌, ◌≢◌, ℕ, zero, suc, ◌<◌, true, false, List, [], ◌∷◌, length, map, get_or, All, AllPairs, Some, None, refl, ap, ◌∙◌, arith, slice_set, remove, position, AllZip, cond-true, cond-false, All-head, All-tail, All-cons, All-nil, position-Some, Entry, has_tag, entry_of, with_entry, without, Naming, TransactionState, no_transaction}
use Rattle.std.proofs.lemmas.Bool.{eq-eqb, ne_eqb}

-- the transaction at an index has the tag, and none before it
pub record IsFirstTagged (tag : ℕ) (all : List TransactionState) (i : ℕ) : Type 0 where
  pub within : i < length all
  pub tagged : has_tag tag (get_or all i no_transaction).entry ≡ true
  pub before : (k : ℕ) → k < i → has_tag tag (get_or all k no_transaction).entry ≡ false

first_rest : (tag : ℕ) (o : TransactionState) (all : List TransactionState) (i : ℕ) →
    IsFirstTagged tag (o ∷ all) (suc i) → IsFirstTagged tag all i
first_rest tag o all i h = record {
  within = let w = h.within in omega arith;
  tagged = h.tagged;
  before = λ k less. h.before (suc k) (omega arith);
}

pub first_position : (tag : ℕ) (all : List TransactionState) (i : ℕ) →
    position (λ o. has_tag tag o.entry) all ≡ Some i → IsFirstTagged tag all i
first_position tag all i h =
    let p = position-Some (λ o. has_tag tag o.entry) all i no_transaction h in
    record { within = p.0; tagged = p.1; before = p.2 }

pub entry_first : (tag : ℕ) (all : List TransactionState) (i : ℕ) → IsFirstTagged tag all i →
    entry_of tag (map (λ o. o.entry) all) ≡ Some (get_or all i no_transaction).entry
entry_first tag [] i h = absurd (let w = h.within in omega arith)
entry_first tag (o ∷ all) zero h =
    cond-true (has_tag tag o.entry) (Some o.entry) (entry_of tag (map (λ o. o.entry) all)) h.tagged
entry_first tag (o ∷ all) (suc i) h =
    cond-false (has_tag tag o.entry) (Some o.entry) (entry_of tag (map (λ o. o.entry) all)) (h.before 0 (omega arith))
    ∙ entry_first tag all i (first_rest tag o all i h)

pub with_first : (tag : ℕ) (all : List TransactionState) (i : ℕ) (new : TransactionState) → IsFirstTagged tag all i →
    with_entry tag new.entry (map (λ o. o.entry) all) ≡ map (λ o. o.entry) (slice_set all i new)
with_first tag [] i new h = absurd (let w = h.within in omega arith)
with_first tag (o ∷ all) zero new h =
    cond-true (has_tag tag o.entry) (new.entry ∷ map (λ o. o.entry) all)
    (o.entry ∷ with_entry tag new.entry (map (λ o. o.entry) all)) h.tagged
with_first tag (o ∷ all) (suc i) new h =
    cond-false (has_tag tag o.entry) (new.entry ∷ map (λ o. o.entry) all)
    (o.entry ∷ with_entry tag new.entry (map (λ o. o.entry) all))
    (h.before 0 (omega arith))
    ∙ ap (λ es. o.entry ∷ es) (with_first tag all i new (first_rest tag o all i h))

pub without_first : (tag : ℕ) (all : List TransactionState) (i : ℕ) → IsFirstTagged tag all i →
    without tag (map (λ o. o.entry) all) ≡ map (λ o. o.entry) (remove all i)
without_first tag [] i h = absurd (let w = h.within in omega arith)
without_first tag (o ∷ all) zero h =
    cond-true (has_tag tag o.entry) (map (λ o. o.entry) all) (o.entry ∷ without tag (map (λ o. o.entry) all)) h.tagged
without_first tag (o ∷ all) (suc i) h =
    cond-false (has_tag tag o.entry) (map (λ o. o.entry) all) (o.entry ∷ without tag (map (λ o. o.entry) all))
    (h.before 0 (omega arith))
    ∙ ap (λ es. o.entry ∷ es) (without_first tag all i (first_rest tag o all i h))

-- no open transaction has the tag
pub entry_none : (tag : ℕ) (all : List TransactionState) → All (λ o. has_tag tag o.entry ≡ false) all →
    entry_of tag (map (λ o. o.entry) all) ≡ None
entry_none tag [] h = refl
entry_none tag (o ∷ all) h =
    cond-false (has_tag tag o.entry) (Some o.entry) (entry_of tag (map (λ o. o.entry) all))
    (All-head (λ o. has_tag tag o.entry ≡ false) o all h)
    ∙ entry_none tag all (All-tail (λ o. has_tag tag o.entry ≡ false) o all h)

-- where tags differ, each transaction is the first with its tag
pub first_of_own : (all : List TransactionState) (i : ℕ) → AllPairs (λ a b. a.entry.tag ≢ b.entry.tag) all →
    i < length all →
    IsFirstTagged (get_or all i no_transaction).entry.tag all i
first_of_own all i tags within = record {
  within = within;
  tagged = eq-eqb (get_or all i no_transaction).entry.tag (get_or all i no_transaction).entry.tag refl;
  before = λ k less. ne_eqb (get_or all k no_transaction).entry.tag (get_or all i no_transaction).entry.tag
      (tags k i no_transaction less within);
}

-- two lists side by side that come from one
pub each_from : (R : Entry → Naming → Type 0) (all : List TransactionState) →
    AllZip R (map (λ o. o.entry) all) (map (λ o. o.naming) all) →
    All (λ o. R o.entry o.naming) all
each_from R [] h = All-nil (λ o. R o.entry o.naming)
each_from R (o ∷ all) h = All-cons (λ o. R o.entry o.naming) o all h.0 (each_from R all h.1)

pub each_to : (R : Entry → Naming → Type 0) (all : List TransactionState) → All (λ o. R o.entry o.naming) all →
    AllZip R (map (λ o. o.entry) all) (map (λ o. o.naming) all)
each_to R [] h = tt
each_to R (o ∷ all) h = (
  All-head (λ o. R o.entry o.naming) o all h,
  each_to R all (All-tail (λ o. R o.entry o.naming) o all h),
)
