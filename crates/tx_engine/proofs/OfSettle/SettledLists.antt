-- How the open transactions settle, at most one of which is in doubt.
use Rattle.tx_engine.proofs.Common.{◌≡◌, ◌≢◌, ℕ, zero, suc, ◌<◌, Bool, true, false, not, ◌&&◌, List, [], ◌∷◌, ◌++◌, length, map, get_or, All, refl, sym, ap, ap₂, ◌∙◌, arith, slice_set, list_any, zip, cond-true, cond-false, and_from, append-nil, All-head, All-tail, All-cons, All-nil, Link, Contents, current_in, IndexState, current_of, Entry, is_doubted, Mark, Plain, Doubt, Whole, settled_mark, settled_entry, Naming, TransactionState, no_transaction}
use Rattle.std.proofs.lemmas.Bool.{and_left, and_right, or_left, or_right, or_from, ne_eqb, eq-eqb}
use Rattle.array_machine.specs.Step.{doubted}
use Rattle.tx_engine.specs.Exits.{has_moved}
use Rattle.tx_engine.proofs.OfDevice.Kept.{IsCalm}

abbrev pub entries_in : List TransactionState → List Entry
entries_in all = map (λ o. o.entry) all

abbrev pub namings_in : List TransactionState → List Naming
namings_in all = map (λ o. o.naming) all

-- each open transaction but one is not in doubt
abbrev pub CalmBeside : List TransactionState → ℕ → Type 0
CalmBeside all i = (k : ℕ) → k < length all → k ≢ i → IsCalm (get_or all k no_transaction).entry

calm_mark : (there : Bool) (m : Mark) → is_doubted m ≡ false → settled_mark there m ≡ m
calm_mark there Plain h = refl
calm_mark there Doubt h = cc
calm_mark there Whole h = refl

pub calm_entry : (there : Bool) (e : Entry) → IsCalm e → settled_entry there e ≡ e
calm_entry there e h = ap (λ m. record e { mark = m }) (calm_mark there e.mark h)

pub settled_calm : (there : Bool) (es : List Entry) → All IsCalm es → map (settled_entry there) es ≡ es
settled_calm there [] h = refl
settled_calm there (e ∷ es) h =
    ap₂ (λ f fs. f ∷ fs) (calm_entry there e (All-head IsCalm e es h)) (settled_calm there es (All-tail IsCalm e es h))

pub doubted_calm : (es : List Entry) → All IsCalm es → doubted es ≡ []
doubted_calm [] h = refl
doubted_calm (e ∷ es) h =
    cond-false (is_doubted e.mark) (e.writes ++ doubted es) (doubted es) (All-head IsCalm e es h)
    ∙ doubted_calm es (All-tail IsCalm e es h)

pub calm_all : (all : List TransactionState) → ((k : ℕ) → k < length all → IsCalm (get_or all k no_transaction).entry) →
    All IsCalm (entries_in all)
calm_all [] h = All-nil IsCalm
calm_all (o ∷ os) h = All-cons IsCalm o.entry (entries_in os) (h 0 (omega arith))
    (calm_all os (λ k inside. h (suc k) (omega arith)))

pub calm_at : (all : List TransactionState) → All IsCalm (entries_in all) → (k : ℕ) → k < length all →
    IsCalm (get_or all k no_transaction).entry
calm_at [] h k inside = absurd (omega arith)
calm_at (o ∷ os) h zero inside = All-head IsCalm o.entry (entries_in os) h
calm_at (o ∷ os) h (suc k) inside = calm_at os (All-tail IsCalm o.entry (entries_in os) h) k (omega arith)

beside_rest : (o : TransactionState) (os : List TransactionState) (i : ℕ) → CalmBeside (o ∷ os) (suc i) →
    CalmBeside os i
beside_rest o os i h k inside other = h (suc k) (omega arith) (λ e. other (omega arith))

-- the one in doubt settles
pub settled_at : (there : Bool) (all : List TransactionState) (i : ℕ) (new : TransactionState) → i < length all →
    CalmBeside all i →
    new.entry ≡ settled_entry there (get_or all i no_transaction).entry → map (settled_entry there) (entries_in all)
    ≡ entries_in (slice_set all i new)
settled_at there [] i new within others is = absurd (omega arith)
settled_at there (o ∷ os) zero new within others is =
    ap₂ (λ f fs. f ∷ fs) (sym is) (settled_calm there (entries_in os)
    (calm_all os (λ k inside. others (suc k) (omega arith) (λ e. absurd (omega arith)))))
settled_at there (o ∷ os) (suc i) new within others is =
    ap₂ (λ f fs. f ∷ fs) (calm_entry there o.entry (others 0 (omega arith) (λ e. absurd (omega arith))))
    (settled_at there os i new (omega arith) (beside_rest o os i others) is)

-- and what it writes is all that is in doubt
pub doubted_at : (all : List TransactionState) (i : ℕ) → i < length all → CalmBeside all i →
    is_doubted (get_or all i no_transaction).entry.mark ≡ true →
    doubted (entries_in all) ≡ (get_or all i no_transaction).entry.writes
doubted_at [] i within others is = absurd (omega arith)
doubted_at (o ∷ os) zero within others is =
    cond-true (is_doubted o.entry.mark) (o.entry.writes ++ doubted (entries_in os)) (doubted (entries_in os)) is
    ∙ ap (λ ws. o.entry.writes ++ ws) (doubted_calm (entries_in os)
    (calm_all os (λ k inside. others (suc k) (omega arith) (λ e. absurd (omega arith)))))
    ∙ append-nil o.entry.writes
doubted_at (o ∷ os) (suc i) within others is =
    cond-false (is_doubted o.entry.mark) (o.entry.writes ++ doubted (entries_in os)) (doubted (entries_in os))
    (others 0 (omega arith) (λ e. absurd (omega arith)))
    ∙ doubted_at os i (omega arith) (beside_rest o os i others) is

-- whether the image has another version of the first page of a transaction in doubt
abbrev pub any_moved : IndexState → List Contents → List TransactionState → Bool
any_moved n image all = list_any (λ (e, x). is_doubted e.mark && has_moved n image x.names)
    (zip (entries_in all) (namings_in all))

pub moved_calm : (n : IndexState) (image : List Contents) (all : List TransactionState) →
    ((k : ℕ) → k < length all → IsCalm (get_or all k no_transaction).entry) →
    any_moved n image all ≡ false
moved_calm n image [] h = refl
moved_calm n image (o ∷ os) h =
    or_from (is_doubted o.entry.mark && has_moved n image o.naming.names) (any_moved n image os)
    (and_left (is_doubted o.entry.mark) (has_moved n image o.naming.names) (h 0 (omega arith)))
    (moved_calm n image os (λ k inside. h (suc k) (omega arith)))

pub moved_none : (n : IndexState) (image : List Contents) (all : List TransactionState) →
    ((k : ℕ) → k < length all → has_moved n image (get_or all k no_transaction).naming.names ≡ false) →
    any_moved n image all ≡ false
moved_none n image [] h = refl
moved_none n image (o ∷ os) h =
    or_from (is_doubted o.entry.mark && has_moved n image o.naming.names) (any_moved n image os)
    (and_right (is_doubted o.entry.mark) (has_moved n image o.naming.names) (h 0 (omega arith)))
    (moved_none n image os (λ k inside. h (suc k) (omega arith)))

pub moved_one : (n : IndexState) (image : List Contents) (all : List TransactionState) (i : ℕ) → i < length all →
    is_doubted (get_or all i no_transaction).entry.mark ≡ true →
    has_moved n image (get_or all i no_transaction).naming.names ≡ true → any_moved n image all ≡ true
moved_one n image [] i within is moved = absurd (omega arith)
moved_one n image (o ∷ os) zero within is moved =
    or_left (is_doubted o.entry.mark && has_moved n image o.naming.names) (any_moved n image os)
    (and_from (is_doubted o.entry.mark) (has_moved n image o.naming.names) is moved)
moved_one n image (o ∷ os) (suc i) within is moved =
    or_right (is_doubted o.entry.mark && has_moved n image o.naming.names) (any_moved n image os)
    (moved_one n image os i (omega arith) is moved)

-- names whose versions the image has as they are known have not moved
pub not_moved : (n : IndexState) (image : List Contents) (names : List Link) →
    All (λ a. current_in n.config.protocol n.config.logical image a.page ≡ current_of n a.page) names →
    has_moved n image names ≡ false
not_moved n image [] h = refl
not_moved n image (a ∷ names) h = ap not (eq-eqb _ _ (h 0 a (omega arith)))

-- names whose versions it has otherwise have moved
pub are_moved : (n : IndexState) (image : List Contents) (names : List Link) → 0 < length names →
    All (λ a. current_in n.config.protocol n.config.logical image a.page ≢ current_of n a.page) names →
    has_moved n image names ≡ true
are_moved n image [] some h = absurd (omega arith)
are_moved n image (a ∷ names) some h = ap not (ne_eqb _ _ (h 0 a (omega arith)))
