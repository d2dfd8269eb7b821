-- A value is written among those that are kept, or behind them.
use Rattle.slot_tables.proofs.Common.{◌≡◌, ℕ, suc, ◌+◌, ◌-◌, ◌<◌, ◌≤◌, ◌++◌, List, [], ◌∷◌, length, set, replicate, sym, ap, ◌∙◌, arith, length-set, length-replicate}
use Rattle.std.proofs.lemmas.List.{append_assoc, length-append, length_push, replicate-append-replicate, set-append_left, set_at}

pub set_inside : {T : Type 0} (xs : List T) (n count : ℕ) (rest to : T) → n < length xs
    → set xs n to ++ replicate (count - length (set xs n to)) rest ≡ set (xs ++ replicate (count - length xs) rest) n to
set_inside {T} xs n count rest to low =
    ap (λ k. set xs n to ++ replicate (count - k) rest) (length-set xs n to)
    ∙ sym (set-append_left xs (replicate (count - length xs) rest) n to low)

pub set_behind : {T : Type 0} (xs ys : List T) (n count : ℕ) (rest to : T) → ys ≡ xs ++ replicate (n - length xs) rest →
    length xs ≤ n → n < count
    → (ys ++ to ∷ []) ++ replicate (count - length (ys ++ to ∷ [])) rest
    ≡ set (xs ++ replicate (count - length xs) rest) n to
set_behind {T} xs ys n count rest to is past low =
    let more = n - length xs in
    let behind = count - n - 1 in
    let long : length ys ≡ n = ap length is ∙ length-append xs (replicate more rest)
    ∙ ap (λ k. length xs + k) (length-replicate {A = T} more rest) ∙ omega arith in
    let longer : length (ys ++ to ∷ []) ≡ n + 1 = length_push ys to ∙ ap (λ k. k + 1) long in
    let left : count - length (ys ++ to ∷ []) ≡ behind = omega arith in
    let sum : more + suc behind ≡ count - length xs = omega arith in
    let whole : xs ++ replicate (count - length xs) rest ≡ ys ++ rest ∷ replicate behind rest =
    ap (λ k. xs ++ replicate k rest) (sym sum)
    ∙ ap (λ l. xs ++ l) (sym (replicate-append-replicate {A = T} more (suc behind) rest))
    ∙ sym (append_assoc xs (replicate more rest) (rest ∷ replicate behind rest))
    ∙ ap (λ l. l ++ rest ∷ replicate behind rest) (sym is) in
    ap (λ k. (ys ++ to ∷ []) ++ replicate k rest) left
    ∙ append_assoc ys (to ∷ []) (replicate behind rest)
    ∙ sym (ap (λ l. set l n to) whole ∙ set_at ys rest (replicate behind rest) to n long)
