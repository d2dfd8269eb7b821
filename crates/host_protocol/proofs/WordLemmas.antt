-- The first word of a line.
use Rattle.host_protocol.proofs.Common.{◌≡◌, ℕ, suc, ◌<◌, Bool, true, false, not, List, [], ◌∷◌, length, take, drop, get_or, refl, sym, ap, ◌∙◌, arith, Some, None, unwrap_or, length-drop, position, position_or_len, length-take, passes_at_first, position_some, words_of, is_space_or_tab}
use Rattle.std.proofs.Common.{drop-cons, subst}
use Rattle.std.proofs.Math.ListN.{drop_of_length-le}
use Rattle.std.proofs.lemmas.Bool.{not-true}
use Rattle.list_lemmas.proofs.Positions.{none_whole, position-at, position_end}
use Rattle.host_protocol.specs.Lines.{has_bytes}
use Rattle.host_protocol.proofs.PartLemmas.{one_more, parts, rest_from, rest_is}

-- where a line's first word begins
abbrev start_of : List ℕ → ℕ
start_of line = position_or_len (λ b. not (is_space_or_tab b)) line

skip_more : (b : ℕ) (bs : List ℕ) (v : Bool) → is_space_or_tab b ≡ v → words_of (drop (start_of bs) bs) ≡ words_of bs
    → words_of (drop (start_of (b ∷ bs)) (b ∷ bs)) ≡ words_of (b ∷ bs)
unfolding words_of
skip_more b bs true e h = rw (e, one_more) h
skip_more b bs false e h = rw (e, e) refl

-- blanks before the first word
pub words_skip : (line : List ℕ) → words_of (drop (start_of line) line) ≡ words_of line
words_skip [] = refl
words_skip (b ∷ bs) = skip_more b bs (is_space_or_tab b) refl (words_skip bs)

has_some : (xs : List ℕ) → 0 < length xs → has_bytes xs ≡ true
has_some [] h = absurd (omega arith)
has_some (x ∷ xs) h = refl

-- a line that does not begin with a blank begins with a word
pub word_take : (line : List ℕ) → 0 < length line → 0 < position_or_len is_space_or_tab line
    → words_of line ≡ take (position_or_len is_space_or_tab line) line
    ∷ words_of (drop (position_or_len is_space_or_tab line) line)
unfolding words_of
word_take line filled first =
    let h = parts is_space_or_tab line in
    let some : has_bytes (take (position_or_len is_space_or_tab line) line) ≡ true =
    has_some (take (position_or_len is_space_or_tab line) line) (omega (arith, length-take {A = ℕ})) in
    rw (h.all, h.behind, some) refl

pub long_start : (b : ℕ) (bs : List ℕ) → is_space_or_tab b ≡ false → 0 < position_or_len is_space_or_tab (b ∷ bs)
long_start b bs e = rw (e, one_more) (omega arith)

-- a word begins at a byte that is no blank
word_at : (line : List ℕ) (i : ℕ) → i < length line → is_space_or_tab (get_or line i 0) ≡ false
    → words_of (drop i line) ≡ take (position_or_len is_space_or_tab (drop i line)) (drop i line) ∷ words_of
    (drop (position_or_len is_space_or_tab (drop i line)) (drop i line))
word_at line i within e =
    let split : drop i line ≡ get_or line i 0 ∷ drop (suc i) line = drop-cons line i 0 within in
    word_take (drop i line) (omega (arith, length-drop i line))
    (rw split (long_start (get_or line i 0) (drop (suc i) line) e))

-- the first word begins at the first byte that is no blank, and ends before the next blank
pub word_first : (line : List ℕ) (start end : ℕ) → position (λ b. not (is_space_or_tab b)) line ≡ Some start
    → end ≡ unwrap_or (position is_space_or_tab (rest_from start line)) (length (rest_from start line))
    → words_of line ≡ take end (rest_from start line) ∷ words_of (drop end (rest_from start line))
word_first line start end h e' =
    let whole = rest_is start line in
    let e : end ≡ unwrap_or (position is_space_or_tab (drop start line)) (length (drop start line)) = rw whole at e' in
    let at = position_some (λ b. not (is_space_or_tab b)) line start h in
    let here : start_of line < length line = omega (arith, at.0, at.1) in
    let filled = not-true (is_space_or_tab (get_or line (start_of line) 0))
    (passes_at_first (λ b. not (is_space_or_tab b)) line 0 here) in
    let skipped : words_of (drop start line) ≡ words_of line = rw at.0 at (words_skip line) in
    let ended : end ≡ position_or_len is_space_or_tab (drop start line) = e
    ∙ position_end is_space_or_tab (drop start line) in
    let taken = word_at line start at.1 (rw at.0 at filled) in
    rw (whole, ← skipped, ended) taken

-- the second byte is the first that is no blank
pub second_filled : (line : List ℕ) → 1 < length line → get_or line 0 0 ≡ 32 →
    not (is_space_or_tab (get_or line 1 0)) ≡ true → Some 1 ≡ position (λ b. not (is_space_or_tab b)) line
second_filled line inside first second =
    sym (position-at (λ b. not (is_space_or_tab b)) line 0 1 inside
    (λ k before.
    let same : 0 ≡ k = omega (arith, before) in
    subst (λ i. not (is_space_or_tab (get_or line i 0)) ≡ false) same (rw first refl))
    second)

-- a line of blanks has no word
pub word_none : (line : List ℕ) → position (λ b. not (is_space_or_tab b)) line ≡ None → words_of line ≡ []
unfolding words_of
word_none line h =
    let far = none_whole (λ b. not (is_space_or_tab b)) line h in
    let gone : drop (start_of line) line ≡ [] = drop_of_length-le line far in
    sym (words_skip line) ∙ ap words_of gone
