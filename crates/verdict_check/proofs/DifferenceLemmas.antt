-- The first line in which a text differs from one of these lines.
use Rattle.verdict_check.proofs.Common.{◌≡◌, ◌≢◌, ℕ, zero, suc, ◌+◌, ◌-◌, ◌<◌, Bool, true, false, ◌==◌, Some, None, List, [], ◌∷◌, ◌++◌, length, refl, sym, ap, ◌∙◌, subst, inl, inr, arith, append_assoc, append-nil, list_all, concat, AllByRecursion, cases_Bool, cond-true, cond-false, and_parts, behind}
use Rattle.std.proofs.Common.{not, slice_get}
use Rattle.verdict_check.specs.Texts.{with_first, text_lines, IsFirstDifference}
use Rattle.verdict_check.proofs.TextLemmas.{behind_same}

-- a byte that is no line feed
abbrev pub is_inner : ℕ → Bool
is_inner b = not (b == 10)

-- a line: bytes that are none, and a line feed
pub record IsLine (line : List ℕ) : Type 0 where
  pub body : List ℕ
  pub inner : list_all is_inner body ≡ true
  pub is : line ≡ body ++ 10 ∷ []

body_lines : (body rest : List ℕ) → list_all is_inner body ≡ true →
    text_lines ((body ++ 10 ∷ []) ++ rest) ≡ (body ++ 10 ∷ []) ∷ text_lines rest
unfolding text_lines
body_lines [] rest inner = refl
body_lines (b ∷ bs) rest inner =
    let parts = and_parts (is_inner b) (list_all is_inner bs) inner in
    let no : (b == 10) ≡ false = no_feed (b == 10) parts.0 in
    cond-false (b == 10) ((b ∷ []) ∷ text_lines ((bs ++ 10 ∷ []) ++ rest))
    (with_first b (text_lines ((bs ++ 10 ∷ []) ++ rest))) no
    ∙ ap (with_first b) (body_lines bs rest parts.1)
  where
    no_feed : (x : Bool) → not x ≡ true → x ≡ false
    no_feed true e = sym e
    no_feed false e = refl

-- a line at the beginning of a text is its first
pub first_line : (line rest : List ℕ) → IsLine line → text_lines (line ++ rest) ≡ line ∷ text_lines rest
first_line line rest is =
    ap (λ l. text_lines (l ++ rest)) is.is ∙ body_lines is.body rest is.inner
    ∙ ap (λ l. l ∷ text_lines rest) (sym is.is)

-- and lines are its first ones
pub first_lines : (lines : List (List ℕ)) (rest : List ℕ) → AllByRecursion IsLine lines →
    text_lines (concat lines ++ rest) ≡ lines ++ text_lines rest
first_lines [] rest are = refl
first_lines (line ∷ lines) rest are =
    ap text_lines (append_assoc line (concat lines) rest) ∙ first_line line (concat lines ++ rest) are.0
    ∙ ap (λ ls. line ∷ ls) (first_lines lines rest are.1)

-- a text begins with its first line
begins : (text line : List ℕ) → slice_get (text_lines text) 0 ≡ Some line → (tail : List ℕ) × (text ≡ line ++ tail)
unfolding text_lines
begins [] line e = absurd cc
begins (b ∷ bs) line e = elim (cases_Bool (b == 10)) [
  | inl t ↦ (
      let first = ap (λ ls. slice_get ls 0) (cond-true (b == 10) ((b ∷ []) ∷ text_lines bs)
      (with_first b (text_lines bs)) t) in
      let same : line ≡ b ∷ [] = cc in
      (bs, ap (λ l. l ++ bs) (sym same)))
  | inr f ↦ (
      let first = ap (λ ls. slice_get ls 0) (cond-false (b == 10) ((b ∷ []) ∷ text_lines bs)
      (with_first b (text_lines bs)) f) in
      begins_more (text_lines bs) (sym first ∙ e) (λ l more. begins bs l more))
]
  where
    begins_more : (ls : List (List ℕ)) → slice_get (with_first b ls) 0 ≡ Some line →
        ((l : List ℕ) → slice_get ls 0 ≡ Some l → (tail : List ℕ) × (bs ≡ l ++ tail)) →
        (tail : List ℕ) × (b ∷ bs ≡ line ++ tail)
    begins_more [] e more = (let same : line ≡ b ∷ [] = cc in (bs, ap (λ l. l ++ bs) (sym same)))
    begins_more (l ∷ ls) e more =
        let (tail, rest) = more l refl in
        let same : line ≡ b ∷ l = cc in
        (tail, ap (λ m. b ∷ m) rest ∙ ap (λ m. m ++ tail) (sym same))

-- a text with a byte has a line
some_line : (text : List ℕ) → text ≢ [] → slice_get (text_lines text) 0 ≢ None
unfolding text_lines
some_line [] some e = some refl
some_line (b ∷ bs) some e = elim (cases_Bool (b == 10)) [
  | inl t ↦ (let first = ap (λ ls. slice_get ls 0) (cond-true (b == 10) ((b ∷ []) ∷ text_lines bs)
      (with_first b (text_lines bs)) t) in absurd cc)
  | inr f ↦ (let first = ap (λ ls. slice_get ls 0) (cond-false (b == 10) ((b ∷ []) ∷ text_lines bs)
      (with_first b (text_lines bs)) f) in
      none_first (text_lines bs) (sym first ∙ e))
]
  where
    none_first : (ls : List (List ℕ)) → slice_get (with_first b ls) 0 ≡ None → ⊥
    none_first [] e = absurd cc
    none_first (l ∷ ls) e = absurd cc

got_front : {X : Type 0} (xs ys zs : List X) (k : ℕ) → k < length xs → slice_get (xs ++ ys) k ≡ slice_get (xs ++ zs) k
got_front [] ys zs k low = absurd (omega arith)
got_front (x ∷ xs) ys zs zero low = refl
got_front (x ∷ xs) ys zs (suc k) low = got_front xs ys zs k (omega arith)

got_back : {X : Type 0} (xs ys : List X) (k : ℕ) → k ≡ length xs → slice_get (xs ++ ys) k ≡ slice_get ys 0
got_back [] ys k e = rw e refl
got_back (x ∷ xs) ys zero e = absurd (omega arith)
got_back (x ∷ xs) ys (suc k) e = got_back xs ys k (omega arith)

-- where two texts begin with these lines, and the next line of one is not that of the other
differs_next : (before : List (List ℕ)) (want given : List ℕ) (k : ℕ) → AllByRecursion IsLine before →
    k ≡ length before + 1 →
    slice_get (text_lines want) 0 ≢ slice_get (text_lines given) 0 →
    IsFirstDifference (concat before ++ want) (concat before ++ given) k
differs_next before want given k are e differ = record {
  counted = omega arith;
  differs = λ same. differ (
      sym (got_back before (text_lines want) (k - 1) (omega arith))
      ∙ ap (λ ls. slice_get ls (k - 1)) (sym (first_lines before want are)) ∙ same
      ∙ ap (λ ls. slice_get ls (k - 1)) (first_lines before given are)
      ∙ got_back before (text_lines given) (k - 1) (omega arith));
  same = λ j some less.
      ap (λ ls. slice_get ls (j - 1)) (first_lines before want are)
      ∙ got_front before (text_lines want) (text_lines given) (j - 1) (omega arith)
      ∙ ap (λ ls. slice_get ls (j - 1)) (sym (first_lines before given are));
}

-- the text does not go on with the line that comes next
pub wrong_line : (before : List (List ℕ)) (next after rest : List ℕ) (k : ℕ) → AllByRecursion IsLine before →
    IsLine next → k ≡ length before + 1 →
    behind next rest ≡ None → IsFirstDifference (concat before ++ (next ++ after)) (concat before ++ rest) k
wrong_line before next after rest k are is e none =
    differs_next before (next ++ after) rest k are e (λ same.
    let first : slice_get (text_lines (next ++ after)) 0 ≡ Some next =
    ap (λ ls. slice_get ls 0) (first_line next after is) in
    let (tail, goes) = begins rest next (sym same ∙ first) in
    let there = ap (behind next) goes ∙ behind_same next tail in
    absurd cc)

-- it goes on where there is no line left
pub one_too_many : (lines : List (List ℕ)) (rest : List ℕ) (k : ℕ) → AllByRecursion IsLine lines →
    k ≡ length lines + 1 → rest ≢ [] →
    IsFirstDifference (concat lines) (concat lines ++ rest) k
unfolding text_lines
one_too_many lines rest k are e some =
    subst (λ want. IsFirstDifference want (concat lines ++ rest) k) (append-nil (concat lines))
    (differs_next lines [] rest k are e (λ same. some_line rest some (sym same)))
