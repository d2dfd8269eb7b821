-- A word with a space behind it is the first one.
use Rattle.drive_gen.proofs.Common.{◌≡◌, [], ℕ, List, ◌++◌, drop, codes, refl, sym, ◌∙◌}
use Rattle.std.proofs.Common.{◌∷◌, ◌||◌, ◌⊎◌, inl, inr, Bool, true, false, take, get_or, subst, ap, arith}
use Rattle.std.proofs.lemmas.List.{take-append-drop}
use Rattle.std.specs.Cmp.Lexicographic.{bytes_decides}
use Rattle.host_protocol.specs.Lines as lines
use Rattle.drive_gen.specs.Summary.{word_or}
use Rattle.drive_gen.proofs.words.leading_word.Goals as goal

one_of_two : (a b : Bool) → (a || b) ≡ true → (a ≡ true) ⊎ (b ≡ true)
one_of_two true b e = inl refl
one_of_two false b e = inr e

space_behind : (line : List ℕ) → get_or line 4 0 ≡ 32 → drop 4 line ≡ 32 ∷ drop 5 line
space_behind [] e = absurd (omega (arith, e))
space_behind (a ∷ []) e = absurd (omega (arith, e))
space_behind (a ∷ b ∷ []) e = absurd (omega (arith, e))
space_behind (a ∷ b ∷ c ∷ []) e = absurd (omega (arith, e))
space_behind (a ∷ b ∷ c ∷ d ∷ []) e = absurd (omega (arith, e))
space_behind (a ∷ b ∷ c ∷ d ∷ x ∷ xs) e = ap (λ y. y ∷ xs) e

opens : (line : List ℕ) → take 4 line ≡ codes "open" → drop 4 line ≡ 32 ∷ drop 5 line → take 4 line ≡ word_or line 0 []
unfolding lines.words_of
opens line e behind =
    let whole : codes "open" ++ 32 ∷ drop 5 line ≡ line = rw (e, behind) at (take-append-drop 4 line) in
    subst (λ l. take 4 l ≡ word_or l 0 []) whole refl

is_done : (line : List ℕ) → take 4 line ≡ codes "done" → drop 4 line ≡ 32 ∷ drop 5 line →
    take 4 line ≡ word_or line 0 []
unfolding lines.words_of
is_done line e behind =
    let whole : codes "done" ++ 32 ∷ drop 5 line ≡ line = rw (e, behind) at (take-append-drop 4 line) in
    subst (λ l. take 4 l ≡ word_or l 0 []) whole refl

pub returns-then-is_frequent : goal.returns-then-is_frequent
returns-then-is_frequent c =
    let line = c.args.line.now in
    let behind = space_behind line c.if-line-eq32.true in
    elim (one_of_two _ _ (sym c.is_frequent.ensures ∙ c.if-is_frequent.true)) [
      | inl same ↦ opens line ((bytes_decides _ _).0 same) behind
      | inr same ↦ is_done line ((bytes_decides _ _).0 same) behind
    ]
