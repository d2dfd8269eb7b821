-- What stands behind a piece at the beginning of a text.
use Rattle.verdict_check.proofs.Common.{◌≡◌, ◌≢◌, ℕ, ◌==◌, Option, Some, None, List, [], ◌∷◌, ◌++◌, refl, sym, ap, ◌∙◌, inl, inr, eqb-true, eq-eqb, option_map, cases_Bool, cond-true, cond-false, behind, left_behind}
use Rattle.std.specs.Option.{MatchOption}
use denote.Ref.{Bor}

pub behind_same : (piece rest : List ℕ) → behind piece (piece ++ rest) ≡ Some rest
unfolding behind
behind_same [] rest = refl
behind_same (b ∷ bs) rest = cond-true (b == b) (behind bs (bs ++ rest)) None (eq-eqb b b refl) ∙ behind_same bs rest

-- a text that begins with a piece is that and the rest
pub behind_some : (piece text rest : List ℕ) → behind piece text ≡ Some rest → text ≡ piece ++ rest
unfolding behind
behind_some [] text rest e = cc
behind_some (b ∷ bs) [] rest e = absurd cc
behind_some (b ∷ bs) (c ∷ cs) rest e = elim (cases_Bool (b == c)) [
  | inl t ↦ (let same = eqb-true b c t in
      let more = behind_some bs cs rest (sym (cond-true (b == c) (behind bs cs) None t) ∙ e) in cc)
  | inr f ↦ absurd (let none = cond-false (b == c) (behind bs cs) None f in cc)
]

pub behind_none : (piece text : List ℕ) → ((rest : List ℕ) → text ≢ piece ++ rest) → behind piece text ≡ None
behind_none piece text other = none_of (behind piece text) refl
  where
    none_of : (o : Option (List ℕ)) → behind piece text ≡ o → behind piece text ≡ None
    none_of None e = e
    none_of (Some rest) e = absurd (other rest (behind_some piece text rest e))

-- as `strip_prefix` says it
pub behind_is : (piece text : List ℕ) (found : Option (Bor (List ℕ))) →
    MatchOption found ((rest : List ℕ) → text ≢ piece ++ rest) (λ rest. text ≡ piece ++ rest.now) →
    option_map (λ rest. rest.now) found ≡ behind piece text
behind_is piece text None other = sym (behind_none piece text other)
behind_is piece text (Some rest) e = sym (ap (behind piece) e ∙ behind_same piece rest.now)

-- two pieces are read as one
behind_both : (first second text : List ℕ) → left_behind second (behind first text) ≡ behind (first ++ second) text
unfolding behind
behind_both [] second text = refl
behind_both (b ∷ bs) second [] = refl
behind_both (b ∷ bs) second (c ∷ cs) = elim (cases_Bool (b == c)) [
  | inl t ↦ ap (left_behind second) (cond-true (b == c) (behind bs cs) None t) ∙ behind_both bs second cs
      ∙ sym (cond-true (b == c) (behind (bs ++ second) cs) None t)
  | inr f ↦ ap (left_behind second) (cond-false (b == c) (behind bs cs) None f)
      ∙ sym (cond-false (b == c) (behind (bs ++ second) cs) None f)
]

pub both : (first second : List ℕ) (o p q : Option (List ℕ)) → p ≡ left_behind first o → q ≡ left_behind second p →
    q ≡ left_behind (first ++ second) o
both first second None p q e f = f ∙ ap (left_behind second) e
both first second (Some text) p q e f = f ∙ ap (left_behind second) e ∙ behind_both first second text

-- three pieces, and four
pub three : (a b c : List ℕ) (o p q r : Option (List ℕ)) → p ≡ left_behind a o → q ≡ left_behind b p →
    r ≡ left_behind c q → r ≡ left_behind (a ++ (b ++ c)) o
three a b c o p q r e f g = both a (b ++ c) o p r e (both b c p q r f g)

pub four : (a b c d : List ℕ) (o p q r s : Option (List ℕ)) → p ≡ left_behind a o → q ≡ left_behind b p →
    r ≡ left_behind c q → s ≡ left_behind d r →
    s ≡ left_behind (a ++ (b ++ (c ++ d))) o
four a b c d o p q r s e f g h = both a (b ++ (c ++ d)) o p s e (three b c d p q r s f g h)

-- no piece
pub no_piece : (o : Option (List ℕ)) → o ≡ left_behind [] o
unfolding behind
no_piece None = refl
no_piece (Some text) = refl
