-- Looking for the first key that stood earlier, change by change.
use Rattle.page_keys.proofs.Common.{◌≡◌, ℕ, suc, ◌+◌, ◌<◌, Bool, true, false, ◌||◌, cond, List, [], ◌∷◌, ◌++◌, length, take, drop, get_or, Some, refl, sym, ap, ◌∙◌, arith, length-take, list_any, is_eq, nat_cmp, bytes_eq, drop-cons, take_more, list_any-append, has_key, repeated, Change}
use Rattle.std.specs.Cmp.Lexicographic.{slice_cmp}
use Rattle.std.proofs.lemmas.Map.Text.{is_eq-slice_cmp}
use Rattle.page_keys.specs.declared.answers.PutError.TheVariants as refused

or_first : (a b : Bool) → cond a true b ≡ (b || (a || false))
or_first true true = refl
or_first true false = refl
or_first false true = refl
or_first false false = refl

module _ (cs : List Change) (i : ℕ) (c : Change) (within : i < length cs) (is : c ≡ get_or cs i c) where
  taken : take (i + 1) cs ≡ take i cs ++ c ∷ []
  taken = take_more cs i c within ∙ ap (λ (d : Change). take i cs ++ d ∷ []) (sym is)

  left : drop i cs ≡ c ∷ drop (i + 1) cs
  left =
      let later : suc i ≡ i + 1 = omega arith in
      drop-cons cs i c within ∙ ap (λ (d : Change). d ∷ drop (suc i) cs) (sym is)
      ∙ ap (λ k. c ∷ drop k cs) later

  -- whether a key is in a set that has the keys before, and then this one
  pub seen_more : (key q : List ℕ) (seen : Bool) → key ≡ c.key →
      seen ≡ list_any (has_key q) (take i cs) →
      cond (is_eq (slice_cmp nat_cmp key q)) true seen ≡ list_any (has_key q) (take (i + 1) cs)
  seen_more key q seen read before =
      ap (λ b. cond b true seen) (is_eq-slice_cmp key q ∙ ap (λ (k : List ℕ). bytes_eq k q) read)
      ∙ or_first (bytes_eq c.key q) seen
      ∙ ap (λ b. b || (bytes_eq c.key q || false)) before
      ∙ sym (ap (list_any (has_key q)) taken ∙ list_any-append (has_key q) (take i cs) (c ∷ []))

  pub repeated_here : repeated [] cs ≡ repeated (take i cs) (drop i cs) →
      list_any (has_key c.key) (take i cs) ≡ true →
      Some (refused.Repeated i) ≡ repeated [] cs
  repeated_here same stood =
      let size : length (take i cs) ≡ i = omega (arith, length-take i cs) in
      sym (same ∙ ap (repeated (take i cs)) left ∙ rw stood (ap (λ k. Some (refused.Repeated k)) size))

  pub repeated_later : repeated [] cs ≡ repeated (take i cs) (drop i cs) →
      list_any (has_key c.key) (take i cs) ≡ false →
      repeated [] cs ≡ repeated (take (i + 1) cs) (drop (i + 1) cs)
  repeated_later same none =
      same ∙ ap (repeated (take i cs)) left ∙ rw none refl
      ∙ ap (λ (l : List Change). repeated l (drop (i + 1) cs)) (sym taken)
