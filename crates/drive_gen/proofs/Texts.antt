-- Texts that grow by pieces, where what became of each is joined by `and`.
use Rattle.drive_gen.proofs.Common.{◌≡◌, ℕ, List, [], ◌∷◌, ◌++◌, sym, ap, ◌∙◌, append_assoc}
use mathlib.Core.Path.{subst}
use Rattle.std.proofs.lemmas.List.Concat.{flat_map-append}
use Rattle.std.proofs.lemmas.Result.{on_ok_weaker}
use Rattle.std.specs.Result.{OnOk, result_and}
use Rattle.std.specs.declared.result.Result.{Result}
use Rattle.std.specs.declared.result.Result.TheVariants.{Ok, Err}
use Rattle.drive_gen.specs.Summary.{spaced}

module _ {E : Type 0} where
  -- a text that has grown by a piece, and grows by one more
  pub and_then : (old piece text more all : List ℕ) (first second whole : Result (Unit {0}) E) →
      OnOk first (text ≡ old ++ piece) → OnOk second (all ≡ text ++ more) → whole ≡ result_and first second →
      OnOk whole (all ≡ old ++ (piece ++ more))
  and_then old piece text more all first second whole before after is =
      subst (λ r. OnOk r (all ≡ old ++ (piece ++ more))) (sym is) (joined first before)
    where
      joined : (r : Result (Unit {0}) E) → OnOk r (text ≡ old ++ piece) →
          OnOk (result_and r second) (all ≡ old ++ (piece ++ more))
      joined (Ok _) grown =
          on_ok_weaker second (λ (end : all ≡ text ++ more). end ∙ ap (λ t. t ++ more) grown
          ∙ append_assoc old piece more) after
      joined (Err _) grown = tt

  -- the same in other words
  pub with_piece : (old new piece other : List ℕ) (r : Result (Unit {0}) E) → piece ≡ other →
      OnOk r (new ≡ old ++ piece) → OnOk r (new ≡ old ++ other)
  with_piece old new piece other r same said =
      on_ok_weaker r (λ (end : new ≡ old ++ piece). end ∙ ap (λ t. old ++ t) same) said

  -- words with a space behind each, and more of them
  pub and_spaced : (old text all : List ℕ) (words more : List (List ℕ)) (first second whole : Result (Unit {0}) E) →
      OnOk first (text ≡ old ++ spaced words) → OnOk second (all ≡ text ++ spaced more) →
      whole ≡ result_and first second → OnOk whole (all ≡ old ++ spaced (words ++ more))
  and_spaced old text all words more first second whole before after is =
      with_piece old all (spaced words ++ spaced more) (spaced (words ++ more)) whole
      (sym (flat_map-append (λ (w : List ℕ). w ++ 32 ∷ []) words more))
      (and_then old (spaced words) text (spaced more) all first second whole before after is)
