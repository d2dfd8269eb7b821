-- A line in parts.
use Rattle.drive_gen.proofs.Common.{◌≡◌, ℕ, List, [], ◌∷◌, ◌++◌, refl, ap, ◌∙◌, append_assoc}
use Rattle.std.proofs.lemmas.List.Concat.{flat_map-append}
use Rattle.host_protocol.specs.Replies.{line_of}
use Rattle.drive_gen.specs.Summary.{spaced}

-- words, each with a space behind it, and then a line
line_front : (words : List (List ℕ)) (word : List ℕ) (more : List (List ℕ)) →
    line_of (words ++ word ∷ more) ≡ spaced words ++ line_of (word ∷ more)
line_front [] word more = refl
line_front (first ∷ []) word more = simp append_assoc
line_front (first ∷ next ∷ words) word more = rw (line_front (next ∷ words) word more) (simp append_assoc)

-- three parts, and the last one
pub line_parts : (a b c : List (List ℕ)) (word : List ℕ) (more : List (List ℕ))
    → line_of (a ++ b ++ c ++ word ∷ more) ≡ spaced a ++ spaced b ++ spaced c ++ line_of (word ∷ more)
line_parts a b c word more =
    let space = λ (w : List ℕ). w ++ 32 ∷ [] in
    line_front (a ++ b ++ c) word more ∙ ap (λ text. text ++ line_of (word ∷ more)) (flat_map-append space (a ++ b) c ∙
    ap (λ text. text ++ spaced c) (flat_map-append space a b))
