use Rattle.flash_picture.proofs.Common.{◌≡◌, ◌∙◌, ◌++◌, ℕ, List, ap, append_assoc, codes, sym, on_ok_weaker}
use Rattle.std.specs.Result.{OnOk, result_and}
use Rattle.std.specs.declared.result.Result.{Result}
use Rattle.flash_picture.specs.Pieces.{curve, point}
use Rattle.flash_picture.proofs.Texts.{and_then, with_piece}
use Rattle.flash_picture.proofs.pieces.add_curve.Goals as goal

-- a text that has grown by a piece, and grows by words and a place
further : {E : Type 0} (old piece text words place all : List ℕ) (first second whole : Result (Unit {0}) E) →
    OnOk first (text ≡ old ++ piece) → OnOk second (all ≡ (text ++ words) ++ place) → whole ≡ result_and first second →
    OnOk whole (all ≡ old ++ ((piece ++ words) ++ place))
further old piece text words place all first second whole before after is =
    with_piece old all (piece ++ (words ++ place)) ((piece ++ words) ++ place) whole
    (sym (append_assoc piece words place))
    (and_then old piece text (words ++ place) all first second whole before
    (on_ok_weaker second (λ (end : all ≡ (text ++ words) ++ place). end ∙ append_assoc text words place) after) is)

pub returns : goal.returns
unfolding curve
returns c =
    let old = c.args.text.now.items in
    let first = on_ok_weaker c.add_point.result
    (λ (end : c.add_point.new.text.items ≡ (old ++ codes "<path d='M") ++ point c.beside.result).
    end ∙ append_assoc old (codes "<path d='M") _ ∙ ap (λ s. old ++ (codes "<path d='M" ++ point s)) c.beside.ensures)
    c.add_point.ensures in
    let second = with_piece _ _ _ _ _ (ap point c.beside-2.ensures) c.add_point-2.ensures in
    let third = with_piece _ _ _ _ _ (ap point c.beside-3.ensures) c.add_point-3.ensures in
    let fourth = with_piece _ _ _ _ _ (ap point c.beside-4.ensures) c.add_point-4.ensures in
    and_then old _ _ _ _ _ _ _
    (further old _ _ _ _ _ _ _ _
    (further old _ _ _ _ _ _ _ _
    (further old _ _ _ _ _ _ _ _ first second c.and.ensures)
    third c.and-2.ensures)
    fourth c.and-3.ensures)
    c.add.ensures c.and-4.ensures
