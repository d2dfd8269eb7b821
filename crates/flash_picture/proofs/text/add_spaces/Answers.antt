use Rattle.flash_picture.proofs.Common.{◌≡◌, ◌∙◌, [], ◌∷◌, ◌++◌, ap, append-nil, append_assoc, arith, sym}
use Rattle.std.proofs.Common.{replicate}
use Rattle.std.proofs.lemmas.List.{replicate_more}
use Rattle.flash_picture.proofs.text.add_spaces.Goals as goal

pub loop-space-init : goal.loop-space-init
loop-space-init c = sym (append-nil c.args.text.now.items)

pub loop-space-preserved : goal.loop-space-preserved
loop-space-preserved c =
    let old = c.args.text.now.items in
    let spaces = replicate c.loop-space._space 32 in
    c.in_ok-add.ensures ∙ ap (λ t. t ++ 32 ∷ []) c.loop-space.invariant ∙ append_assoc old spaces (32 ∷ [])
    ∙ ap (λ t. old ++ t) (replicate_more c.loop-space._space 32)

pub returns : goal.returns
returns c =
    let all : c.loop-space._space ≡ c.args.count = omega arith in
    c.loop-space.invariant ∙ ap (λ n. c.args.text.now.items ++ replicate n 32) all
