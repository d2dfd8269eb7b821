use Rattle.std.proofs.Common.{◌≡◌, ◌∙◌, ℕ, refl, ap, subst}
use Rattle.std.specs.Prelude.{Vec}
use Rattle.std.specs.Global.{Global}
use Rattle.std.proofs.lemmas.Result.{IfOk-weaker}
use Rattle.view_command_line.specs.declared.opening.Opening.TheVariants as opening
use Rattle.view_command_line.specs.Ending.{Gives, IsOpening, Opens, ending_of, marks_of, picture_in}
use Rattle.view_command_line.proofs.PictureEndings.{opens_drawn}
use Rattle.view_command_line.proofs.drawing.draw_flash.Goals as goal

pub returns-in-Sound-clause-text : goal.returns-in-Sound-clause-text
returns-in-Sound-clause-text c =
    let its = c.args.config in
    let image = c.args.flash.now.image in
    let opened = opening.Sound c.in-Sound.block in
    IfOk-weaker c.text.result (λ (text : Vec ℕ Global). text.items ≡ picture_in c.args.form its c.deref.result.now
    (marks_of opened))
    (λ (text : Vec ℕ Global). Gives (Opens c.args.form c.args.unsound its image) text.items)
    (λ text e. opens_drawn c.args.form c.args.unsound its image opened text.items
    (subst (λ o. IsOpening its image o) c.in-Sound.is c.in_ok-block.ensures) refl
    (e ∙ ap (λ notes. picture_in c.args.form its notes (marks_of opened)) (c.deref.ensures.value
    ∙ c.in_ok-notes.ensures.notes)))
    c.text.ensures.text

pub returns-then-unsound-clause-text : goal.returns-then-unsound-clause-text
returns-then-unsound-clause-text c =
    let its = c.args.config in
    let image = c.args.flash.now.image in
    let opened = opening.Unsound c.in-Unsound.breach in
    IfOk-weaker c.text-then-unsound.result (λ (text : Vec ℕ Global). text.items
    ≡ picture_in c.args.form its c.deref-then-unsound.result.now (marks_of opened))
    (λ (text : Vec ℕ Global). Gives (Opens c.args.form c.args.unsound its image) text.items)
    (λ text e. opens_drawn c.args.form c.args.unsound its image opened text.items
    (subst (λ o. IsOpening its image o) c.in-Unsound.is c.in_ok-block.ensures)
    (ap (λ b. ending_of c.args.form b its image opened) c.if-unsound.true)
    (e ∙ ap (λ notes. picture_in c.args.form its notes (marks_of opened)) (c.deref-then-unsound.ensures.value
    ∙ c.in_ok-notes.ensures.notes)))
    c.text-then-unsound.ensures.text
