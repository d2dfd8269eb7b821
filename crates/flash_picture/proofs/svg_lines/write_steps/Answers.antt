use Rattle.flash_picture.proofs.Common.{◌≡◌, ◌∙◌, ℕ, ◌+◌, ◌<◌, ◌≤◌, List, [], ◌∷◌, ◌++◌, append-nil, append_assoc, ap, ap₂, arith, get_or, length, refl, steps_rows, sym}
use Rattle.std.proofs.Common.{add-one, drop, drop-cons, length-drop}
use Rattle.std.proofs.lemmas.List.{nil_from_length}
use Rattle.flash_picture.specs.Svg.{columns_with, count_rows, step_row, steps_begin}
use Rattle.flash_picture.specs.declared.walk.Step.{Step}
use Rattle.flash_picture.proofs.svg_lines.write_steps.Goals as goal

module _ (steps : List Step) (i : ℕ) (none : Step) (within : i < length steps) where
  behind : drop i steps ≡ get_or steps i none ∷ drop (i + 1) steps
  behind = rw add-one (drop-cons steps i none within)

  rows_more : (columns with : ℕ) (text new all : List ℕ) → with ≡ columns_with columns (get_or steps i none) →
      new ≡ text ++ step_row columns (get_or steps i none) → text ++ steps_rows columns (drop i steps) ≡ all →
      new ++ steps_rows with (drop (i + 1) steps) ≡ all
  rows_more columns with text new all is grown before =
      ap₂ (λ t n. t ++ steps_rows n (drop (i + 1) steps)) grown is
      ∙ append_assoc text (step_row columns (get_or steps i none))
      (steps_rows (columns_with columns (get_or steps i none)) (drop (i + 1) steps))
      ∙ ap (λ l. text ++ steps_rows columns l) (sym behind) ∙ before

  begin_more : (columns with begun more all : ℕ) → with ≡ columns_with columns (get_or steps i none) →
      more ≡ count_rows columns → begun + steps_begin columns (drop i steps) ≡ all →
      (begun + more) + steps_begin with (drop (i + 1) steps) ≡ all
  begin_more columns with begun more all is one before =
      let last = ap (λ n. steps_begin n (drop (i + 1) steps)) is in
      let first = ap (steps_begin columns) behind in
      omega arith

-- all of the steps are behind
none_behind : (steps : List Step) (i : ℕ) → length steps ≤ i → drop i steps ≡ []
none_behind steps i whole = nil_from_length (drop i steps) (omega (arith, length-drop i steps))

pub loop-step-init : goal.loop-step-init
loop-step-init c = (refl, omega arith, c.requires, omega arith)

pub loop-step-preserved : goal.loop-step-preserved
loop-step-preserved c =
    let steps = c.args.steps.now in
    let i = c.loop-step.step-index in
    let within = c.loop-step-test.true in
    let at = c.loop-step.columns in (
      rows_more steps i _ within at c.in_ok-columns.columns c.loop-step.text.items c.write_step.new.text.items
          _ c.in_ok-columns.ensures.columns c.in_ok-columns.ensures.text c.loop-step.invariant.0,
      begin_more steps i _ within at c.in_ok-columns.columns c.loop-step.begun c.count_rows-begun.result
          _ c.in_ok-columns.ensures.columns c.count_rows-begun.ensures.rows c.loop-step.invariant.1,
      c.in_ok-columns.ensures.within,
      omega (arith, c.count_rows-begun.ensures.few, c.loop-step.invariant.3),
    )

pub returns-clause-text : goal.returns-clause-text
returns-clause-text c =
    sym (append-nil c.loop-step.text.items)
    ∙ ap (λ l. c.loop-step.text.items ++ steps_rows c.loop-step.columns l)
    (sym (none_behind c.args.steps.now c.loop-step.step-index c.loop-step-test.false)) ∙ c.loop-step.invariant.0

pub returns-clause-lines : goal.returns-clause-lines
returns-clause-lines c =
    let none = ap (steps_begin c.loop-step.columns)
    (none_behind c.args.steps.now c.loop-step.step-index c.loop-step-test.false) in
    omega (arith, none, c.loop-step.invariant.1)

pub returns-clause-few : goal.returns-clause-few
returns-clause-few c = omega (arith, c.loop-step.invariant.3, c.loop-step.auto.step-index-end)
