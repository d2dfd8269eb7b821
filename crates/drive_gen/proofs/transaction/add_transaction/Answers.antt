use Rattle.drive_gen.proofs.Common.{◌≡◌, ℕ, ◌+◌, ap, arith, refl, sym, ◌∙◌, next_state, generator_after, page_count}
use Rattle.std.proofs.Common.{Result, Ok, Err}
use Rattle.std.specs.Result.{OnOk}
use Rattle.drive_gen.specs.Generator.{high_bits}
use Rattle.drive_gen.specs.Kinds.{kind_of}
use Rattle.drive_gen.specs.declared.kind.Kind.{Kind}
use Rattle.drive_gen.specs.declared.kind.Kind.TheVariants as kind
use Rattle.drive_gen.proofs.DrawLemmas.{kind_abort, kind_cut, kind_finish, state_more}
use Rattle.drive_gen.proofs.transaction.add_transaction.Goals as goal

on_ok : {T E P : Type 0} (r : Result T E) → P → OnOk r P
on_ok (Ok x) p = p
on_ok (Err e) p = tt

-- the state behind the draw of the kind
third : (x n a b : ℕ) → a ≡ generator_after x (n + 2) → b ≡ next_state a → b ≡ generator_after x (n + 3)
third x n a b p q = q ∙ ap next_state p ∙ state_more x (n + 2) (n + 3) (omega arith)

-- the kind that was drawn
kind_is : (x n a : ℕ) (k : Kind) → a ≡ generator_after x (n + 2) → k ≡ kind_of (high_bits (next_state a) 50) →
    kind_of (high_bits (generator_after x (n + 3)) 50) ≡ k
kind_is x n a k p q = sym (q ∙ ap (λ s. kind_of (high_bits s 50)) (third x n a (next_state a) p refl))

pub returns-in-Cut-clause-commands : goal.returns-in-Cut-clause-commands
returns-in-Cut-clause-commands c =
    let x = c.args.generator.now.state in
    let n = page_count c.args.config x in
    let third = third x n c.draw_batch.new.generator.state c.draw.new.generator.state c.in_ok-batch.ensures.state
    c.in-Cut.ensures.state in
    let is = kind_cut c.args.config x c.args.tag (kind_is x n c.draw_batch.new.generator.state kind.Cut
    c.in_ok-batch.ensures.state c.in-Cut.ensures.kind) in
    let four : next_state c.draw.new.generator.state ≡ generator_after x (n + 4) = ap next_state third
    ∙ state_more x (n + 3) (n + 4) (omega arith) in
    let five : next_state (generator_after x (n + 4)) ≡ generator_after x (n + 5) =
    state_more x (n + 4) (n + 5) (omega arith) in
    rw (is.0, ← c.in_ok-batch.ensures.batch) (rw (four, five) at c.add_cut.ensures.commands)

pub returns-in-Cut-clause-state : goal.returns-in-Cut-clause-state
returns-in-Cut-clause-state c =
    let x = c.args.generator.now.state in
    let n = page_count c.args.config x in
    let third = third x n c.draw_batch.new.generator.state c.draw.new.generator.state c.in_ok-batch.ensures.state
    c.in-Cut.ensures.state in
    let is = kind_cut c.args.config x c.args.tag (kind_is x n c.draw_batch.new.generator.state kind.Cut
    c.in_ok-batch.ensures.state c.in-Cut.ensures.kind) in
    let four : next_state c.draw.new.generator.state ≡ generator_after x (n + 4) = ap next_state third
    ∙ state_more x (n + 3) (n + 4) (omega arith) in
    let five : next_state (generator_after x (n + 4)) ≡ generator_after x (n + 5) =
    state_more x (n + 4) (n + 5) (omega arith) in
    rw is.1 (on_ok c.add_cut.result (c.add_cut.ensures.state ∙ ap next_state four ∙ five))

pub returns-in-Abort-clause-commands : goal.returns-in-Abort-clause-commands
returns-in-Abort-clause-commands c =
    let x = c.args.generator.now.state in
    let n = page_count c.args.config x in
    let third = third x n c.draw_batch.new.generator.state c.draw.new.generator.state c.in_ok-batch.ensures.state
    c.in-Abort.ensures.state in
    let is = kind_abort c.args.config x c.args.tag (kind_is x n c.draw_batch.new.generator.state kind.Abort
    c.in_ok-batch.ensures.state c.in-Abort.ensures.kind)
    in
    rw is.0 (rw c.in_ok-batch.ensures.batch at c.add_abort.ensures)

pub returns-in-Abort-clause-state : goal.returns-in-Abort-clause-state
returns-in-Abort-clause-state c =
    let x = c.args.generator.now.state in
    let n = page_count c.args.config x in
    let third = third x n c.draw_batch.new.generator.state c.draw.new.generator.state c.in_ok-batch.ensures.state
    c.in-Abort.ensures.state in
    let is = kind_abort c.args.config x c.args.tag (kind_is x n c.draw_batch.new.generator.state kind.Abort
    c.in_ok-batch.ensures.state c.in-Abort.ensures.kind)
    in
    rw is.1 (on_ok c.add_abort.result third)

pub returns-in-Finish-clause-commands : goal.returns-in-Finish-clause-commands
returns-in-Finish-clause-commands c =
    let x = c.args.generator.now.state in
    let n = page_count c.args.config x in
    let third = third x n c.draw_batch.new.generator.state c.draw.new.generator.state c.in_ok-batch.ensures.state
    c.in-Finish.ensures.state in
    let is = kind_finish c.args.config x c.args.tag (kind_is x n c.draw_batch.new.generator.state kind.Finish
    c.in_ok-batch.ensures.state
    c.in-Finish.ensures.kind) in
    rw (is.0, ← c.in_ok-batch.ensures.batch) c.add_finish.ensures

pub returns-in-Finish-clause-state : goal.returns-in-Finish-clause-state
returns-in-Finish-clause-state c =
    let x = c.args.generator.now.state in
    let n = page_count c.args.config x in
    let third = third x n c.draw_batch.new.generator.state c.draw.new.generator.state c.in_ok-batch.ensures.state
    c.in-Finish.ensures.state in
    let is = kind_finish c.args.config x c.args.tag (kind_is x n c.draw_batch.new.generator.state kind.Finish
    c.in_ok-batch.ensures.state
    c.in-Finish.ensures.kind) in
    rw is.1 (on_ok c.add_finish.result third)
