mod Besides
use Rattle.durable_folder.proofs.Common.{◌≡◌, ◌++◌, []}
use Rattle.std.proofs.Common.{codes, append_assoc, append-nil}
use Rattle.std.specs.Fmt.{decimal}
use Rattle.std.specs.Prelude.{IfOk}
use Rattle.std.specs.String.{string_bytes}
use Rattle.durable_folder.proofs.temporary_names.own_temporary_name.Answers.Besides.{own_if_ok, numbered, not_numbered}
use Rattle.durable_folder.proofs.temporary_names.own_temporary_name.Goals as goal

pub returns-then-number-gt1 : goal.returns-then-number-gt1
returns-then-number-gt1 c =
    let text : IfOk c.format.result (λ s. string_bytes s ≡ c.range-front.result.now ++ codes ".saving"
    ++ decimal c.args.number) =
    simp append_assoc c.format.ensures.ok in
    own_if_ok string_bytes c.args.own.now c.range-front.result.now c.args.number c.floor_char_boundary.result
    (decimal c.args.number) c.format.result
    c.floor_char_boundary.ensures.bound c.floor_char_boundary.ensures.boundary c.floor_char_boundary.ensures.nearest
    (numbered c.args.number c.if-number-gt1.true) c.range-front.ensures.value text

pub returns : goal.returns
returns c =
    let text : IfOk c.format-2.result (λ s. string_bytes s ≡ c.range-front.result.now ++ codes ".saving" ++ []) =
    simp (append_assoc, append-nil) c.format-2.ensures.ok in
    own_if_ok string_bytes c.args.own.now c.range-front.result.now c.args.number c.floor_char_boundary.result []
    c.format-2.result
    c.floor_char_boundary.ensures.bound c.floor_char_boundary.ensures.boundary c.floor_char_boundary.ensures.nearest
    (not_numbered c.args.number c.if-number-gt1.false) c.range-front.ensures.value text
