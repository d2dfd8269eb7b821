use Rattle.host_protocol.proofs.Common.{sym, ap, ◌∙◌, inl, inr, arith, position, length-take, is_space_or_tab}
use Rattle.std.proofs.lemmas.List.{take_all}
use Rattle.host_protocol.proofs.SearchLemmas.{near_is}
use Rattle.host_protocol.proofs.words.first_blank.Goals as goal

pub returns-then-is_some : goal.returns-then-is_some
returns-then-is_some c =
    let line = c.args.line.now in
    let near = c.near_blank-found.ensures in
    elim c.then-is_some.either [
      | inl some ↦ near_is is_space_or_tab c.min.result line c.near_blank-found.result near
          (sym c.is_some.ensures ∙ some)
      | inr w ↦ near ∙ ap (position is_space_or_tab)
          (take_all c.min.result line (omega (arith, length-take c.min.result line, w.1)))
    ]
