use Rattle.std.proofs.lemmas.Slice.Eq.{strip_prefix_is}
use Rattle.std.proofs.lemmas.Bool.Decides.{Decides-eqb}
use Rattle.verdict_check.proofs.Common.{ap, ◌∙◌, sym, option_map, left_behind}
use Rattle.verdict_check.proofs.TextLemmas.{behind_is}
use Rattle.verdict_check.proofs.reading.Reading.then.Goals as goal

pub returns : goal.returns
returns c = behind_is c.args.piece.now c.in-Some.text.now c.strip_prefix.result
    (strip_prefix_is Decides-eqb c.in-Some.text.now c.args.piece.now c.strip_prefix.result c.strip_prefix.ensures.cases)
    ∙ ap (λ o. left_behind c.args.piece.now (option_map (λ rest. rest.now) o)) (sym c.in-Some.is)
