use Rattle.std.proofs.lemmas.Bool.Decides.{Decides-eqb}
use Rattle.std.proofs.lemmas.Slice.Eq.{strip_prefix_is}
use Rattle.host_protocol.proofs.Common.{Some}
use Rattle.host_protocol.proofs.VerbLemmas.{begins_behind}
use Rattle.host_protocol.proofs.leading.behind_verb.Goals as goal

pub returns : goal.returns
returns c = begins_behind c.args.line.now c.args.text.now c.args.verb c.in_ok-behind.behind.now c.requires
    (strip_prefix_is Decides-eqb c.args.line.now c.args.text.now (Some c.in_ok-behind.behind) c.in_ok-behind.ensures.cases)
