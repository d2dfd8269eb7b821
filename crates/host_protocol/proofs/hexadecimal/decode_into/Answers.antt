use Rattle.std.proofs.Common.{refl}
use Rattle.host_protocol.proofs.DigitLemmas.{undecoded}
use Rattle.host_protocol.proofs.hexadecimal.decode_into.Goals as goal

pub returns-then-not-decode_lanes-clause-others : goal.returns-then-not-decode_lanes-clause-others
returns-then-not-decode_lanes-clause-others c = λ _.
    undecoded c.args.text.now _ (c.decode_lanes.ensures.others c.if-not-decode_lanes.true) refl
