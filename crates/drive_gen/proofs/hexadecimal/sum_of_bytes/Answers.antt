use Rattle.drive_gen.proofs.Common.{arith}
use Rattle.host_protocol.proofs.PartLemmas.{rest_is}
use Rattle.drive_gen.proofs.HexLemmas.{sum_more, sum_none, sum_most}
use Rattle.drive_gen.proofs.hexadecimal.sum_of_bytes.Goals as goal

pub overflow_add-sum : goal.overflow_add-sum
overflow_add-sum c =
    let more = sum_more c.loop-rest.rest.now c.in-len2-up.len_at_least in
    let most = sum_most c.args.digits.now in
    omega (arith, c.loop-rest.invariant)

pub loop-rest-preserved : goal.loop-rest-preserved
loop-rest-preserved c =
    let more = sum_more c.loop-rest.rest.now c.in-len2-up.len_at_least in
    rw (rest_is 2 c.loop-rest.rest.now) (omega (arith, c.loop-rest.invariant))

pub returns : goal.returns
returns c =
    let none = sum_none c.loop-rest.rest.now c.in_default.len_below in
    omega (arith, c.loop-rest.invariant)
