use Rattle.std.proofs.Common.{◌≡◌, ◌+◌, ◌*◌, ◌%◌, ◌<◌, refl, length, arith}
use Rattle.std.proofs.lemmas.Bool.Decides.{nat_tests}
use Rattle.host_protocol.proofs.DigitLemmas.{pair_more, others_more, decoded, undecoded}
use Rattle.host_protocol.proofs.hexadecimal.decode_rest.Goals as goal

pub loop-i-init : goal.loop-i-init
loop-i-init c = record {
  digits = λ small. c.requires.before;
  others = λ large. absurd (omega (arith, large));
}

pub loop-i-preserved : goal.loop-i-preserved
loop-i-preserved c =
    let text = c.args.text.now in
    let i = c.loop-i.i in
    let high = c.digit_value-high.result in
    let low = c.digit_value-low.result in
    let first = c.max.ensures in
    let second = c.max-greatest.ensures in
    let within : 2 * i + 1 < length text = omega arith in
    record {
      digits = λ small.
          let few : high < 16 = grind (arith, small, first, second) in
          let less : low < 16 = grind (arith, small, first, second) in
          let is : (high * 16 % 256 + low) % 256 ≡ high * 16 + low = omega (arith, few, less) in
          pair_more text c.loop-i.bytes i high low _ (omega arith) is
          c.digit_value-high.ensures c.digit_value-low.ensures few less
          (c.loop-i.invariant.digits (grind (arith, small, first, second)));
      others = λ large. others_more text (2 * i) c.loop-i.greatest high low c.max.result c.max-greatest.result within
          first second large
          c.loop-i.invariant.others c.digit_value-high.ensures c.digit_value-low.ensures;
    }

pub returns-clause-digits : goal.returns-clause-digits
returns-clause-digits c = λ small.
    decoded c.args.text.now c.loop-i.bytes (omega arith)
    (λ k less. c.loop-i.invariant.digits (grind (arith, nat_tests, small)) k (omega (arith, less)))

pub returns-clause-others : goal.returns-clause-others
returns-clause-others c = λ large. undecoded c.args.text.now
    _ (c.loop-i.invariant.others (grind (arith, nat_tests, large))) refl
