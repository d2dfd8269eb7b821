use Rattle.std.proofs.Common.{◌≡◌, ◌+◌, ◌*◌, ◌%◌, ◌<◌, ℕ, arith}
use Rattle.std.proofs.lemmas.Simd.{length-put_chunk}
use Rattle.host_protocol.proofs.LaneLemmas.{all_small, one_other, pairs_at}
use Rattle.host_protocol.proofs.digit_lanes.decode_lanes.Goals as goal

exact : (h l : ℕ) → h < 16 → l < 16 → (h * 16 % 256 + l) % 256 ≡ h * 16 + l
exact h l few less = omega (arith, few, less)

pub returns-clause-digits : goal.returns-clause-digits
returns-clause-digits c = λ none.
    let a = c.args in
    let high = c.digit_values-high in
    let low = c.digit_values-low in
    pairs_at a.at a.text.now high.result low.result c.requires.text high.ensures low.ensures _ _ a.bytes.now
    c.requires.bytes exact
    (all_small a.at a.text.now high.result low.result c.requires.text high.ensures low.ensures none)
    c.requires.before

pub returns-clause-others : goal.returns-clause-others
returns-clause-others c = λ some.
    one_other c.args.at c.args.text.now c.digit_values-high.result c.digit_values-low.result c.requires.text
    c.digit_values-high.ensures c.digit_values-low.ensures some

pub returns-clause-length : goal.returns-clause-length
returns-clause-length c = length-put_chunk c.args.at c.args.bytes.now _
