use Rattle.std.proofs.Common.{ℕ, cond, ltb, refl}
use Rattle.std.proofs.lemmas.Simd.{zip2_splat}
use Rattle.host_protocol.proofs.LaneLemmas.{joined, splat_is, selected, tops, values_are}
use Rattle.host_protocol.proofs.digit_lanes.digit_values.Goals as goal

pub returns : goal.returns
returns c =
    let v = c.args.digits in
    let long = c.fits-digits.0 in
    let past_nine = zip2_splat {Y = ℕ} _ v 16 58 long in
    let past_a = joined _ _ _ v (zip2_splat {Y = ℕ} _ v 16 32 long) (splat_is v 16 97 long) in
    let six = splat_is v 16 6 long in
    let ten = splat_is v 16 10 long in
    let less : ℕ → ℕ → ℕ = λ a b. cond (ltb a b) 255 0 in
    let number = joined _ _ _ v (selected _ _ _ v (tops _ v (joined less _ _ v past_nine six)) six past_nine) ten in
    let letter = joined _ _ _ v (selected _ _ _ v (tops _ v (joined less _ _ v past_a six)) past_a six) ten in
    values_are v _ c.fits-digits.1 _
    (selected _ _ _ v (tops _ v (joined less _ _ v number letter)) number letter)
    refl
