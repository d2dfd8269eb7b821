use Rattle.page_keys.proofs.Common.{◌≡◌, ◌&&◌, Bool, true, false, length, drop, refl, sym, ap, ◌∙◌, arith, list_all}
use Rattle.std.proofs.Math.Seq.{drop-length}
use Rattle.page_keys.proofs.short_bytes.all_zero.Invariants.Zeros.{is_zero, all_zeros}
use Rattle.page_keys.proofs.short_bytes.all_zero.Goals as goal

and_true : (b : Bool) → (b && true) ≡ b
and_true true = refl
and_true false = refl

pub returns : goal.returns
returns c =
    let bytes = c.args.bytes.now in
    let end : c.loop-byte.byte-index ≡ length bytes =
    omega (arith, c.loop-byte-test.false, c.loop-byte.auto.byte-index-end) in
    all_zeros bytes c.loop-byte.zero
    (sym (ap (λ k. c.loop-byte.zero && list_all is_zero (drop k bytes)) end
    ∙ ap (λ l. c.loop-byte.zero && list_all is_zero l) (drop-length bytes)
    ∙ and_true c.loop-byte.zero) ∙ c.loop-byte.invariant)
