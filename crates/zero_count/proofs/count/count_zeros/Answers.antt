use Rattle.std.proofs.Common.{◌≡◌, ◌/◌, [], length, get_or, ap, ◌∙◌, arith}
use Rattle.std.specs.Int.{w64, count_zeros, from_le_bytes}
use Rattle.std.specs.Simd.{first_chunks}
use Rattle.zero_count.proofs.WordLemmas.{word_more}
use Rattle.zero_count.proofs.count.count_zeros.Goals as goal

pub loop-word-preserved : goal.loop-word-preserved
loop-word-preserved c =
    let bytes = c.args.bytes.now in
    let i = c.loop-word.word-index in
    let word = get_or (first_chunks 8 (length bytes / 8) bytes) i [] in
    let spelled : c.from_le_bytes.result ≡ from_le_bytes w64 word =
    c.from_le_bytes.ensures ∙ ap (λ words. from_le_bytes w64 (get_or words i [])) c.as_chunks.ensures.front in
    let counted : c.count_zeros-count.result ≡ count_zeros w64 (from_le_bytes w64 word) =
    c.count_zeros-count.ensures.value ∙ ap (count_zeros w64) spelled in
    let more = word_more bytes i (record { at = λ k. omega (arith, c.type_inv.bytes k) })
    (omega (arith, c.loop-word-test.true, c.as_chunks.ensures.front_len)) in (
      omega (arith, c.loop-word.invariant.0, counted, more),
      omega (arith, c.loop-word.invariant.1, c.count_zeros-count.ensures.bound),
    )
