use Rattle.std.proofs.Common.{◌≡◌, ◌+◌, ◌-◌, ◌*◌, ◌/◌, length, refl, sym, ap, ◌∙◌, inr, arith}
use Rattle.live_file.proofs.AsImage.{whole_pieces}
use Rattle.live_file.proofs.reading.count_slots.Goals.{then-size-via-then-size, then-size-via-else-size+then-count-gt-MAX_SLOTS, then-size-via-else-size+else-count-gt-MAX_SLOTS+then-count-size}
use Rattle.live_file.proofs.reading.count_slots.Goals as goal

pub returns-then-size-clause-counts : goal.returns-then-size-clause-counts
returns-then-size-clause-counts c =
    let bytes = c.args.bytes.now in
    let size = c.args.size in
    inr (
      refl,
      λ n h.
          let whole : length bytes ≡ 64 + n * size = h.whole ∙ ap (λ s. 64 + n * s) (sym c.requires.size) in
          let behind : length bytes - 64 ≡ n * size = omega (arith, whole) in
          let is : (length bytes - 64) / size ≡ n =
          whole_pieces size n (length bytes - 64) (omega (arith, c.requires.size)) behind in
          elim c.then-size.branch [
            | then-size-via-then-size w ↦ (let a = w.if-size.true in omega (arith, a, c.requires.size, h.page))
            | then-size-via-else-size+then-count-gt-MAX_SLOTS w ↦
                (let a = w.if-count-gt-MAX_SLOTS.true in omega (arith, a, is, h.few))
            | then-size-via-else-size+else-count-gt-MAX_SLOTS+then-count-size w ↦
                w.if-count-size.true (ap (λ q. q * size) is ∙ sym behind)
          ],
    )
