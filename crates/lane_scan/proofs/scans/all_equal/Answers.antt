use Rattle.std.proofs.Common.{◌≡◌, ◌-◌, length, take, drop, sym, ap, ◌∙◌, arith}
use Rattle.std.proofs.lemmas.List.{length-drop, take_all, drop-drop}
use Rattle.lane_scan.specs.Scans.{all_equal}
use Rattle.lane_scan.proofs.ScanLemmas.{all_equal-take, all_equal-drop, rest_is, last_decides}
use Rattle.lane_scan.proofs.scans.all_equal.Goals as goal

pub returns-then-not-all_equal : goal.returns-then-not-all_equal
returns-then-not-all_equal c =
    all_equal-take 32 c.loop-rest.rest.now c.args.value (sym c.all_equal.ensures ∙ c.if-not-all_equal.true)
    ∙ c.loop-rest.invariant.0

pub loop-rest-preserved : goal.loop-rest-preserved
loop-rest-preserved c =
    let rest = c.loop-rest.rest.now in
    let whole : take (length rest - 32) (drop 32 rest) ≡ drop 32 rest =
    take_all _ (drop 32 rest) (omega (arith, length-drop 32 rest)) in (
      ap (λ bytes. all_equal bytes c.args.value) whole
          ∙ all_equal-drop 32 rest c.args.value (sym c.all_equal.ensures ∙ c.if-not-all_equal.false)
          ∙ c.loop-rest.invariant.0,
      omega (arith, ap length whole, length-drop 32 rest, c.loop-rest.invariant.1),
      whole ∙ ap (drop 32) c.loop-rest.invariant.2 ∙ drop-drop 32 (length c.args.bytes.now - length rest)
          c.args.bytes.now
          ∙ ap (λ k. drop k c.args.bytes.now) (omega (
            arith,
            ap length whole,
            length-drop 32 rest,
            c.loop-rest.invariant.1,
          )),
    )

-- the last bytes of all that fill a vector
pub returns-then-bytes-ge-LANES : goal.returns-then-bytes-ge-LANES
returns-then-bytes-ge-LANES c =
    let bytes = c.args.bytes.now in
    let from = length bytes - 32 in
    let last : take 32 (take (length bytes - from) (drop from bytes)) ≡ drop from bytes =
    ap (take 32) (rest_is from bytes) ∙ take_all 32 (drop from bytes) (omega (arith, length-drop from bytes)) in
    c.all_equal-then-bytes-ge-LANES.ensures ∙ ap (λ l. all_equal l c.args.value) last
    ∙ last_decides 32 bytes c.loop-rest.rest.now c.args.value c.if-bytes-ge-LANES.true
    (omega (arith, c.loop-rest-test.false))
    c.loop-rest.invariant.2 c.loop-rest.invariant.0

pub returns : goal.returns
returns c = c.all_equal_by_one.ensures ∙ c.loop-rest.invariant.0
