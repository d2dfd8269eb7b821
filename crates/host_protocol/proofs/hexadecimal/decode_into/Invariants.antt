use Rattle.std.proofs.Common.{◌≡◌, ℕ, ◌*◌, ◌<◌, length}
use Rattle.host_protocol.specs.Digits.{ReadsPair}
use Rattle.host_protocol.proofs.hexadecimal.decode_into.Given as goal

abbrev pub invariant-loop-block : goal.invariant-loop-block
invariant-loop-block l = record {
  before : (k : ℕ) → k < l.block * 16 → ReadsPair l.text l.bytes k;
  same : length l.text ≡ 2 * length l.bytes;
}
