use Rattle.std.proofs.Common.{ℕ, ◌<◌, ◌≤◌}
use Rattle.host_protocol.specs.Digits.{ReadsPair, HasOther}
use Rattle.host_protocol.proofs.hexadecimal.decode_rest.Given as goal

abbrev pub invariant-loop-i : goal.invariant-loop-i
invariant-loop-i l = record {
  digits : l.greatest < 16 → (k : ℕ) → k < l.i → ReadsPair l.text l.bytes k;
  others : 16 ≤ l.greatest → HasOther l.text;
}
