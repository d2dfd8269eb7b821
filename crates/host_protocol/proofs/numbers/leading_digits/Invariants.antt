use Rattle.host_protocol.proofs.Common.{◌-◌, ◌≡◌, take, drop, ◌+◌, ◌^◌, ◌<◌, ◌≤◌, length, is_digit, digits_in}
use Rattle.std.proofs.Common.{min}
use Rattle.std.specs.List.{prefix_len}
use Rattle.host_protocol.specs.Numbers.{value_of}
use Rattle.host_protocol.proofs.numbers.leading_digits.Given as goal

abbrev pub invariant-loop-digits : goal.invariant-loop-digits
invariant-loop-digits l = record {
  count : l.digits + prefix_len is_digit (drop l.digits l.text) ≡ digits_in l.text;
  value : l.value ≡ value_of (take l.digits l.text);
  bound : l.value < 10 ^ l.digits;
  most : l.digits ≤ l.most;
  room : l.most ≡ min (length l.text) 11;
}

abbrev pub decreases-loop-digits : goal.decreases-loop-digits
decreases-loop-digits l = l.most - l.digits
