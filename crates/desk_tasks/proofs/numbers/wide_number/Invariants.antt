use Rattle.desk_tasks.proofs.Common.{◌≡◌, ◌<◌, ◌*◌}
use Rattle.std.proofs.Common.{◌^◌, drop, ◌+◌, ◌-◌}
use Rattle.std.specs.List.{list_all, fold}
use Rattle.host_protocol.specs.Numbers.{is_digit, value_of}
use Rattle.desk_tasks.proofs.numbers.wide_number.Given as goal

abbrev pub invariant-loop-digit : goal.invariant-loop-digit
invariant-loop-digit l = record {
  value : fold (λ n digit. n * 10 + (digit - 48)) l.value (drop l.digit-index l.word) ≡ value_of l.word;
  digits : list_all is_digit (drop l.digit-index l.word) ≡ list_all is_digit l.word;
  bound : l.value < 10 ^ l.digit-index;
}
