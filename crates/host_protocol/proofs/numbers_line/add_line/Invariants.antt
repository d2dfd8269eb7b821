use Rattle.host_protocol.proofs.Common.{◌≡◌, ◌+◌, ◌-◌, ◌*◌, ◌≤◌, ◌++◌, ◌∷◌, length, take, flat_map, decimal}
use Rattle.std.proofs.Common.{vec_len, vec_capacity}
use Rattle.host_protocol.proofs.numbers_line.add_line.Given as goal

abbrev pub invariant-loop-number : goal.invariant-loop-number
invariant-loop-number l = record {
  items : l.out.items ≡ l.fn.out.items ++ l.words ++ flat_map (λ n. 32 ∷ decimal n) (take l.number-index l.numbers);
  room : vec_len l.out + 11 * (length l.numbers - l.number-index) + 1 ≤ vec_capacity l.out;
}
