use Rattle.std.proofs.Common.{◌≡◌, ◌≤◌, ◌*◌, ◌+◌, ◌/◌, length, take}
use Rattle.zero_count.specs.Zeros.{zeros}
use Rattle.zero_count.proofs.count.count_zeros.Given as goal

-- the words that were seen are counted
abbrev pub invariant-loop-word : goal.invariant-loop-word
invariant-loop-word l = (l.count ≡ zeros (take (l.word-index * 8) l.bytes)) × (l.count ≤ 64 * l.word-index)

-- so are all the words and the bytes behind them that were seen
abbrev pub invariant-loop-byte : goal.invariant-loop-byte
invariant-loop-byte l = (l.count ≡ zeros (take (length l.bytes / 8 * 8 + l.byte-index) l.bytes))
    × (l.count ≤ 8 * (length l.bytes / 8 * 8 + l.byte-index))
