pub mod Zeros
use Rattle.page_keys.proofs.Common.{◌≡◌, ◌&&◌, drop, list_all}
use Rattle.page_keys.proofs.short_bytes.all_zero.Invariants.Zeros.{is_zero}
use Rattle.page_keys.proofs.short_bytes.all_zero.Given as goal

abbrev pub invariant-loop-byte : goal.invariant-loop-byte
invariant-loop-byte l =
    (l.zero && list_all is_zero (drop l.byte-index l.bytes)) ≡ list_all is_zero l.bytes
