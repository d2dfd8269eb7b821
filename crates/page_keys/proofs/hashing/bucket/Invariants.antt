use Rattle.page_keys.proofs.Common.{◌≡◌, drop}
use Rattle.std.specs.Prelude.{fold}
use Rattle.page_keys.specs.KeyMaps.{hash_more}
use Rattle.page_keys.proofs.hashing.bucket.Given as goal

abbrev pub invariant-loop-byte : goal.invariant-loop-byte
invariant-loop-byte l = fold hash_more l.hash (drop l.byte-index l.key) ≡ fold hash_more 0 l.key
