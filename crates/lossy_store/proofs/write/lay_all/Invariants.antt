use Rattle.lossy_store.proofs.Common.{◌≡◌, ℕ, ◌<◌, length, take, get_or, byte_from}
use Rattle.lossy_store.proofs.write.lay_all.Given as goal

abbrev pub invariant-loop-write : goal.invariant-loop-write
invariant-loop-write l =
    (k : ℕ) → k < length l.initial.bytes →
    get_or l.bytes k 0 ≡ byte_from (take l.write-index l.writes) k (get_or l.initial.bytes k 0)
