-- Where the parts of the slots stand: within the file, and apart from each other.
use Rattle.file_flash.proofs.Common.{◌≢◌, ◌⊎◌, ℕ, ◌+◌, ◌*◌, ◌<◌, ◌≤◌, inl, inr, arith}
use Rattle.std.proofs.lemmas.Bool.{cases_lt}
use Rattle.list_lemmas.proofs.Chunks.{chunk_end}

-- the own bytes of another slot stand before or behind
pub cells_apart : (size k at j : ℕ) → k ≢ at → j < size → (k * size + j < at * size) ⊎ (at * size + size ≤ k * size + j)
cells_apart size k at j ne inside =
    elim (cases_lt k at) [
      | inl before ↦ (let ends : k * size + size ≤ at * size = chunk_end size k at before in inl (omega arith))
      | inr from ↦ (let after : at < k = omega arith in
          let ends : at * size + size ≤ k * size = chunk_end size at k after in inr (omega arith))
    ]
