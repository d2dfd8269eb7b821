-- What an erase that may be broken leaves of the slots of a flash.
use Rattle.std.specs.Prelude.{◌≡◌, ◌⊎◌, ℕ, ◌+◌, ◌<◌, ◌≤◌, List, length}
use Rattle.flash_model.specs.Flash.{Contents, blank, damaged, complete, slot_at}

-- a slot without contents
abbrev pub IsBare : Contents → Type 0
IsBare blank = Unit {0}
IsBare damaged = Unit {0}
IsBare (complete bytes spare_area) = ⊥

-- these slots have lost their contents, or are as before, and all others are
pub record IsCleared (old new : List Contents) (first count : ℕ) : Type 0 where
  pub lengths : length new ≡ length old
  pub inside : (k : ℕ) → first ≤ k → k < first + count → (slot_at new k ≡ slot_at old k) ⊎ IsBare (slot_at new k)
  pub outside : (k : ℕ) → (k < first) ⊎ (first + count ≤ k) → slot_at new k ≡ slot_at old k
