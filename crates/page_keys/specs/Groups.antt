-- The changes of a put in the order of the pages of their keys.
use Rattle.std.specs.Prelude.{◌≡◌, ℕ, ◌==◌, Bool, List, map, filter, is_some}
use Rattle.std.specs.List.Sorted.{IsNonDecreasingBy}
use denote.Ref.{Bor}
use Rattle.page_keys.specs.KeyMaps.{of_page}
use Rattle.page_keys.specs.declared.changes.Change.{Change}

-- a change with the page of its key
abbrev pub Placed : Type 0
Placed = ℕ × Bor Change

-- the changes of placed ones
abbrev pub changes_of : List Placed → List Change
changes_of placed = map (λ p. p.1.now) placed

-- whether a change puts a value
abbrev pub puts_value : Change → Bool
puts_value c = is_some c.value

-- those of a page
abbrev pub at_page : ℕ → List Placed → List Placed
at_page page placed = filter (λ p. p.0 == page) placed

-- changes in ascending order of pages, those of a page in the order of the put
pub record IsByPage (logical : ℕ) (changes : List Change) (placed : List Placed) : Type 0 where
  pub ascends : IsNonDecreasingBy (λ p. p.0) placed
  pub each : (page : ℕ) → changes_of (at_page page placed) ≡ of_page logical page changes
