-- The first page in which the arrays of two devices differ, and what a comparison of them comes to.
use Rattle.std.specs.Prelude.{◌≡◌, ◌⊎◌, ℕ, ◌<◌, List, Option, None, Some}
use Rattle.tx_types.specs.declared.config.Config.{Config}
use Rattle.array_machine.specs.ArrayState.{Pages, page_at}
use Rattle.desk_tasks.specs.Ending.{Ending, Same, DifferShape, DifferBlank, DifferAt}
use Rattle.desk_tasks.specs.Checking.{HaveOneShape, DifferAtByte}
use Rattle.desk_tasks.specs.declared.difference.Difference.{Difference}
use Rattle.desk_tasks.specs.declared.difference.Difference.TheVariants as difference

-- an array has bytes at a page
abbrev pub IsSomeAt : Pages → ℕ → Type 0
IsSomeAt pages page = (bytes : List ℕ) × (page_at pages page ≡ Some bytes)

-- what two arrays have at a page differs so
abbrev pub DiffersAt : Pages → Pages → ℕ → Difference → Type 0
DiffersAt a b page (difference.Blank at) =
    (at ≡ page) × (((page_at a page ≡ None) × IsSomeAt b page) ⊎ (IsSomeAt a page × (page_at b page ≡ None)))
DiffersAt a b page (difference.At here at) =
    (here ≡ page) × DifferAtByte (page_at a page) (page_at b page) at

-- nothing where the arrays agree below this number, else the first page in which they do not
abbrev pub FindsFirst : Pages → Pages → ℕ → Option Difference → Type 0
FindsFirst a b logical None = (p : ℕ) → p < logical → page_at a p ≡ page_at b p
FindsFirst a b logical (Some found) =
    (page : ℕ) × (page < logical) × DiffersAt a b page found
    × ((p : ℕ) → p < page → page_at a p ≡ page_at b p)

-- the ending where this is the first difference of two arrays of so many pages
abbrev pub difference_ending : ℕ → Option Difference → Ending
difference_ending logical None = Same logical
difference_ending logical (Some (difference.Blank page)) = DifferBlank page
difference_ending logical (Some (difference.At page at)) = DifferAt page at

-- what comes of comparing two devices of these arrays: their shapes differ, or this is found
abbrev pub ComesTo : Config → Pages → Config → Pages → Ending → Type 0
ComesTo a pages b others ending =
    ((HaveOneShape a b → ⊥) × (ending ≡ DifferShape))
    ⊎ (HaveOneShape a b × ((found : Option Difference) × FindsFirst pages others a.logical found
    × (ending ≡ difference_ending a.logical found)))
