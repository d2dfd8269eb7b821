-- What the registers of a flash in memory hold, and what a fire makes of it.
use Rattle.std.specs.Prelude.{◌≡◌, ℕ, zero, suc, All, List, [], ◌∷◌, length, map, Option}
use Rattle.std.specs.Option.{option_map}
use Rattle.tx_types.specs.declared.config.Shape.{Shape}
use Rattle.flash_model.specs.declared.outcome.Outcome.{Outcome}
use Rattle.flash_model.specs.declared.outcome.Outcome.TheVariants as outcome
use Rattle.flash_model.specs.Operations.{Load}
use Rattle.flash_model.specs.Firing.{loads_in}
use Rattle.mem_flash.specs.declared.registers.Register.{Register}

-- the program that a register holds, if there is one
abbrev pub load_in : Register → Option Load
load_in r =
    option_map (λ at. record { at = at.0; bytes = r.bytes.items; spare_area = r.spare_area }) r.at

-- the programs that registers hold
abbrev pub loads_of : List Register → List Load
loads_of registers = loads_in (map load_in registers)

-- a register has room for a page of so many bytes
abbrev pub HasPage : ℕ → Register → Type 0
HasPage n r = length r.bytes.items ≡ n

-- there is a register for each die, with room for a page
pub record AreRegisters (shape : Shape) (registers : List Register) : Type 0 where
  pub dies : length registers ≡ shape.dies
  pub room : All (HasPage shape.page_bytes) registers

-- what the other programs come to where one of those that are started together ends so: at most one is damaged
abbrev pub outcome_after : Outcome → Outcome
outcome_after outcome.None = outcome.None
outcome_after outcome.All = outcome.All
outcome_after outcome.Bad = outcome.All

-- the outcomes of so many programs that are started together
abbrev pub outcomes_from : Outcome → ℕ → List Outcome
outcomes_from how zero = []
outcomes_from how (suc n) = how ∷ outcomes_from (outcome_after how) n
