-- What the registers hold.
use Rattle.std.specs.Prelude.{◌≡◌, ℕ, All, List, length, map, Option}
use Rattle.std.specs.Option.{option_map}
use Rattle.tx_types.specs.declared.config.Shape.{Shape}
use Rattle.flash_model.specs.Operations.{Load}
use Rattle.flash_model.specs.Firing.{loads_in}
use Rattle.list_flash.specs.declared.registers.Register.{Register}

-- the program that a register holds, if there is one
abbrev pub load_in : Register → Option Load
load_in r = option_map
    (λ at. record { at = at.0; bytes = r.page.bytes.items; spare_area = r.page.spare_area }) r.at

-- the programs that registers hold
abbrev pub loads_of : List Register → List Load
loads_of registers = loads_in (map load_in registers)

-- a register has room for a page of so many bytes
abbrev pub HasPage : ℕ → Register → Type 0
HasPage n r = length r.page.bytes.items ≡ n

-- there is a register for each die, with room for a page
pub record AreRegisters (shape : Shape) (registers : List Register) : Type 0 where
  pub dies : length registers ≡ shape.dies
  pub room : All (HasPage shape.page_bytes) registers
