-- Several programs at once: a register for each die, which holds a program that is loaded, or nothing.
use Rattle.std.specs.Prelude.{◌≡◌, ℕ, ◌≤◌, List, replicate, filter_map, slice_index_or, slice_set, Option, None, Some}
use Rattle.tx_types.specs.declared.config.Shape.{Shape}
use Rattle.flash_model.specs.Operations.{Load, die_of}

-- registers of which each is empty
abbrev pub no_loads : Shape → List (Option Load)
no_loads shape = replicate shape.dies None

-- the programs that are loaded, those of lower dies first
abbrev pub loads_in : List (Option Load) → List Load
loads_in registers = filter_map (λ register. register) registers

-- the register of the slot's die is empty
abbrev pub IsFreeAt : Shape → List (Option Load) → ℕ → Type 0
IsFreeAt shape registers at = slice_index_or registers (die_of shape at) None ≡ None

-- the registers with this program in that of its slot's die
abbrev pub with_load : Shape → List (Option Load) → Load → List (Option Load)
with_load shape registers load = slice_set registers (die_of shape load.at) (Some load)

-- the registers of this die and of all higher ones are empty
abbrev pub AreFreeFrom : List (Option Load) → ℕ → Type 0
AreFreeFrom registers die = (k : ℕ) → die ≤ k → slice_index_or registers k None ≡ None
