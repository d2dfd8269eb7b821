-- How a flash is kept that is the list of its operations.
use Rattle.std.specs.Prelude.{◌≡◌, ℕ, ◌≤◌, List, length, map}
use Rattle.tx_types.specs.Config.{IsShape}
use Rattle.tx_types.specs.declared.config.Shape.{Shape}
use Rattle.flash_model.specs.Operations.{Operation}
use Rattle.flash_model.specs.Moves.{Does}
use Rattle.list_flash.specs.Entries.{operations_in}
use Rattle.list_flash.specs.ListFlashState.{ListFlashState, blank_moment, moment_after}
use Rattle.list_flash.specs.Registers.{load_in, AreRegisters}
use Rattle.list_flash.specs.declared.list_flash.ListFlash.TheInside.{Inside}

abbrev pub list_flash_of : Inside → ListFlashState
list_flash_of f = record {
  shape = f.shape;
  operations = operations_in f.list.items;
  limit = f.limit;
  faults = f.faults;
  reads = f.reads;
  started = f.started;
  registers = map load_in f.registers.items;
}

-- Each operation had what it needs when it was done, and the counts of programs and erases are those that they come to.
pub record IsDone (shape : Shape) (operations : List Operation) (written cleared : ℕ) : Type 0 where
  pub bounds : IsShape shape
  pub does : Does shape (blank_moment shape) operations (moment_after shape operations)
  pub programs : written ≡ (moment_after shape operations).programs
  pub erases : cleared ≡ (moment_after shape operations).erases

-- The operations were done, and are no more than may be. There is a register for each die, with room for a page.
pub record ListFlashInvariant (f : Inside) : Type 0 where
  pub done : IsDone f.shape (operations_in f.list.items) f.programs f.erases
  pub within : length f.list.items ≤ f.limit
  pub registers : AreRegisters f.shape f.registers.items
