-- How a flash in memory is kept.
use Rattle.std.specs.Prelude.{◌≤◌, map}
use Rattle.flash_model.specs.Retiring.{max_allowance}
use Rattle.mem_flash.specs.MemFlashState.{MemFlashState}
use Rattle.mem_flash.specs.Registers.{load_in, AreRegisters}
use Rattle.mem_flash.specs.declared.memory.MemFlash.TheInside.{Inside}

abbrev pub memory_of : Inside → MemFlashState
memory_of f = record {
  shape = f.slots.shape;
  image = f.slots.image;
  live = f.live;
  faults = f.faults;
  programs = f.programs;
  erases = f.erases;
  reads = f.reads;
  started = f.started;
  armed = f.armed;
  extras = record { allowance = f.allowance; retired = f.retired };
  registers = map load_in f.registers.items;
}

-- There is a register for each die, with room for a page. No more blocks are retired than may be, and no more may be
-- than any flash may allow.
pub record MemFlashInvariant (f : Inside) : Type 0 where
  pub registers : AreRegisters f.slots.shape f.registers.items
  pub within : f.retired ≤ f.allowance
  pub few : f.allowance ≤ max_allowance
