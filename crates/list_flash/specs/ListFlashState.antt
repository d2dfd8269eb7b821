-- What a flash is that is the list of its operations.
use Rattle.std.specs.Prelude.{ℕ, ◌==◌, true, List, [], ◌++◌, length, map, fold, replicate, Option, None, Result, Ok, Err, if◌then◌else◌}
use Rattle.tx_types.specs.Config.{slots_of}
use Rattle.tx_types.specs.declared.config.Shape.{Shape}
use Rattle.flash_model.specs.declared.flash.Broken.{Broken}
use Rattle.flash_model.specs.Flash.{FlashState, blank, counted}
use Rattle.flash_model.specs.Operations.{Operation, Load, Moment, program_of, after}
use Rattle.flash_model.specs.Firing.{no_loads, loads_in}

-- The operations that were done, the oldest first, how many there may be in all, the counts that they do not tell, and
-- what is loaded in each die.
pub record ListFlashState : Type 0 where
  pub shape : Shape
  pub operations : List Operation
  pub limit : ℕ
  pub faults : ℕ
  pub reads : ℕ
  pub started : ℕ
  pub registers : List (Option Load)

-- all slots are blank, and nothing is counted
abbrev pub blank_moment : Shape → Moment
blank_moment shape =
    record { image = replicate (slots_of shape) blank; programs = 0; erases = 0; started = 0 }

-- What is left once operations were done from there on. Each of them is started by itself there: the flash counts fewer
-- as started where programs were started together.
abbrev pub moment_after : Shape → List Operation → Moment
moment_after shape operations = fold (after shape) (blank_moment shape) operations

-- Power is always on, and nothing is told of what is to come or of retired blocks.
abbrev pub state_of : ListFlashState → FlashState
state_of s = record {
  shape = s.shape;
  image = (moment_after s.shape s.operations).image;
  live = true;
  faults = s.faults;
  programs = (moment_after s.shape s.operations).programs;
  erases = (moment_after s.shape s.operations).erases;
  reads = s.reads;
  started = s.started;
  told = None;
  extras = None;
}

-- a new flash, that bears so many operations
abbrev pub unused : Shape → ℕ → ListFlashState
unused shape limit = record {
  shape = shape;
  operations = [];
  limit = limit;
  faults = 0;
  reads = 0;
  started = 0;
  registers = no_loads shape;
}

-- the flash after a call that was started: these operations are done, or it is broken and none is
abbrev pub worked : ListFlashState → List Operation → Result (Unit {0}) Broken → ListFlashState
worked s done (Ok nothing) =
    record s { operations = s.operations ++ done; started = counted s.started }
worked s done (Err broken) =
    record s { faults = counted s.faults; started = counted s.started }

-- the flash after a fire, which has nothing to do where nothing is loaded
abbrev pub fired : ListFlashState → Result (Unit {0}) Broken → ListFlashState
fired s result =
    if length (loads_in s.registers) == 0 then s
    else record (worked s (map program_of (loads_in s.registers)) result) {
      registers = no_loads s.shape;
    }
