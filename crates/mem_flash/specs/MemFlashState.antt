-- What a flash in memory is.
use Rattle.std.specs.Prelude.{ℕ, ◌+◌, Bool, true, List, replicate, Option, None, Some}
use Rattle.tx_types.specs.Config.{slots_of}
use Rattle.tx_types.specs.declared.config.Shape.{Shape}
use Rattle.flash_model.specs.Flash.{FlashState, Told, Extras, no_extras, Contents, blank}
use Rattle.flash_model.specs.Operations.{Load}
use Rattle.flash_model.specs.Firing.{no_loads}
use Rattle.mem_flash.specs.declared.armed.Armed.{Armed}

-- as each flash, what is armed, what is told of retired blocks, and what is loaded in each die
pub record MemFlashState : Type 0 where
  pub shape : Shape
  pub image : List Contents
  pub live : Bool
  pub faults : ℕ
  pub programs : ℕ
  pub erases : ℕ
  pub reads : ℕ
  pub started : ℕ
  pub armed : Armed
  pub extras : Extras
  pub registers : List (Option Load)

-- how many breaks an arm will give
abbrev pub breaks_to_come : {T : Type 0} → Option T → ℕ
breaks_to_come None = 0
breaks_to_come (Some arm) = 1

-- one cut may come where one is armed, and a fault for each of the two other arms
abbrev pub told_of : Armed → Told
told_of armed = record {
  cuts = breaks_to_come armed.cut;
  breaks = breaks_to_come armed.fault + breaks_to_come armed.bad_read;
  cut = armed.cut;
  fault = armed.fault;
  bad_read = armed.bad_read;
}

abbrev pub state_of : MemFlashState → FlashState
state_of s = record {
  shape = s.shape;
  image = s.image;
  live = s.live;
  faults = s.faults;
  programs = s.programs;
  erases = s.erases;
  reads = s.reads;
  started = s.started;
  told = Some (told_of s.armed);
  extras = Some s.extras;
}

-- a flash with these slots and extras that is live, has counted nothing, and has nothing armed and nothing loaded
abbrev pub loaded : Shape → List Contents → Extras → MemFlashState
loaded shape image extras = record {
  shape = shape;
  image = image;
  live = true;
  faults = 0;
  programs = 0;
  erases = 0;
  reads = 0;
  started = 0;
  armed = record { cut = None; fault = None; bad_read = None };
  extras = extras;
  registers = no_loads shape;
}

-- and no block of which may be retired
abbrev pub fresh : Shape → List Contents → MemFlashState
fresh shape image = loaded shape image no_extras

-- a new flash, all slots of which are blank
abbrev pub blank_flash : Shape → MemFlashState
blank_flash shape = fresh shape (replicate (slots_of shape) blank)
