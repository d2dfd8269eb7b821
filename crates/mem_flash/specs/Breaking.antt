-- When a call of a flash in memory is broken, and what the flash is after each call.
use Rattle.std.specs.Prelude.{ℕ, ◌-◌, ◌==◌, Bool, false, ◌&&◌, ◌||◌, not, nat_le, length, Option, None, Some, is_none, is_some, unwrap_or, Result, Ok, Err}
use Rattle.std.specs.Prelude.{if◌then◌else◌}
use Rattle.std.specs.Option.{option_or}
use Rattle.flash_model.specs.declared.flash.Broken.{Broken}
use Rattle.flash_model.specs.declared.outcome.Arm.{Arm}
use Rattle.flash_model.specs.declared.outcome.Outcome.{Outcome}
use Rattle.flash_model.specs.declared.outcome.Outcome.TheVariants as outcome
use Rattle.flash_model.specs.Flash.{blank, counted, counted_by}
use Rattle.flash_model.specs.Operations.{Operation, with_block, image_left, left_each, programs_after, erases_after}
use Rattle.flash_model.specs.Firing.{no_loads, loads_in}
use Rattle.flash_model.specs.Retiring.{one_more}
use Rattle.mem_flash.specs.MemFlashState.{MemFlashState}
use Rattle.mem_flash.specs.Registers.{outcomes_from}
use Rattle.mem_flash.specs.declared.armed.Armed.{Armed}

-- an arm with this count comes due at the next call that it counts
abbrev pub is_next : ℕ → Bool
is_next count = nat_le count 1

-- the outcome with which an arm comes due at the next operation
abbrev pub due : Option Arm → Option Outcome
due None = None
due (Some arm) = if is_next arm.count then Some arm.outcome else None

-- an arm once it has counted an operation: it is spent where it came due
abbrev pub counted_down : Option Arm → Option Arm
counted_down None = None
counted_down (Some arm) =
    if is_next arm.count then None else Some (record arm { count = arm.count - 1 })

-- the same of the arm of a bad read
abbrev pub comes_due : Option ℕ → Bool
comes_due None = false
comes_due (Some count) = is_next count

abbrev pub read_down : Option ℕ → Option ℕ
read_down None = None
read_down (Some count) = if is_next count then None else Some (count - 1)

-- both arms of operations count each one, also where the other comes due
abbrev pub operation_down : Armed → Armed
operation_down armed =
    record armed { cut = counted_down armed.cut; fault = counted_down armed.fault }

-- The outcome with which the next program, erase, retirement or fire is broken, none where it will be done. Where a cut
-- and a fault come due the cut decides, and without power all stays as before.
abbrev pub broken_by : MemFlashState → Option Outcome
broken_by s = if s.live then option_or (due s.armed.cut) (due s.armed.fault) else Some outcome.None

abbrev pub answered : Option Outcome → Result (Unit {0}) Broken
answered None = Ok tt
answered (Some how) = Err (record {})

-- the flash once a program, an erase, a retirement or a fire has met the arms, which count it while power is on, as the
-- flash does
abbrev pub met : MemFlashState → MemFlashState
met s = record s {
  live = s.live && is_none (due s.armed.cut);
  faults = if is_some (broken_by s) then counted s.faults else s.faults;
  started = if s.live then counted s.started else s.started;
  armed = if s.live then operation_down s.armed else s.armed;
}

-- the flash after a program or an erase
abbrev pub operated : MemFlashState → Operation → MemFlashState
operated s o = record (met s) {
  image = image_left s.shape s.image o (unwrap_or (broken_by s) outcome.All);
  programs = if is_some (broken_by s) then s.programs else programs_after o s.programs;
  erases = if is_some (broken_by s) then s.erases else erases_after o s.erases;
}

-- a fire has nothing to do: nothing is loaded, and power is on
abbrev pub is_idle : MemFlashState → Bool
is_idle s = s.live && (length (loads_in s.registers) == 0)

-- the outcome with which a fire is broken: it meets the arms as one program does, unless it has nothing to do
abbrev pub fire_broken_by : MemFlashState → Option Outcome
fire_broken_by s = if is_idle s then None else broken_by s

-- the flash once all programs that are loaded were started together, with the outcome that they met
abbrev pub started : MemFlashState → MemFlashState
started s =
    let loads = loads_in s.registers in
    record (met s) {
      image = left_each s.image loads (outcomes_from (unwrap_or (broken_by s) outcome.All) (length loads));
      programs = if is_some (broken_by s) then s.programs else counted_by (length loads) s.programs;
      registers = no_loads s.shape;
    }

-- the flash after a fire
abbrev pub fired : MemFlashState → MemFlashState
fired s = if is_idle s then s else started s

-- the flash with a fresh block in the place of this one
abbrev pub replaced : MemFlashState → ℕ → MemFlashState
replaced s block = record s {
  image = with_block s.shape s.image block blank;
  extras = one_more s.extras;
}

-- the flash once a block was to be retired, with this outcome: no block can be replaced in part
abbrev pub retired : MemFlashState → ℕ → Outcome → MemFlashState
retired s block outcome.None = s
retired s block outcome.All = replaced s block
retired s block outcome.Bad = replaced s block

-- the flash after a retirement, which meets the arms as a program or an erase does, and is counted as neither
abbrev pub after_retiring : MemFlashState → ℕ → MemFlashState
after_retiring s block = retired (met s) block (unwrap_or (broken_by s) outcome.All)

-- the next read is broken: it is the one that is to fail, or power is off
abbrev pub is_read_broken : MemFlashState → Bool
is_read_broken s = not s.live || comes_due s.armed.bad_read

-- the flash after a read, which is counted while power is on
abbrev pub after_read : MemFlashState → MemFlashState
after_read s = record s {
  faults = if is_read_broken s then counted s.faults else s.faults;
  reads = if s.live then counted s.reads else s.reads;
  armed = if s.live then record s.armed { bad_read = read_down s.armed.bad_read } else s.armed;
}
