-- Retired blocks: a flash can replace a block by a fresh one, as often as it allows. What that does, and what is left
-- where it is broken.
use Rattle.std.specs.Prelude.{◌≡◌, ◌⊎◌, ℕ, ◌+◌, ◌<◌, Bool, true, false, List, Option, IsSomeAnd, Result, OnOk, OnErr, if◌then◌else◌}
use Rattle.std.specs.Option.{option_map}
use Rattle.std.specs.Result.{is_err}
use Rattle.flash_model.specs.declared.flash.Broken.{Broken}
use Rattle.flash_model.specs.Flash.{FlashState, Extras, blank, counted}
use Rattle.flash_model.specs.Operations.{Operation, moment_of, with_block}
use Rattle.flash_model.specs.Moves.{Does, FlashMoves}
use Rattle.flash_model.specs.Calls.{Carries}

-- the most blocks that a flash may allow to be retired
abbrev pub max_allowance : ℕ
max_allowance = 1024

-- the flash where this is told of its retired blocks
abbrev pub with_extras : FlashState → Option Extras → FlashState
with_extras s extras = record s { extras = extras }

-- one block more is retired
abbrev pub one_more : Extras → Extras
one_more extras = record extras { retired = extras.retired + 1 }

-- the flash tells that it has a block left that it can put in the place of another
abbrev pub MayRetire : FlashState → Type 0
MayRetire s = IsSomeAnd s.extras (λ extras. extras.retired < extras.allowance)

-- all slots of the block are blank, one block more is retired, and the counts stay
pub record IsReplaced (old new : FlashState) (block : ℕ) : Type 0 where
  pub image : new.image ≡ with_block old.shape old.image block blank
  pub programs : new.programs ≡ old.programs
  pub erases : new.erases ≡ old.erases
  pub extras : new.extras ≡ option_map one_more old.extras

-- the slots, the counts and the number retired are as before
pub record IsNotReplaced (old new : FlashState) : Type 0 where
  pub image : new.image ≡ old.image
  pub programs : new.programs ≡ old.programs
  pub erases : new.erases ≡ old.erases
  pub extras : new.extras ≡ old.extras

-- a retirement is counted as started where power is on
abbrev pub StartsRetiring : FlashState → FlashState → Type 0
StartsRetiring old new = new.started ≡ (if old.live then counted old.started else old.started)

-- What a call keeps that may retire a block: all that each call keeps, but for what is told of retired blocks. That
-- stays too where power is off.
pub record CarriesRetiring (old new : FlashState) (broken : Bool) : Type 0 where
  pub carries : Carries (with_extras old new.extras) new broken
  pub dead : old.live ≡ false → new.extras ≡ old.extras

-- A block is replaced, which needs power, or the call is broken, and the block is then replaced or not: the outcomes
-- `all` and `bad` both leave it replaced. No read is counted, and where power is on the call is counted as started.
pub record Retires (old new : FlashState) (block : ℕ) (result : Result (Unit {0}) Broken) : Type 0 where
  pub carries : CarriesRetiring old new (is_err result)
  pub powered : OnOk result (old.live ≡ true)
  pub done : OnOk result (IsReplaced old new block)
  pub torn : OnErr result (IsNotReplaced old new ⊎ IsReplaced old new block)
  pub reads : new.reads ≡ old.reads
  pub started : StartsRetiring old new

-- a call that does these operations, none of them broken, and then replaces the block, which is started once
pub record RetiresAfter (old new : FlashState) (first : List Operation) (block : ℕ) : Type 0 where
  pub between : FlashState
  pub does : Does old.shape (moment_of old) first (moment_of between)
  pub carries : Carries old between false
  pub replaced : IsReplaced between new block
  pub started : new.started ≡ counted between.started

-- a call that does operations, none of them broken, and then breaks in replacing the block
pub record RetiresTorn (old new : FlashState) (block : ℕ) : Type 0 where
  pub between : FlashState
  pub moves : FlashMoves old between false
  pub carries : Carries old between false
  pub left : IsNotReplaced between new ⊎ IsReplaced between new block
  pub started : StartsRetiring between new
