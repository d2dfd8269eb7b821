-- What a flash is.
use Rattle.std.specs.Prelude.{◌≡◌, ℕ, zero, suc, ◌+◌, ◌-◌, ◌^◌, min, Bool, true, List, length, slice_index_or, All, Option, IsSomeAnd}
use Rattle.tx_types.specs.Config.{IsShape, slots_of}
use Rattle.tx_types.specs.Limits.{spare_bytes}
use Rattle.tx_types.specs.declared.config.Shape.{Shape}
use Rattle.flash_model.specs.declared.outcome.Arm.{Arm}

-- what a slot holds: nothing, something unreadable, or a page of contents with its spare area
pub data Contents : Type 0 where
  blank : Contents
  damaged : Contents
  complete : (bytes spare_area : List ℕ) → Contents

-- What a flash tells of the breaks to come: how many power cuts and how many faults it may still give by itself, and
-- its arms, which are the power cut and the fault that are to come, and the count of the read that is to fail. A flash
-- has no call that tells it: the values stand in contracts alone.
pub record Told : Type 0 where
  pub cuts : ℕ
  pub breaks : ℕ
  pub cut : Option Arm
  pub fault : Option Arm
  pub bad_read : Option ℕ

-- how many retired blocks a flash allows, and how many it has
pub record Extras : Type 0 where
  pub allowance : ℕ
  pub retired : ℕ

-- no block may be retired
abbrev pub no_extras : Extras
no_extras = record { allowance = 0; retired = 0 }

-- A flash: its shape, its slots in order, whether power is on, its count of faults, and its counts of the programs and
-- the erases that were done, of the reads that were asked for while power was on, and of what was started then: the
-- programs, the erases, the retirements, and the fires with something loaded. It may tell what is to come, and of its
-- retired blocks.
pub record FlashState : Type 0 where
  pub shape : Shape
  pub image : List Contents
  pub live : Bool
  pub faults : ℕ
  pub programs : ℕ
  pub erases : ℕ
  pub reads : ℕ
  pub started : ℕ
  pub told : Option Told
  pub extras : Option Extras

-- a count goes up by so many and stands still at the end of its type
abbrev pub counted_by : ℕ → ℕ → ℕ
counted_by more n = min (n + more) (2 ^ 64 - 1)

-- a count goes up by one
abbrev pub counted : ℕ → ℕ
counted n = counted_by 1 n

-- A count goes up by one, so many times: where that is none it is as before, whatever it was. The counts of reads and
-- faults may be any number to callers, and stand still at the end of 64 bits, so none has a case of its own.
abbrev pub counted_times : ℕ → ℕ → ℕ
counted_times zero n = n
counted_times (suc times) n = counted_by (suc times) n

-- what a slot of an image holds
abbrev pub slot_at : List Contents → ℕ → Contents
slot_at image at = slice_index_or image at blank

-- a complete slot has a page of contents and a spare area
abbrev pub IsWhole : ℕ → Contents → Type 0
IsWhole page_bytes (complete bytes spare_area) =
    (length bytes ≡ page_bytes) × (length spare_area ≡ spare_bytes)
IsWhole page_bytes blank = Unit {0}
IsWhole page_bytes damaged = Unit {0}

-- an image has as many slots as its shape says, each of the right size
pub record IsImage (shape : Shape) (image : List Contents) : Type 0 where
  pub bounds : IsShape shape
  pub slots : length image ≡ slots_of shape
  pub whole : All (IsWhole shape.page_bytes) image

abbrev pub IsFlash : FlashState → Type 0
IsFlash s = IsImage s.shape s.image

-- a flash that is live and tells that neither a cut nor a fault is to come
pub record IsSteady (s : FlashState) : Type 0 where
  pub live : s.live ≡ true
  pub none : IsSomeAnd s.told (λ told. (told.cuts ≡ 0) × (told.breaks ≡ 0))
