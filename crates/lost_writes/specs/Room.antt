-- What a loss of power leaves of a call that completes no transaction: one that collects, or makes room.
use Rattle.std.specs.Prelude.{◌⊎◌, ℕ, Bool, true, false, List}
use mathlib.Core.Logic.{inl, inr}
use Rattle.tx_types.specs.Config.{IsShape}
use Rattle.tx_types.specs.declared.config.Protocol.{Protocol}
use Rattle.tx_types.specs.declared.config.Shape.{Shape}
use Rattle.flash_model.specs.Flash.{Contents, slot_at}
use Rattle.flash_model.specs.Operations.{Moment}
use Rattle.array_machine.specs.ArrayState.{ArrayState}
use Rattle.host_protocol.specs.declared.command.Command.{Command}
use Rattle.collector.specs.Collecting.{is_blank_slot}
use Rattle.collector.specs.SinceErase.{EndsTorn, WorksSinceErase}
use Rattle.lost_writes.specs.AfterLoss.{AfterLoss, IsArrayOf}
use Rattle.lost_writes.specs.Waiting.{IsLeftOf, IsTornIn}

-- a slot of the image is blank
abbrev pub is_blank_in : List Contents → ℕ → Bool
is_blank_in image slot = is_blank_slot (slot_at image slot)

-- What a loss leaves where nothing waited at this moment: each slot as it is, or blank again, if it was blank then.
-- Where an erase was broken: the same of the image before it, or any mix in its block.
abbrev pub MayLeaveOf : (protocol : Protocol) (logical : ℕ) (shape : Shape) (base between : Moment) (broken : Bool)
    (new : Moment) → EndsTorn protocol logical shape between broken new → List Contents → Type 0
MayLeaveOf protocol logical shape base between false new ends left = IsLeftOf (is_blank_in base.image) new.image left
MayLeaveOf protocol logical shape base between true new (inl same) left =
    IsLeftOf (is_blank_in base.image) new.image left
MayLeaveOf protocol logical shape base between true new (inr (inl program)) left =
    IsLeftOf (is_blank_in base.image) new.image left
MayLeaveOf protocol logical shape base between true new (inr (inr erase)) left =
    IsLeftOf (is_blank_in base.image) between.image left ⊎ IsTornIn shape erase.block between.image left

-- It is sound, and has the array from before the call.
abbrev pub RoomLossLaw : Protocol → Type 0
RoomLossLaw protocol =
    (logical : ℕ) (shape : Shape) (c : Command) (s : ArrayState) (old new : Moment) (broken : Bool)
    (works : WorksSinceErase protocol logical shape old broken new) (left : List Contents) →
    IsShape shape →
    IsArrayOf protocol logical s old.image →
    MayLeaveOf protocol logical shape works.base works.between broken new works.ends left →
    AfterLoss protocol logical shape c s left
