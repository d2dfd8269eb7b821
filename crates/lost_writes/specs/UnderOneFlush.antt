-- What a loss of power leaves of a command of a device, if what waits is made durable before each erase and with each
-- reply: as a cut of the command leaves it.
use Rattle.std.specs.Prelude.{◌≡◌, ◌≢◌, ◌⊎◌, ℕ, ◌<◌, All, List, [], ◌∷◌, Result, Ok, Err}
use mathlib.Core.Logic.{inl, inr}
use Rattle.tx_types.specs.Config.{blocks_of}
use Rattle.tx_types.specs.declared.config.Protocol.{Protocol}
use Rattle.tx_types.specs.declared.config.Shape.{Shape}
use Rattle.flash_model.specs.Flash.{FlashState, Contents}
use Rattle.flash_model.specs.Moves.{Does}
use Rattle.flash_model.specs.Operations.{Operation, program, erase, fire, Moment, moment_of, BreaksIn}
use Rattle.array_machine.specs.ArrayState.{ArrayState, idle}
use Rattle.array_machine.specs.declared.answers.Aborted.{Aborted}
use Rattle.array_machine.specs.declared.answers.Collected.{Collected}
use Rattle.array_machine.specs.declared.answers.Fault.{Fault}
use Rattle.array_machine.specs.declared.answers.Moved.{Moved}
use Rattle.array_machine.specs.declared.answers.Progress.{Progress}
use Rattle.array_machine.specs.declared.answers.Progress.TheVariants as progress
use Rattle.array_machine.specs.declared.answers.StepError.{StepError}
use Rattle.array_machine.specs.declared.answers.StepError.TheVariants as failed
use Rattle.host_protocol.specs.declared.command.Command.{Command}
use Rattle.host_protocol.specs.declared.command.Command.TheVariants as command
use Rattle.host_protocol.specs.declared.reply.Reply.TheVariants as reply
use Rattle.array_runs.specs.Run.{RunState, LosesOpen}
use Rattle.judged_records.specs.Images.{array_in}
use Rattle.lost_writes.specs.Sessions.{broken_by}
use Rattle.collector.specs.SinceErase.{EndsInErase}
use Rattle.tx_engine.specs.Batches.{StepsAllDevice}
use Rattle.tx_engine.specs.DeviceCalls.{AbortsDevice, CollectsDevice, StepsDevice}
use Rattle.tx_engine.specs.DeviceState.{DeviceState, Stands}
use Rattle.tx_engine.specs.Readying.{ReadiesDevice}
use Rattle.lost_writes.specs.AfterLoss.{AfterLoss}
use Rattle.lost_writes.specs.Room.{is_blank_in}
use Rattle.lost_writes.specs.Waiting.{IsLeftOf, IsTornIn}

-- an operation that erases nothing: what it programs waits once it is done
abbrev pub IsNoErase : Operation → Type 0
IsNoErase (program at bytes spare_area) = Unit {0}
IsNoErase (erase block) = ⊥
IsNoErase (fire loads) = Unit {0}

-- nothing comes last, or an operation is broken that erases nothing
abbrev pub EndsAlone : Shape → Moment → Moment → Type 0
EndsAlone shape between new =
    (new ≡ between)
    ⊎ ((o : Operation) × IsNoErase o × BreaksIn shape between o new)

-- An erase comes last, and is broken: what waited before it may be lost, or else any slots of its block.
pub record TearsErase (protocol : Protocol) (logical : ℕ) (shape : Shape) (c : Command) (s : ArrayState)
    (base between new : Moment) : Type 0 where
  pub block : ℕ
  pub exists : block < blocks_of shape
  pub breaks : BreaksIn shape between (erase block) new
  pub flushed : (left : List Contents) → IsLeftOf (is_blank_in base.image) between.image left →
      AfterLoss protocol logical shape c s left
  pub erased : (left : List Contents) → IsTornIn shape block between.image left →
      AfterLoss protocol logical shape c s left

-- Whatever a loss leaves of the slots that were blank when nothing waited is as a cut of the command leaves it. So it
-- is where an erase is broken.
abbrev pub LeavesAsCut : Protocol → ℕ → Shape → Command → ArrayState → Moment → Moment → Moment → Type 0
LeavesAsCut protocol logical shape c s base between new =
    (EndsAlone shape between new
    × ((left : List Contents) → IsLeftOf (is_blank_in base.image) new.image left →
    AfterLoss protocol logical shape c s left))
    ⊎ TearsErase protocol logical shape c s base between new

-- A command that began in this state of the array leads from one moment to another, done or broken off. At some moment
-- nothing waited: where it began, or behind an erase. The array was still that from before the command then, and
-- nothing was erased since. What a loss leaves of the slots that were blank then is as a cut of the command leaves it.
pub record IsCutByLoss (protocol : Protocol) (logical : ℕ) (shape : Shape) (c : Command) (s : ArrayState)
    (old new : Moment) : Type 0 where
  pub base : Moment
  pub durable : EndsInErase shape old base
  pub array : array_in protocol logical base.image ≡ array_in protocol logical old.image
  pub programs : List Operation
  pub alone : All IsNoErase programs
  pub between : Moment
  pub does : Does shape base programs between
  pub left : LeavesAsCut protocol logical shape c s base between new

-- what a loss may leave of it
abbrev pub MayLeave : (protocol : Protocol) (logical : ℕ) (shape : Shape) (c : Command) (s : ArrayState)
    (base between new : Moment) → LeavesAsCut protocol logical shape c s base between new → List Contents → Type 0
MayLeave protocol logical shape c s base between new (inl alone) left =
    IsLeftOf (is_blank_in base.image) new.image left
MayLeave protocol logical shape c s base between new (inr torn) left =
    IsLeftOf (is_blank_in base.image) between.image left ⊎ IsTornIn shape torn.block between.image left

-- as a step of a run it is the command in hand with the reply `cut`
abbrev pub LeftIsCut : Protocol → Type 0
LeftIsCut protocol =
    (logical : ℕ) (shape : Shape) (c : Command) (s next : RunState) (old new : Moment) (left : List Contents)
    (h : IsCutByLoss protocol logical shape c s.machine old new) →
    MayLeave protocol logical shape c s.machine h.base h.between new h.left left →
    next.machine ≡ idle (array_in protocol logical left) →
    LosesOpen (broken_by c) s reply.Cut next

-- from one state of a device to another
abbrev pub DeviceIsCutByLoss : {F : Type 0} → (F → FlashState) → Protocol → Command → DeviceState F → DeviceState F →
    Type 0
DeviceIsCutByLoss state protocol c old new =
    IsCutByLoss protocol old.config.logical (state old.flash).shape c old.machine (moment_of (state old.flash))
    (moment_of (state new.flash))

-- A command may begin on a device, of which nothing waits: it stands for its array, under the rule of this protocol.
pub record MayBegin {F : Type 0} (state : F → FlashState) (protocol : Protocol) (s : DeviceState F) : Type 0 where
  pub stands : Stands state s
  pub rule : s.config.protocol ≡ protocol

-- Steps of the transaction with a tag, one after the other: each but the last wrote a page and left it open.
abbrev pub StepsInTurn : {F : Type 0} → (F → FlashState) → ℕ → DeviceState F → List (DeviceState F) → DeviceState F →
    Result Progress StepError → Type 0
StepsInTurn state tag old [] new result = StepsDevice state old new tag result
StepsInTurn state tag old (mid ∷ mids) new result =
    ((done : ℕ) × (all : ℕ) × StepsDevice state old mid tag (Ok (progress.Wrote done all)))
    × StepsInTurn state tag mid mids new result

-- so it is of a step, and of the steps of a `finish`
abbrev pub StepLoss : {F : Type 0} → (F → FlashState) → Protocol → Type 0
StepLoss {F} state protocol =
    (old new : DeviceState F) (tag : ℕ) (result : Result Progress StepError) →
    MayBegin state protocol old →
    StepsDevice state old new tag result → result ≢ Err failed.Unknown →
    DeviceIsCutByLoss state protocol (command.Step tag) old new

abbrev pub FinishLoss : {F : Type 0} → (F → FlashState) → Protocol → Type 0
FinishLoss {F} state protocol =
    (old : DeviceState F) (mids : List (DeviceState F)) (new : DeviceState F) (tag : ℕ)
    (result : Result Progress StepError) →
    MayBegin state protocol old →
    StepsInTurn state tag old mids new result → result ≢ Err failed.Unknown →
    DeviceIsCutByLoss state protocol (command.Finish tag) old new

-- of several transactions that go on together
abbrev pub StepAllLoss : {F : Type 0} → (F → FlashState) → Protocol → Type 0
StepAllLoss {F} state protocol =
    (old new : DeviceState F) (result : Result Moved Fault) →
    MayBegin state protocol old →
    StepsAllDevice state old new result → DeviceIsCutByLoss state protocol command.StepAll old new

-- and where no transaction goes on: of one that is given up, of a collection, and of a device that is made ready for
-- the next page of one
abbrev pub AbortLoss : {F : Type 0} → (F → FlashState) → Protocol → Type 0
AbortLoss {F} state protocol =
    (old new : DeviceState F) (tag : ℕ) (result : Result Aborted StepError) →
    MayBegin state protocol old →
    AbortsDevice state old new tag result → DeviceIsCutByLoss state protocol (command.Abort tag) old new

abbrev pub CollectLoss : {F : Type 0} → (F → FlashState) → Protocol → Type 0
CollectLoss {F} state protocol =
    (old new : DeviceState F) (result : Result Collected Fault) →
    MayBegin state protocol old →
    CollectsDevice state old new result → DeviceIsCutByLoss state protocol command.Collect old new

abbrev pub ReadyLoss : {F : Type 0} → (F → FlashState) → Protocol → Type 0
ReadyLoss {F} state protocol =
    (old new : DeviceState F) (tag : ℕ) (result : Result (Unit {0}) StepError) (c : Command) →
    MayBegin state protocol old →
    ReadiesDevice state old new tag result → result ≢ Err failed.Unknown → DeviceIsCutByLoss state protocol c old new
