-- What a loss of power in the middle of a command leaves of a device, and what has to be known of the device for it.
use Rattle.std.specs.Prelude.{◌≡◌, ◌⊎◌, ℕ, ◌<◌, ◌≤◌, Bool, List, [], ◌∷◌, length, map, All, AllPairs}
use Rattle.tx_types.specs.Config.{blocks_of}
use Rattle.tx_types.specs.declared.config.Protocol.{Protocol}
use Rattle.tx_types.specs.declared.config.Shape.{Shape}
use Rattle.flash_model.specs.Flash.{Contents}
use Rattle.record_list.specs.Written.{IsRemovable}
use Rattle.judged_records.specs.Images.{records_in, array_in, IsSoundImage}
use Rattle.array_machine.specs.ArrayState.{ArrayState, Entry, idle, Represents}
use Rattle.array_machine.specs.Step.{settled}
use Rattle.host_protocol.specs.declared.command.Command.{Command}
use Rattle.host_protocol.specs.declared.command.Command.TheVariants as command
use Rattle.array_runs.specs.Promises.{HasOneDoubt}
use Rattle.array_runs.specs.Run.{CutLeavesOf, MayComplete}
use Rattle.lost_writes.specs.Waiting.{IsLeftOf, IsTornIn}
use Rattle.lost_writes.specs.Quiet.{AreQuiet, is_one_of}
use Rattle.lost_writes.specs.Fired.{Fired, with_records, waits_too, IsFired, AreApart, IsUnflushed}

-- these transactions are some of those, in their order
abbrev pub AreSome : List Entry → List Entry → Type 0
AreSome [] all = Unit {0}
AreSome (e ∷ es) [] = ⊥
AreSome (e ∷ es) (x ∷ xs) = ((e ≡ x) × AreSome es xs) ⊎ AreSome (e ∷ es) xs

-- the command starts this many records of several transactions together: one at most, unless it goes on with all
abbrev pub MayStart : Command → ℕ → Type 0
MayStart command.StepAll count = Unit {0}
MayStart c count = count ≤ 1

-- the array of an image is that of the machine: before it settled, or after
abbrev pub IsArrayOf : Protocol → ℕ → ArrayState → List Contents → Type 0
IsArrayOf protocol logical old image =
    (there : Bool) × (array_in protocol logical image ≡ (settled there old).pages)

-- so is the array that a state may have on its image, where at most one transaction is in doubt
abbrev pub RepresentsArray : Type 0
RepresentsArray =
    (protocol : Protocol) (logical : ℕ) (s : ArrayState) (image : List Contents) →
    HasOneDoubt s → Represents s (array_in protocol logical image) → IsArrayOf protocol logical s image

-- In the middle of a command that began with this state of the machine slots wait, and the records that were started
-- last, of open transactions. Before these the array was the machine's.
pub record IsWriting (protocol : Protocol) (logical : ℕ) (shape : Shape) (c : Command) (old : ArrayState)
    (waits : ℕ → Bool) (image : List Contents) (fired : List Fired) : Type 0 where
  pub block : ℕ
  pub unflushed : IsUnflushed protocol logical shape (MayComplete c) block waits image fired
  pub array : IsArrayOf protocol logical old image
  pub open_entries : AreSome (map (λ f. f.entry) fired) old.entries
  pub few : MayStart c (length fired)

-- The same by the programs since nothing waited: programs that complete no transaction, each of which waits, and then
-- the records that were started last.
pub record IsProgramming (protocol : Protocol) (logical : ℕ) (shape : Shape) (c : Command) (old : ArrayState)
    (flushed : List Contents) (slots : List ℕ) (image : List Contents) (fired : List Fired) : Type 0 where
  pub sound : IsSoundImage protocol logical shape flushed
  pub array : IsArrayOf protocol logical old flushed
  pub block : ℕ
  pub exists : block < blocks_of shape
  pub removable : IsRemovable protocol (records_in protocol flushed) logical shape block
  pub quiet : AreQuiet protocol logical shape slots flushed image
  pub each : All (IsFired protocol logical shape (MayComplete c) block (is_one_of slots) image) fired
  pub apart : AllPairs AreApart fired
  pub open_entries : AreSome (map (λ f. f.entry) fired) old.entries
  pub few : MayStart c (length fired)

-- in the middle of a command nothing waits, and a removable block is being erased
pub record IsErasing (protocol : Protocol) (logical : ℕ) (shape : Shape) (old : ArrayState) (block : ℕ)
    (image : List Contents) : Type 0 where
  pub sound : IsSoundImage protocol logical shape image
  pub exists : block < blocks_of shape
  pub removable : IsRemovable protocol (records_in protocol image) logical shape block
  pub array : IsArrayOf protocol logical old image

-- What a loss leaves is sound, and has an array that a cut of the command allows. The array before the command is one
-- of these.
pub record AfterLoss (protocol : Protocol) (logical : ℕ) (shape : Shape) (c : Command) (old : ArrayState)
    (left : List Contents) : Type 0 where
  pub sound : IsSoundImage protocol logical shape left
  pub cut : CutLeavesOf c old (idle (array_in protocol logical left))

abbrev pub WritingLossLaw : Protocol → Type 0
WritingLossLaw protocol =
    (logical : ℕ) (shape : Shape) (c : Command) (old : ArrayState) (waits : ℕ → Bool) (image : List Contents)
    (fired : List Fired) (left : List Contents) →
    IsWriting protocol logical shape c old waits image fired →
    IsLeftOf (waits_too waits fired) (with_records protocol image fired) left →
    AfterLoss protocol logical shape c old left

abbrev pub ProgrammingLossLaw : Protocol → Type 0
ProgrammingLossLaw protocol =
    (logical : ℕ) (shape : Shape) (c : Command) (old : ArrayState) (flushed : List Contents) (slots : List ℕ)
    (image : List Contents) (fired : List Fired) (left : List Contents) →
    IsProgramming protocol logical shape c old flushed slots image fired →
    IsLeftOf (waits_too (is_one_of slots) fired) (with_records protocol image fired) left →
    AfterLoss protocol logical shape c old left

abbrev pub ErasingLossLaw : Protocol → Type 0
ErasingLossLaw protocol =
    (logical : ℕ) (shape : Shape) (c : Command) (old : ArrayState) (block : ℕ) (image left : List Contents) →
    IsErasing protocol logical shape old block image →
    IsTornIn shape block image left →
    AfterLoss protocol logical shape c old left
