-- What each call of a device says of its flash, its versions and its mentions.
use Rattle.std.specs.Prelude.{◌≡◌, ◌≢◌, ◌⊎◌, ℕ, ◌<◌, ◌≤◌, ◌==◌, Bool, true, false, not, ◌&&◌, List, [], ◌∷◌, ◌++◌, All, Any, Option, Some, Result, Ok, Err}
use Rattle.std.specs.Prelude.{if◌then◌else◌}
use Rattle.std.specs.List.{list_any, zip}
use Rattle.tx_types.specs.Batch.{PageWrite}
use Rattle.tx_types.specs.declared.record.Link.{Link}
use Rattle.flash_model.specs.Flash.{FlashState, Contents}
use Rattle.flash_model.specs.Calls.{Carries}
use Rattle.flash_model.specs.Moves.{FlashMoves, FlashMovesTogether}
use Rattle.record_list.specs.Records.{mention}
use Rattle.judged_records.specs.Images.{records_in, current_in}
use Rattle.judged_records.specs.IndexState.{IndexState, current_of, mention_of}
use Rattle.collector.specs.SinceErase.{FlashWorksSinceErase}
use Rattle.array_machine.specs.ArrayState.{ArrayState, Entry, is_doubted, page_at, entry_of}
use Rattle.array_machine.specs.declared.mark.Mark.{Mark}
use Rattle.array_machine.specs.declared.mark.Mark.TheVariants.{Plain, Doubt, Whole}
use Rattle.array_machine.specs.Step.{settled, doubted}
use Rattle.tx_engine.specs.DeviceState.{DeviceState}
use Rattle.tx_engine.specs.Held.{AddsNoHeldIn}
use Rattle.open_table.specs.OpenTransactionsState.{Naming}
use Rattle.array_machine.specs.declared.answers.Progress.{Progress}
use Rattle.array_machine.specs.declared.answers.Progress.TheVariants as progress
use Rattle.array_machine.specs.declared.answers.StepError.{StepError}
use Rattle.array_machine.specs.declared.answers.StepError.TheVariants as failed
use Rattle.array_machine.specs.declared.answers.Aborted.{Aborted}
use Rattle.array_machine.specs.declared.answers.Collected.{Collected}
use Rattle.array_machine.specs.declared.answers.Fault.{Fault}

-- whether the image has another version of the first of these pages than the one that is known
abbrev pub has_moved : IndexState → List Contents → List Link → Bool
has_moved n image [] = false
has_moved n image (name ∷ names) =
    not (current_in n.config.protocol n.config.logical image name.page == current_of n name.page)

-- Whether the transaction in doubt is there: the image has another version of its first page than the one that is
-- known. One page tells it, since all pages of a transaction change at once.
abbrev pub is_there : {F : Type 0} → (F → FlashState) → DeviceState F → Bool
is_there state s =
    list_any (λ (e, x). is_doubted e.mark && has_moved s.noted (state s.flash).image x.names)
    (zip s.machine.entries s.namings)

-- the writes that the array takes where the state settles
abbrev pub settled_writes : Bool → ArrayState → List PageWrite
settled_writes there s = if there then doubted s.entries else []

abbrev pub is_plain : Mark → Bool
is_plain Plain = true
is_plain Doubt = false
is_plain Whole = false

-- the writes of a transaction that is not whole already
abbrev pub plain_writes : Entry → List PageWrite
plain_writes e = if is_plain e.mark then e.writes else []

-- the writes that it takes beside these in a step, where the transaction is done
abbrev pub done_writes : Option Entry → Result Progress StepError → List PageWrite
done_writes (Some e) (Ok progress.Done) = plain_writes e
done_writes _ _ = []

abbrev pub is_step_fault : Result Progress StepError → Bool
is_step_fault (Ok progress) = false
is_step_fault (Err failed.Unknown) = false
is_step_fault (Err failed.Fault) = true

abbrev pub is_abort_fault : Result Aborted StepError → Bool
is_abort_fault (Ok aborted) = false
is_abort_fault (Err failed.Unknown) = false
is_abort_fault (Err failed.Fault) = true

-- The version of each page that the array takes rises, and that of every other page stays.
pub record VersionsRise {F : Type 0} (old new : DeviceState F) (taken : List PageWrite) : Type 0 where
  pub rises : All (λ w. current_of old.noted w.page < current_of new.noted w.page) taken
  pub stays : (page : ℕ) → page < old.config.logical → All (λ w. w.page ≢ page) taken →
      current_of new.noted page ≡ current_of old.noted page

-- the version at which an open transaction names a page
abbrev pub IsNamedAt : List Naming → ℕ → ℕ → Type 0
IsNamedAt namings page version =
    Any (λ x. Any (λ name. (name.page ≡ page) × (name.version ≡ version)) x.names) namings

-- a mention stays, or rises to the version at which an open transaction names the page
abbrev pub MentionsRise : IndexState → IndexState → List Naming → Type 0
MentionsRise old new namings =
    (page : ℕ) → page < old.config.logical →
    (mention_of new page ≡ mention_of old page)
    ⊎ ((mention_of old page < mention_of new page) × IsNamedAt namings page (mention_of new page))

-- The state did not settle and no version rose; or it settled, and those rose that settling takes in.
abbrev pub SettlesOrNot : {F : Type 0} → Bool → DeviceState F → DeviceState F → Type 0
SettlesOrNot there old new =
    ((new.machine.pages ≡ old.machine.pages) × VersionsRise old new [])
    ⊎ ((new.machine.pages ≡ (settled there old.machine).pages)
    × VersionsRise old new (settled_writes there old.machine))

-- which versions rise in a step
abbrev pub StepRises : {F : Type 0} → Bool → DeviceState F → DeviceState F → ℕ →
    Result Progress StepError → Type 0
StepRises there old new tag (Ok progress) =
    VersionsRise old new (settled_writes there old.machine
    ++ done_writes (entry_of tag (settled there old.machine).entries) (Ok progress))
StepRises there old new tag (Err failed.Unknown) = VersionsRise old new []
StepRises there old new tag (Err failed.Fault) = SettlesOrNot there old new

-- which versions rise in an abort: after a fault all is as before
abbrev pub AbortRises : {F : Type 0} → Bool → DeviceState F → DeviceState F → Result Aborted StepError →
    Type 0
AbortRises there old new (Ok aborted) = VersionsRise old new (settled_writes there old.machine)
AbortRises there old new (Err e) = VersionsRise old new []

-- which versions rise in a collection
abbrev pub CollectRises : {F : Type 0} → Bool → DeviceState F → DeviceState F → Result Collected Fault →
    Type 0
CollectRises there old new (Ok collected) = VersionsRise old new (settled_writes there old.machine)
CollectRises there old new (Err fault) = SettlesOrNot there old new

-- versions never fall, and a page whose version is as it was has the bytes that it had
abbrev pub VersionsTell : {F : Type 0} → DeviceState F → DeviceState F → Type 0
VersionsTell old new =
    (page : ℕ) → page < old.config.logical →
    (current_of old.noted page < current_of new.noted page)
    ⊎ ((current_of new.noted page ≡ current_of old.noted page)
    × (page_at new.machine.pages page ≡ page_at old.machine.pages page))

-- What each call that works on the flash keeps of what is known: the configuration, the versions, the mentions, and
-- that no transaction is named anew. The device is not dropped.
pub record ExitsTables {F : Type 0} (old new : DeviceState F) : Type 0 where
  pub config : new.config ≡ old.config
  pub versions : VersionsTell old new
  pub mentions : MentionsRise old.noted new.noted old.namings
  pub names : All (λ x. Any (λ before. before.names ≡ x.names) old.namings) new.namings
  pub kept : new.dropped ≡ false

-- and with it what the flash carries over, the operations by which its moment moves, and that no record is held which
-- was not, but for those that came into force
pub record Exits {F : Type 0} (state : F → FlashState) (old new : DeviceState F)
    (broken : Bool) : Type 0 where
  pub tables : ExitsTables old new
  pub moves : FlashMoves (state old.flash) (state new.flash) broken
  pub carries : Carries (state old.flash) (state new.flash) broken
  pub held : AddsNoHeldIn old.config.protocol old.config.logical (state old.flash).image (state new.flash).image

-- The call completed no transaction. At some moment nothing waited that had not waited before, where what waits is made
-- durable before each erase; since then only programs were done.
abbrev pub WorksSince : {F : Type 0} → (F → FlashState) → DeviceState F → DeviceState F → Bool → Type 0
WorksSince state old new broken =
    FlashWorksSinceErase old.config.protocol old.config.logical (state old.flash) (state new.flash) broken

-- What a call keeps that was answered and may have started the programs of several transactions together
pub record ExitsTogether {F : Type 0} (state : F → FlashState) (old new : DeviceState F) : Type 0 where
  pub tables : ExitsTables old new
  pub moves : FlashMovesTogether (state old.flash) (state new.flash) false
  pub carries : Carries (state old.flash) (state new.flash) false
  pub held : AddsNoHeldIn old.config.protocol old.config.logical (state old.flash).image (state new.flash).image

-- a page is mentioned in the image at most as the tables have it, or as an open transaction names it
abbrev pub MentionsAtMost : IndexState → List Naming → List Contents → Type 0
MentionsAtMost n namings image =
    (page : ℕ) → page < n.config.logical →
    (mention (records_in n.config.protocol image) page ≤ mention_of n page)
    ⊎ ((version : ℕ) × IsNamedAt namings page version
    × (mention (records_in n.config.protocol image) page ≤ version))
