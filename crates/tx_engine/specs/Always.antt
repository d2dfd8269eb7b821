-- What holds of a device at every moment, and how often its pages were mentioned.
use Rattle.std.specs.Prelude.{◌≡◌, ◌⊎◌, ◌≤◌, ℕ, Bool, false, Ok, Err}
use Rattle.tx_types.specs.declared.config.Protocol.{Protocol}
use Rattle.tx_types.specs.Config.{checked, shape_of}
use Rattle.tx_types.specs.Limits.{max_pending}
use Rattle.flash_model.specs.Flash.{FlashState}
use Rattle.judged_records.specs.Images.{IsSoundImage, array_in, records_in, current_in}
use Rattle.judged_records.specs.Notes.{found_in}
use Rattle.judged_records.specs.IndexState.{current_of, mention_of}
use Rattle.collector.specs.Known.{known_image}
use Rattle.collector.specs.declared.unsure.Unsure.TheVariants as unsure
use Rattle.array_machine.specs.ArrayState.{ArrayState, idle, Represents}
use Rattle.tx_engine.specs.Exits.{MentionsAtMost, IsNamedAt}
use Rattle.tx_engine.specs.DeviceState.{DeviceState, Stands}
use Rattle.array_machine.specs.Step.{StepsAs, CutLeaves, IsAtLast, settled}
use Rattle.array_machine.specs.declared.answers.StepError.TheVariants as failed

-- What holds of a device that is not dropped at every moment: of its flash, and of what a power cut leaves that was met
-- in a call which led here.
pub record HoldsAlways {F : Type 0} (state : F → FlashState) (protocol : Protocol)
    (s : DeviceState F) : Type 0 where
  pub kept : s.dropped ≡ false
  pub rule : s.config.protocol ≡ protocol
  pub check : checked s.config ≡ Ok (state s.flash).shape
  pub shape : (state s.flash).shape ≡ shape_of s.config
  pub few : s.config.pending ≤ max_pending
  pub sound : IsSoundImage s.config.protocol s.config.logical (shape_of s.config)
      (state s.flash).image
  pub array : Represents s.machine
      (array_in s.config.protocol s.config.logical (state s.flash).image)
  pub records : s.unsure ≡ unsure.Nothing →
      records_in s.config.protocol (state s.flash).image ≡ found_in s.noted.notes
  pub its : s.noted.config ≡ s.config
  pub mentions : MentionsAtMost s.noted s.namings (state s.flash).image
  pub beyond : (page : ℕ) → s.config.logical ≤ page → mention_of s.noted page ≡ 0
  pub step_cut : (old : ArrayState) (there : Bool) (tag : ℕ) →
      StepsAs there old s.machine tag (Err failed.Fault) →
      CutLeaves (λ e. (e.tag ≡ tag) × IsAtLast e) old
      (idle (array_in s.config.protocol s.config.logical (state s.flash).image))
  pub same_cut : CutLeaves (λ e. ⊥) s.machine
      (idle (array_in s.config.protocol s.config.logical (state s.flash).image))
  pub settled_cut : (old : ArrayState) (there : Bool) → s.machine ≡ settled there old →
      CutLeaves (λ e. ⊥) old
      (idle (array_in s.config.protocol s.config.logical (state s.flash).image))

-- each page is mentioned so often at most, and named so high by an open transaction
pub record IsSeen {F : Type 0} (seen : ℕ → ℕ) (s : DeviceState F) : Type 0 where
  pub mentions : (page : ℕ) → mention_of s.noted page ≤ seen page
  pub names : (page version : ℕ) → IsNamedAt s.namings page version → version ≤ seen page

-- What a device that stands for its array has on its flash: the image is sound, and its array is the device's, or that
-- with the pages of the transaction in doubt. Where nothing is unsure the image has the noted records.
pub record DevicesStand {F : Type 0} (state : F → FlashState) (p : Protocol) : Type 0 where
  pub sound : (s : DeviceState F) → Stands state s → s.config.protocol ≡ p →
      IsSoundImage p s.config.logical (state s.flash).shape (state s.flash).image
  pub known : (s : DeviceState F) → Stands state s → s.config.protocol ≡ p →
      IsSoundImage p s.config.logical (state s.flash).shape
      (known_image s.noted s.table.spare s.unsure (state s.flash).image)
      × (array_in p s.config.logical
      (known_image s.noted s.table.spare s.unsure (state s.flash).image) ≡ s.machine.pages)
  -- Its records are those that are noted, and its current versions those of the tables.
  pub known_records : (s : DeviceState F) → Stands state s → s.config.protocol ≡ p →
      records_in p (known_image s.noted s.table.spare s.unsure (state s.flash).image)
      ≡ found_in s.noted.notes
  pub known_versions : (s : DeviceState F) (page : ℕ) → Stands state s → s.config.protocol ≡ p →
      current_in p s.config.logical
      (known_image s.noted s.table.spare s.unsure (state s.flash).image) page
      ≡ current_of s.noted page
  pub array : (s : DeviceState F) → Stands state s → s.config.protocol ≡ p →
      Represents s.machine (array_in p s.config.logical (state s.flash).image)
  pub records : (s : DeviceState F) → Stands state s → s.config.protocol ≡ p →
      s.unsure ≡ unsure.Nothing →
      (records_in p (state s.flash).image ≡ found_in s.noted.notes)
      × (array_in p s.config.logical (state s.flash).image ≡ s.machine.pages)
  pub mentions : (s : DeviceState F) → Stands state s → s.config.protocol ≡ p →
      MentionsAtMost s.noted s.namings (state s.flash).image

-- what a power cut leaves in a call that leaves the state as before, or settled
abbrev pub SettledCuts : {F : Type 0} → (F → FlashState) → Protocol → Type 0
SettledCuts {F} state p =
    (old new : DeviceState F) (there : Bool) → Stands state new → new.config.protocol ≡ p →
    (new.machine ≡ old.machine) ⊎ (new.machine ≡ settled there old.machine) →
    CutLeaves (λ e. ⊥) old.machine
    (idle (array_in p new.config.logical (state new.flash).image))

-- What a power cut in a call leaves: the array of the image is one that the array machine allows.
pub record CutsLeave {F : Type 0} (state : F → FlashState) (p : Protocol) : Type 0 where
  pub step : (old new : DeviceState F) (there : Bool) (tag : ℕ) →
      Stands state new → new.config.protocol ≡ p →
      StepsAs there old.machine new.machine tag (Err failed.Fault) →
      CutLeaves (λ e. (e.tag ≡ tag) × IsAtLast e) old.machine
      (idle (array_in p new.config.logical (state new.flash).image))
  pub settled : SettledCuts state p
