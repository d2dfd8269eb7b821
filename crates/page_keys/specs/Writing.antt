-- Writing the pages of a put as one transaction.
use Rattle.std.specs.Prelude.{◌≡◌, ◌⊎◌, ℕ, ◌+◌, ◌<◌, Bool, true, false, List, [], ◌∷◌, length, map, All, None, Some, if◌then◌else◌}
use Rattle.std.specs.List.{list_any}
use Rattle.tx_types.specs.Batch.{PageWrite}
use Rattle.flash_model.specs.Flash.{FlashState}
use Rattle.flash_model.specs.Calls.{Carries}
use Rattle.flash_model.specs.Moves.{FlashMoves}
use Rattle.flash_model.specs.Operations.{moment_of}
use Rattle.record_list.specs.Records.{mention}
use Rattle.judged_records.specs.Images.{array_in, records_in}
use Rattle.judged_records.specs.IndexState.{mention_of}
use Rattle.open_table.specs.OpenTransactionsState.{next_name}
use Rattle.array_machine.specs.ArrayState.{ArrayState, Pages, put, idle}
use Rattle.tx_engine.specs.Always.{IsSeen}
use Rattle.array_machine.specs.Submit.{spent_page, is_of}
use Rattle.tx_engine.specs.Naming.{is_spent}
use Rattle.tx_engine.specs.DeviceState.{DeviceState}
use Rattle.array_machine.specs.declared.mark.Mark.TheVariants.{Plain}
use Rattle.array_machine.specs.declared.answers.SubmitError.TheVariants as submit
use Rattle.page_keys.specs.BucketWrites.{WritesFirst, WritesInTurn, linked}
use Rattle.page_keys.specs.PutCosts.{CostsPages}
use Rattle.page_keys.specs.declared.answers.PutError.{PutError}
use Rattle.page_keys.specs.declared.answers.PutError.TheVariants as refused

-- a page that is written may be mentioned once more
abbrev pub seen_more : (ℕ → ℕ) → List PageWrite → ℕ → ℕ
seen_more seen writes page =
    if list_any (is_of page) writes then seen page + 1 else seen page

-- what stays of a device, and how its flash moved
pub record Moved {F : Type 0} (state : F → FlashState) (old new : DeviceState F)
    (broken : Bool) : Type 0 where
  pub config : new.config ≡ old.config
  pub moves : FlashMoves (state old.flash) (state new.flash) broken
  pub carries : Carries (state old.flash) (state new.flash) broken

-- The array has all the writes, and nothing is open. Each page of them is mentioned once more, and no other page. The
-- records were written one after another, each one version above the mention of its page, which is above all that the
-- image mentioned of it.
pub record Writes {F : Type 0} (state : F → FlashState) (old new : DeviceState F)
    (writes : List PageWrite) : Type 0 where
  pub unspent : spent_page (is_spent old.noted.mentions) writes ≡ None
  pub machine : new.machine ≡ idle (put old.machine.pages writes)
  pub array : array_in old.config.protocol old.config.logical (state new.flash).image ≡ put old.machine.pages writes
  pub moved : Moved state old new false
  pub seen : (seen : ℕ → ℕ) → IsSeen seen old → IsSeen (seen_more seen writes) new
  pub mentions : (page : ℕ) → page < old.config.logical →
      mention_of new.noted page ≡ seen_more (mention_of old.noted) writes page
  pub above : All (λ name. mention (records_in old.config.protocol (state old.flash).image) name.page < name.version)
      (map (next_name old.noted) writes)
  pub turns : WritesInTurn old.config (moment_of (state old.flash)) (linked (map (next_name old.noted) writes))
      (moment_of (state new.flash))
  pub costs : CostsPages old.config (length writes) (moment_of (state old.flash)) (moment_of (state new.flash))

-- nothing changed but what is pinned
pub record Refuses {F : Type 0} (old new : DeviceState F) : Type 0 where
  pub config : new.config ≡ old.config
  pub machine : new.machine ≡ old.machine
  pub flash : new.flash ≡ old.flash
  pub mentions : new.noted.mentions ≡ old.noted.mentions
  pub namings : new.namings ≡ old.namings

-- The image has the array, or that with all the writes. The first of the records were written, as where all are.
pub record Breaks {F : Type 0} (state : F → FlashState) (old new : DeviceState F)
    (writes : List PageWrite) : Type 0 where
  pub unspent : spent_page (is_spent old.noted.mentions) writes ≡ None
  pub moved : Moved state old new true
  pub seen : (seen : ℕ → ℕ) → IsSeen seen old → IsSeen (seen_more seen writes) new
  pub left : let array = array_in new.config.protocol new.config.logical (state new.flash).image in
      (array ≡ old.machine.pages) ⊎ (array ≡ put old.machine.pages writes)
  pub above : All (λ name. mention (records_in old.config.protocol (state old.flash).image) name.page < name.version)
      (map (next_name old.noted) writes)
  pub first : WritesFirst old.config (map (next_name old.noted) writes) (moment_of (state old.flash))
      (moment_of (state new.flash))
  pub costs : CostsPages old.config (length writes) (moment_of (state old.flash)) (moment_of (state new.flash))

abbrev pub WritesNot : {F : Type 0} → (F → FlashState) → DeviceState F → DeviceState F →
    List PageWrite → PutError → Type 0
WritesNot state old new writes (refused.Spent page) =
    (spent_page (is_spent old.noted.mentions) writes ≡ Some (submit.Spent page)) × Refuses old new
WritesNot state old new writes refused.Fault = Breaks state old new writes
WritesNot state old new writes _ = ⊥

-- a machine that has one transaction open, with this many pages written
abbrev pub writing : Pages → List PageWrite → ℕ → ArrayState
writing array writes done = record {
  pages = array;
  entries = record { tag = 0; writes = writes; done = done; mark = Plain } ∷ [];
}
