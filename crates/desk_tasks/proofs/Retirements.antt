-- Retiring a block of the device of an image, from what its parts come to.
use Rattle.desk_tasks.proofs.Common.{◌≡◌, inl, inr, ℕ, false, List, Option, None, Some, Ok, Err, refl, sym, ap, subst, ◌∙◌, shape_of, Config, Protocol, Contents, Extras, MemFlashState, loaded, state_of, IsSoundImage, array_in, ReadsImage, Ending, Retiring, RefusesRetirement}
use Rattle.std.proofs.Common.{◌<◌, Bool, true, nat_lt, if◌then◌else◌, unwrap_or}
use Rattle.std.proofs.lemmas.Bool.{ltb-true}
use Rattle.std.proofs.lemmas.Option.{none-some}
use Rattle.flash_model.specs.Flash.{IsFlash, no_extras}
use Rattle.flash_model.specs.Operations.{Moment}
use Rattle.flash_model.specs.Retiring.{RetiresAfter, one_more}
use Rattle.array_machine.specs.ArrayState.{ArrayState, Pages, idle}
use Rattle.array_machine.specs.Step.{settled}
use Rattle.die_alloc.specs.BlocksState.{BlocksState}
use Rattle.judged_records.specs.Opening.{IsChosenSpare, opening_noted}
use Rattle.collector.specs.Retiring.{retiring_first}
use Rattle.collector.specs.Settling.{settlement}
use Rattle.tx_engine.specs.Always.{DevicesStand}
use Rattle.tx_engine.specs.DeviceCalls.{RetiresDevice}
use Rattle.tx_engine.specs.Exits.{is_there}
use Rattle.tx_engine.specs.Opens.{Mounts}
use Rattle.tx_engine.specs.DeviceState.{DeviceState, Stands}
use Rattle.tx_engine.specs.Retire.{RetireEnds}
use Rattle.tx_types.specs.Config.{blocks_of}
use Rattle.desk_tasks.specs.Ending.{Retired, RefusedBlock}
use Rattle.desk_tasks.specs.Retirements.{IsBlankBlock, LeavesRetired, MovesNeeded, RetiresIdle, block_refusal, worn_ending}
use Rattle.desk_tasks.proofs.MovedRecords.{moves_needed}

-- a device with nothing open
pub idle_again : (s : ArrayState) (pages : Pages) → s ≡ idle pages → s ≡ idle s.pages
idle_again s pages e = e ∙ ap idle (sym (ap (λ (s : ArrayState). s.pages) e))

-- where nothing is open, nothing is in doubt
settled_idle : (there : Bool) (pages : Pages) → settled there (idle pages) ≡ idle pages
settled_idle true pages = refl
settled_idle false pages = refl

-- what a device with nothing open is left with
pub retires_idle : (old new : DeviceState MemFlashState) (block : ℕ) (p : Protocol) →
    old.machine ≡ idle old.machine.pages → Stands state_of new →
    new.config.protocol ≡ p → DevicesStand state_of p → RetiresDevice state_of old new block (Ok tt) →
    RetiresIdle old new block
retires_idle old new block p none stands rule laws retires = record {
  shape = shape;
  extras = ap (λ extras. unwrap_or extras no_extras) retires.told;
  sound = subst (λ (c : Config). IsSoundImage c.protocol c.logical old.flash.shape image) same
      (rw (rule, ← shape) (laws.sound new stands rule));
  array = subst (λ (c : Config). array_in c.protocol c.logical image ≡ new.machine.pages) same
      (rw rule (laws.records new stands rule retires.sure).1) ∙ pages;
  blank = subst (λ (c : Config). IsBlankBlock c image block) (sym stands.config ∙ same) retires.blank;
  ends = retires.exits.ends;
}
  where
    image : List Contents
    image = new.flash.image

    same : new.config ≡ old.config
    same = retires.exits.tables.config

    shape : new.flash.shape ≡ old.flash.shape
    shape = retires.exits.carries.carries.shape

    pages : new.machine.pages ≡ old.machine.pages
    pages = ap (λ (s : ArrayState). s.pages) (retires.retires ∙ ap (settled (is_there state_of old)) none ∙
        settled_idle (is_there state_of old) old.machine.pages)

-- a block that is not refused exists
block_exists : (its : Config) (extras : Extras) (block : ℕ) → block_refusal its extras block ≡ None →
    block < blocks_of (shape_of its)
block_exists its extras block none = by_test (nat_lt block (blocks_of (shape_of its))) refl none
  where
    by_test : (low : Bool) → nat_lt block (blocks_of (shape_of its)) ≡ low →
        (if low then worn_ending extras else Some (RefusedBlock block)) ≡ None → block < blocks_of (shape_of its)
    by_test true low h = ltb-true block (blocks_of (shape_of its)) low
    by_test false past h = absurd (none-some (RefusedBlock block) (sym h))

-- ---- the flash that is left, from a device that was mounted

module _ (its : Config) (flash : MemFlashState) (opened : DeviceState MemFlashState)
    (ready : flash ≡ loaded (shape_of its) flash.image flash.extras)
    (mounts : Mounts state_of flash its opened) where
  pub opened_shape : opened.flash.shape ≡ shape_of its
  opened_shape = mounts.carries.shape ∙ ap (λ (s : MemFlashState). s.shape) ready

  opened_extras : opened.flash.extras ≡ flash.extras
  opened_extras = ap (λ extras. unwrap_or extras no_extras) mounts.carries.extras

  pub opened_refusal : (block : ℕ) (refusal : Option Ending) →
      block_refusal opened.config opened.flash.extras block ≡ refusal →
      block_refusal its flash.extras block ≡ refusal
  opened_refusal block refusal e =
      subst (λ (c : Config). block_refusal c flash.extras block ≡ refusal) mounts.config
      (subst (λ (x : Extras). block_refusal opened.config x block ≡ refusal) opened_extras e)

  opened_image : opened.flash.image ≡ flash.image
  opened_image = ap (λ (m : Moment). m.image) mounts.moment

  -- the operations that retire a block of it, by the tables of its image
  opened_ends : (block : ℕ) (new : DeviceState MemFlashState) → RetireEnds state_of opened new block (Ok tt) →
      RetiresAfter (state_of opened.flash) (state_of new.flash)
      (retiring_first (opening_noted its opened.flash.image mounts.tables.spare) opened.flash.image
      mounts.tables.spare block) block
  opened_ends block new ends =
      let spare = mounts.tables.spare in
      let image = opened.flash.image in
      let noted : opened.noted ≡ opening_noted its image spare =
      mounts.tables.noted_is ∙ ap (λ i. opening_noted its i spare) (sym opened_image) in
      let spare_is : opened.table.spare ≡ spare = ap (λ (t : BlocksState). t.spare) mounts.tables.table_is in
      subst (λ n. RetiresAfter (state_of opened.flash) (state_of new.flash) (retiring_first n image spare block) block)
      noted
      (subst (λ k. RetiresAfter (state_of opened.flash) (state_of new.flash)
      (retiring_first opened.noted image k block) block) spare_is
      (subst (λ u. RetiresAfter (state_of opened.flash) (state_of new.flash)
      (retiring_first (settlement opened.noted opened.table image u).noted image
      (settlement opened.noted opened.table image u).table.spare block) block) mounts.unsure ends))

  opened_moves : (block : ℕ) (new : DeviceState MemFlashState) → IsFlash (state_of opened.flash) →
      block < blocks_of (shape_of its) → RetireEnds state_of opened new block (Ok tt) →
      MovesNeeded its flash.image block new.flash.image
  opened_moves block new whole low ends =
      let spare = mounts.tables.spare in
      subst (λ (image : List Contents). MovesNeeded its image block new.flash.image) opened_image
      (moves_needed its (state_of opened.flash) (state_of new.flash) spare block opened_shape whole low
      (subst (λ (image : List Contents). IsChosenSpare its image spare) (sym opened_image) mounts.tables.chosen)
      (opened_ends block new ends))

  pub leaves_retired : (block : ℕ) (new : DeviceState MemFlashState) (left : MemFlashState) →
      IsFlash (state_of opened.flash) →
      IsSoundImage its.protocol its.logical (shape_of its) flash.image →
      block_refusal opened.config opened.flash.extras block ≡ None →
      RetiresIdle opened new block → left ≡ new.flash → LeavesRetired its flash block left
  leaves_retired block new left whole sound none retires is = record {
    refusal = opened_refusal block None none;
    shape = ap (λ (s : MemFlashState). s.shape) is ∙ retires.shape ∙ opened_shape;
    extras = ap (λ (s : MemFlashState). s.extras) is ∙ retires.extras ∙ ap one_more opened_extras;
    empties = record {
      sound = sound;
      left_sound = rw is (subst (λ (c : Config). IsSoundImage c.protocol c.logical (shape_of its) new.flash.image)
          mounts.config
          (rw (← opened_shape) retires.sound));
      array = rw is (subst (λ (c : Config). array_in c.protocol c.logical new.flash.image ≡ opened.machine.pages)
          mounts.config retires.array
          ∙ ap (λ (s : ArrayState). s.pages) mounts.machine);
      blank = rw is (subst (λ (c : Config). IsBlankBlock c new.flash.image block) mounts.config retires.blank);
      moves = rw is (opened_moves block new whole
          (block_exists its flash.extras block (opened_refusal block None none)) retires.ends);
    };
  }

-- ---- the ending, from its parts

module _ (name bytes : List ℕ) (block : ℕ) (its : Config) (image : List Contents) (extras : Extras)
    (read : ReadsImage bytes (Ok (its, image, extras))) where
  pub retiring_refused : (ending : Ending) → RefusesRetirement its image extras block ending →
      Retiring name bytes block ending
  retiring_refused ending (inl h) = (Ok (its, image, extras), read, ((Err h.0, h.1, h.2), refl))
  retiring_refused ending (inr h) = (Ok (its, image, extras), read, ((Ok tt, h.0, rw h.1 refl), refl))

  pub retiring_done : IsSoundImage its.protocol its.logical (shape_of its) image →
      block_refusal its extras block ≡ None →
      Retiring name bytes block (Retired name its image extras block)
  retiring_done sound none = (Ok (its, image, extras), read, ((Ok tt, sound, rw none refl), refl))
