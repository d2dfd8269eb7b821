-- What a put answers, and what it leaves.
use Rattle.std.specs.Prelude.{◌≡◌, ◌⊎◌, ◌<◌, ◌≤◌, ◌+◌, ℕ, true, false, List, length, None, Some, IsSome, IfErr, Result, Ok, Err}
use Rattle.flash_model.specs.Flash.{FlashState}
use Rattle.flash_model.specs.Calls.{Carries}
use Rattle.flash_model.specs.Moves.{FlashMoves}
use Rattle.flash_model.specs.Operations.{moment_of}
use Rattle.judged_records.specs.Images.{array_in}
use Rattle.array_machine.specs.ArrayState.{put}
use Rattle.judged_records.specs.IndexState.{mention_of}
use Rattle.tx_engine.specs.Always.{IsSeen}
use Rattle.tx_engine.specs.Naming.{is_spent}
use Rattle.page_keys.specs.BucketWrites.{BreaksBuckets, WritesBuckets}
use Rattle.page_keys.specs.Buckets.{EncodesMap}
use Rattle.page_keys.specs.KeyMaps.{KeyMap, apply, pages_of, seen_by}
use Rattle.page_keys.specs.PutCosts.{CostsPut}
use Rattle.page_keys.specs.Putting.{is_failed, is_put_fault}
use Rattle.page_keys.specs.Puts.{early_refusal, put_refusal, put_writes}
use Rattle.page_keys.specs.Stores.{KeyStoreState}
use Rattle.page_keys.specs.Writing.{Moved}
use Rattle.page_keys.specs.declared.answers.PutError.{PutError}
use Rattle.page_keys.specs.declared.answers.PutError.TheVariants as refused
use Rattle.page_keys.specs.declared.changes.Change.{Change}

-- the array and the image are as before, and the store can be used
pub record StaysPut {F : Type 0} (state : F → FlashState) (old new : KeyStoreState F) : Type 0 where
  pub config : new.device.config ≡ old.device.config
  pub machine : new.device.machine ≡ old.device.machine
  pub mentions : new.device.noted.mentions ≡ old.device.noted.mentions
  pub moment : moment_of (state new.device.flash) ≡ moment_of (state old.device.flash)
  pub carries : Carries (state old.device.flash) (state new.device.flash) false
  pub seen : (seen : ℕ → ℕ) → IsSeen seen old.device → IsSeen seen new.device
  pub usable : new.broken ≡ false

-- All changes are made: the array of the image has what the put writes, and is as before at every other page. Each page
-- that a key falls in is mentioned once more, and no other page: its bucket was written, also where none of its bytes
-- changed. No more was programmed and erased than these pages may take.
pub record MakesAll {F : Type 0} (state : F → FlashState) (old new : KeyStoreState F) (m : KeyMap)
    (cs : List Change) : Type 0 where
  pub taken : put_refusal old.device.config (is_spent old.device.noted.mentions) m cs ≡ None
  pub shows : EncodesMap new.device.config new.device.machine.pages (apply m cs)
  pub array : array_in old.device.config.protocol old.device.config.logical (state new.device.flash).image
      ≡ put old.device.machine.pages (put_writes old.device.config m cs)
  pub moved : Moved state old.device new.device false
  pub seen : (seen : ℕ → ℕ) → IsSeen seen old.device →
      IsSeen (seen_by old.device.config.logical cs seen) new.device
  pub mentions : (page : ℕ) → page < old.device.config.logical → mention_of new.device.noted page
      ≡ seen_by old.device.config.logical cs (mention_of old.device.noted) page
  pub written : WritesBuckets old.device.config cs (moment_of (state old.device.flash))
      (moment_of (state new.device.flash))
  pub costs : CostsPut old.device.config cs (moment_of (state old.device.flash)) (moment_of (state new.device.flash))
  pub usable : new.broken ≡ false

-- The image has the array as it was, or that with what the put writes, which is then not refused. Its buckets were
-- written from the first one on, perhaps none.
pub record MakesAllOrNone {F : Type 0} (state : F → FlashState) (old new : KeyStoreState F) (m : KeyMap)
    (cs : List Change) : Type 0 where
  pub tried : early_refusal old.device.config cs ≡ None
  pub left : let array = array_in new.device.config.protocol new.device.config.logical
      (state new.device.flash).image in
      ((array ≡ old.device.machine.pages) × EncodesMap new.device.config array m)
      ⊎ ((put_refusal old.device.config (is_spent old.device.noted.mentions) m cs ≡ None)
      × (array ≡ put old.device.machine.pages (put_writes old.device.config m cs))
      × EncodesMap new.device.config array (apply m cs))
  pub first : BreaksBuckets old.device.config cs (moment_of (state old.device.flash))
      (moment_of (state new.device.flash))
  pub costs : CostsPut old.device.config cs (moment_of (state old.device.flash)) (moment_of (state new.device.flash))
  pub moved : Moved state old.device new.device true
  pub seen : (seen : ℕ → ℕ) → IsSeen seen old.device →
      IsSeen (seen_by old.device.config.logical cs seen) new.device
  pub broken : new.broken ≡ true

abbrev pub PutGives : {F : Type 0} → (F → FlashState) → KeyStoreState F → KeyStoreState F → KeyMap →
    List Change → Result (Unit {0}) PutError → Type 0
PutGives state old new m cs (Ok u) = MakesAll state old new m cs
PutGives state old new m cs (Err refused.Fault) = MakesAllOrNone state old new m cs
PutGives state old new m cs (Err refused.Memory) =
    (early_refusal old.device.config cs ≡ None) × StaysPut state old new
PutGives state old new m cs (Err e) =
    (put_refusal old.device.config (is_spent old.device.noted.mentions) m cs ≡ Some e)
    × StaysPut state old new

-- How a put reads. Before it writes it reads no more pages than its keys fall in, and none where its changes alone
-- refuse it: then the flash is this one. A put that is refused, or finds no memory, leaves it so.
pub record ReadsFirst {F : Type 0} (state : F → FlashState) (old new : KeyStoreState F) (cs : List Change)
    (result : Result (Unit {0}) PutError) : Type 0 where
  pub read : F
  pub moment : moment_of (state read) ≡ moment_of (state old.device.flash)
  pub reads : (state read).reads
      ≤ (state old.device.flash).reads + length (pages_of old.device.config.logical cs)
  pub early : IsSome (early_refusal old.device.config cs) → read ≡ old.device.flash
  pub left : IfErr result (λ e. is_put_fault e ≡ false → new.device.flash ≡ read)
  pub moves : FlashMoves (state read) (state new.device.flash) (is_failed result)
