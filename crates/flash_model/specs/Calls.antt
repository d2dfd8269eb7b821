-- What the calls of a flash do, and what is left where one is broken.
use Rattle.std.specs.Prelude.{◌≡◌, ℕ, ◌<◌, ◌≤◌, Bool, true, false, ◌&&◌, List, replicate, Option, None, Some, Result, IfOk, OnOk, OnErr, if◌then◌else◌}
use Rattle.std.specs.Bool.{OnTrue, OnFalse}
use Rattle.std.specs.Result.{is_err}
use Rattle.tx_types.specs.Limits.{spare_bytes}
use Rattle.flash_model.specs.declared.flash.Broken.{Broken}
use Rattle.flash_model.specs.declared.flash.Seen.{Seen}
use Rattle.flash_model.specs.declared.flash.Seen.TheVariants as seen
use Rattle.flash_model.specs.Flash.{FlashState, Told, Contents, blank, damaged, complete, slot_at, counted, counted_times}
use Rattle.flash_model.specs.Coming.{ComesTo}
use Rattle.flash_model.specs.Operations.{Operation, program, erase, starts, moment_of, Done, Torn}

-- a count of faults rose, or already stood at the end of its type
abbrev pub Rose : ℕ → ℕ → Type 0
Rose before now = counted before ≤ now

-- both tell, and this holds of what they tell, or neither tells
abbrev pub BothTell : (Told → Told → Type 0) → Option Told → Option Told → Type 0
BothTell P None None = Unit {0}
BothTell P (Some old) (Some new) = P old new
BothTell P None (Some new) = ⊥
BothTell P (Some old) None = ⊥

-- no cut and no fault more are to come
abbrev pub NoMoreToCome : Told → Told → Type 0
NoMoreToCome old new = (new.cuts ≤ old.cuts) × (new.breaks ≤ old.breaks)

-- one of the faults that were to come is used up where the flash is live still, and else one of the cuts
abbrev pub Spends : Bool → Told → Told → Type 0
Spends true old new = new.breaks < old.breaks
Spends false old new = new.cuts < old.cuts

-- so many are started, and so many reads: each is counted, and the arms come by them
abbrev pub Starts : FlashState → FlashState → Bool → Type 0
Starts old new broken =
    (started : ℕ) × (reads : ℕ) × (new.started ≡ counted_times started old.started)
    × (new.reads ≡ counted_times reads old.reads)
    × BothTell (ComesTo broken new.live started reads) old.told new.told

-- What each call of a flash keeps, and each call of what stands on one, which was broken or not: the shape, the count
-- of faults, which does not fall, what is to come, and what is told of retired blocks. The count of faults rises where
-- a call is broken, and no other call changes it. Only a broken call may end being live. On a flash without power
-- nothing but that count changes. With power each arm comes at its number. It takes 'broken or not' in place of a
-- result, so that each layer above can say which of its answers are broken.
pub record Carries (old new : FlashState) (broken : Bool) : Type 0 where
  pub shape : new.shape ≡ old.shape
  pub later : old.faults ≤ new.faults
  pub cause : OnTrue broken (Rose old.faults new.faults)
  -- a call that was answered counts no fault
  pub quiet : OnFalse broken (new.faults ≡ old.faults)
  pub lives : OnFalse broken (new.live ≡ old.live)
  pub dead : old.live ≡ false → new ≡ record old { faults = new.faults }
  pub no_more : BothTell NoMoreToCome old.told new.told
  pub extras : new.extras ≡ old.extras
  pub spends : OnTrue broken (old.live ≡ true → BothTell (Spends new.live) old.told new.told)
  pub starts : old.live ≡ true → Starts old new broken

-- how a slot with these contents reads
abbrev pub seen_of : Contents → Seen
seen_of blank = seen.Blank
seen_of damaged = seen.Damaged
seen_of (complete bytes spare_area) = seen.Complete

-- n bytes as a slot with these contents shows them where it has none of its own
abbrev pub page_of : ℕ → Contents → List ℕ
page_of n blank = replicate n 255
page_of n damaged = replicate n 0
page_of n (complete bytes spare_area) = bytes

abbrev pub spare_area_of : Contents → List ℕ
spare_area_of blank = replicate spare_bytes 255
spare_area_of damaged = replicate spare_bytes 0
spare_area_of (complete bytes spare_area) = spare_area

-- the contents as a read shows them
pub record Shows (page_bytes : ℕ) (contents : Contents) (how : Seen)
    (bytes spare_area : List ℕ) : Type 0 where
  pub how_it_reads : how ≡ seen_of contents
  pub its_page : bytes ≡ page_of page_bytes contents
  pub its_spare_area : spare_area ≡ spare_area_of contents

-- a read changes no slot and no count of what was done or started, and counts itself where power is on
pub record Reads (old new : FlashState) (at : ℕ) (bytes spare_area : List ℕ)
    (result : Result Seen Broken) : Type 0 where
  pub carries : Carries old new (is_err result)
  pub powered : OnOk result (old.live ≡ true)
  pub done : IfOk result (λ how. Shows old.shape.page_bytes (slot_at old.image at) how bytes spare_area)
  pub image : new.image ≡ old.image
  pub programs : new.programs ≡ old.programs
  pub erases : new.erases ≡ old.erases
  pub reads : new.reads ≡ (if old.live then counted old.reads else old.reads)
  pub started : new.started ≡ old.started

-- the spare area of a slot is read as with the slot's contents, of which nothing is said
abbrev pub ReadsSpareArea : FlashState → FlashState → ℕ → List ℕ → Result Seen Broken → Type 0
ReadsSpareArea old new at spare_area result = (bytes : List ℕ) × Reads old new at bytes spare_area result

-- An operation is done, which needs power, or broken. It counts no read, and where power is on it counts as started, if
-- it has something to do.
pub record Operates (old new : FlashState) (o : Operation)
    (result : Result (Unit {0}) Broken) : Type 0 where
  pub carries : Carries old new (is_err result)
  pub powered : OnOk result (old.live ≡ true)
  pub done : OnOk result (Done old.shape (moment_of old) o (moment_of new))
  pub torn : OnErr result (Torn old.shape (moment_of old) o (moment_of new))
  pub reads : new.reads ≡ old.reads
  pub started : new.started ≡ (if old.live && starts o then counted old.started else old.started)

abbrev pub Programs : FlashState → FlashState → ℕ → List ℕ → List ℕ → Result (Unit {0}) Broken →
    Type 0
Programs old new at bytes spare_area result = Operates old new (program at bytes spare_area) result

abbrev pub Erases : FlashState → FlashState → ℕ → Result (Unit {0}) Broken → Type 0
Erases old new block result = Operates old new (erase block) result
