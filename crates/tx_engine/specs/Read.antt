-- Reading a page of the array from a flash.
use Rattle.std.specs.Prelude.{◌≡◌, ℕ, ◌<◌, ◌==◌, ◌&&◌, not, Bool, true, false, List, Option, None, Some, Result, Ok, Err, IsSome, if◌then◌else◌}
use Rattle.tx_types.specs.Config.{slots_of}
use Rattle.flash_model.specs.Calls.{Reads, page_of}
use Rattle.flash_model.specs.Flash.{FlashState, slot_at}
use Rattle.judged_records.specs.IndexState.{IndexState, current_of, current_name_of, discarded_of, home_of, slot_off}
use Rattle.flash_model.specs.declared.flash.Broken.{Broken}
use Rattle.flash_model.specs.declared.flash.Seen.{Seen}
use Rattle.collector.specs.declared.unsure.Unsure.{Unsure}
use Rattle.collector.specs.declared.unsure.Unsure.TheVariants as unsure
use Rattle.collector.specs.Known.{page_known}
use Rattle.tx_engine.specs.StoreState.{StoreState}
use Rattle.array_machine.specs.declared.answers.ReadAnswer.{ReadAnswer}
use Rattle.array_machine.specs.declared.answers.ReadAnswer.TheVariants as answer
use Rattle.array_machine.specs.declared.answers.ReadError.{ReadError}
use Rattle.array_machine.specs.declared.answers.ReadError.TheVariants as failed

-- the slot of the current record of a page from which it is read: its home, and, while it is not known whether a
-- collected block was erased, its lowest slot outside that block
abbrev pub current_place : IndexState → Unsure → ℕ → Option ℕ
current_place n unsure.Nothing page = home_of n (current_name_of n page)
current_place n (unsure.Own at rec) page = home_of n (current_name_of n page)
current_place n (unsure.Copy from to) page = home_of n (current_name_of n page)
current_place n unsure.SpareErase page = home_of n (current_name_of n page)
current_place n (unsure.VictimErase block) page = slot_off n block.0 (current_name_of n page)

-- the slot from which a page is read: that of its current record, if it has one which does not discard it
abbrev pub read_place : IndexState → Unsure → ℕ → Option ℕ
read_place n u page = if discarded_of n page then None else current_place n u page

-- whether a page is not blank: it has a current record, which does not discard it
abbrev pub is_written : IndexState → ℕ → Bool
is_written n page = not (current_of n page == 0) && not (discarded_of n page)

-- What a read of a page does to a flash and to the bytes of its room: nothing where the page is blank or there is
-- no such page, and else one read of the slot in this place.
abbrev pub ReadsFlash : {F : Type 0} → (F → FlashState) → Option ℕ → F → F → List ℕ → List ℕ →
    Result ReadAnswer ReadError → Type 0
ReadsFlash state place old new before after (Ok answer.Blank) = (new ≡ old) × (after ≡ before)
ReadsFlash state place old new before after (Ok answer.Page) =
    (at : ℕ) × (place ≡ Some at) × (spare : List ℕ) × (how : Seen)
    × Reads (state old) (state new) at after spare (Ok how)
ReadsFlash state place old new before after (Err failed.Range) = (new ≡ old) × (after ≡ before)
ReadsFlash state place old new before after (Err failed.Fault) =
    (at : ℕ) × (place ≡ Some at) × (spare : List ℕ) × (broken : Broken)
    × Reads (state old) (state new) at after spare (Err broken)

-- a slot shows the bytes that are known of a page
pub record ShowsKnown (s : FlashState) (n : IndexState) (page at : ℕ) : Type 0 where
  pub within : at < slots_of s.shape
  pub shows : page_known n s.image page ≡ Some (page_of s.shape.page_bytes (slot_at s.image at))

-- A read of the current record of a page: its bytes, by one read of its place; a page without one is answered without
-- the flash.
abbrev pub ReadsKnown : {F : Type 0} → (F → FlashState) → StoreState F → StoreState F → ℕ → List ℕ →
    List ℕ → Result Bool Broken → Type 0
ReadsKnown state old new page before after (Ok false) =
    (page_known old.noted (state old.flash).image page ≡ None) × (new.flash ≡ old.flash)
    × (after ≡ before)
ReadsKnown state old new page before after (Ok true) =
    (page_known old.noted (state old.flash).image page ≡ Some after)
    × ((at : ℕ) × (read_place old.noted old.unsure page ≡ Some at) × (spare : List ℕ) × (how : Seen)
    × Reads (state old.flash) (state new.flash) at after spare (Ok how))
ReadsKnown state old new page before after (Err broken) =
    IsSome (page_known old.noted (state old.flash).image page)
    × ((at : ℕ) × (read_place old.noted old.unsure page ≡ Some at) × (spare : List ℕ)
    × Reads (state old.flash) (state new.flash) at after spare (Err broken))

abbrev pub is_read_fault : Result ReadAnswer ReadError → Bool
is_read_fault (Ok answer) = false
is_read_fault (Err failed.Range) = false
is_read_fault (Err failed.Fault) = true
