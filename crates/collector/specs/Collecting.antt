-- Collecting a block: which operations it takes.
use Rattle.std.specs.Prelude.{◌≡◌, ℕ, ◌+◌, ◌*◌, ◌==◌, Bool, true, false, Some, List, [], ◌∷◌, ◌++◌, filter, Any, length, if◌then◌else◌}
use Rattle.std.specs.List.{range_with_len, list_all}
use Rattle.tx_types.specs.declared.config.BlockState.{BlockState}
use Rattle.tx_types.specs.declared.config.BlockState.TheVariants.{Clean, Part, Shut}
use Rattle.flash_model.specs.Flash.{FlashState, Contents, blank, damaged, complete, slot_at, counted, counted_times}
use Rattle.flash_model.specs.Calls.{page_of, spare_area_of}
use Rattle.flash_model.specs.Operations.{Operation, program, erase, moment_of}
use Rattle.flash_model.specs.Moves.{Does}
use Rattle.tx_types.specs.declared.config.Slot.{Slot}
use Rattle.judged_records.specs.Notes.{note_at}
use Rattle.judged_records.specs.IndexState.{IndexState, needed_of, copied, erased, with_spare, is_blank}
use Rattle.die_alloc.specs.BlocksState.{BlocksState, with_use, table_with_spare}
use Rattle.die_alloc.specs.NextSlot.{next_slot, after_next_slot}
use Rattle.collector.specs.Matches.{IsFilledBy, CanSpare}
use Rattle.collector.specs.Victim.{IsVictim}

abbrev pub is_blank_slot : Contents → Bool
is_blank_slot blank = true
is_blank_slot damaged = false
is_blank_slot (complete bytes spare) = false

-- the slots of a block
abbrev pub slots_in : IndexState → ℕ → List ℕ
slots_in n block = range_with_len (block * n.config.pages_per_block) n.config.pages_per_block

-- whether each slot of a block is blank
abbrev pub is_blank_block : IndexState → List Contents → ℕ → Bool
is_blank_block n image block =
    list_all (λ slot. is_blank_slot (slot_at image slot)) (slots_in n block)

-- the spare is erased where it is not all blank
abbrev pub cleaning : IndexState → List Contents → ℕ → List Operation
cleaning n image spare = if is_blank_block n image spare then [] else erase spare ∷ []

-- what is noted once the spare is all blank
abbrev pub noted_cleaned : IndexState → ℕ → IndexState
noted_cleaned n spare = erased n spare

-- the slots of a block that are needed, in their order
abbrev pub needed_slots : IndexState → ℕ → List ℕ
needed_slots n block = filter (needed_of n) (slots_in n block)

-- the program of a copy
abbrev pub copy_program : ℕ → List Contents → ℕ → ℕ → Operation
copy_program page_bytes image to from =
    program to (page_of page_bytes (slot_at image from)) (spare_area_of (slot_at image from))

-- the programs of the copies of these slots, one after another from a slot of the spare on
abbrev pub copies : ℕ → List Contents → ℕ → List ℕ → List Operation
copies page_bytes image to [] = []
copies page_bytes image to (from ∷ rest) =
    copy_program page_bytes image to from ∷ copies page_bytes image (to + 1) rest

-- the operations that collect a block: the spare is made blank, what is needed in the block is copied there, and the
-- block is erased
abbrev pub collecting : IndexState → List Contents → ℕ → ℕ → List Operation
collecting n image spare block =
    cleaning n image spare
    ++ copies n.config.page_bytes image (spare * n.config.pages_per_block)
    (needed_slots (noted_cleaned n spare) block)
    ++ erase block ∷ []

-- the state of a block with this many slots of which this many first ones are used
abbrev pub open_state : ℕ → ℕ → BlockState
open_state pages used = if used == 0 then Clean else (if used == pages then Shut else Part)

-- the block is the spare now, and the old spare has this many used slots
abbrev pub swapped : BlocksState → ℕ → ℕ → BlocksState
swapped t block used =
    with_use (table_with_spare t block) t.spare (open_state t.shape.pages_per_block used) used

-- a slot of the block is not needed
abbrev pub HasUnneeded : IndexState → ℕ → Type 0
HasUnneeded n block = Any (λ slot. needed_of n slot ≡ false) (slots_in n block)

-- whether each slot of a block is noted as blank
abbrev pub is_noted_blank : IndexState → ℕ → Bool
is_noted_blank n block = list_all (λ slot. is_blank (note_at n.notes slot)) (slots_in n block)

-- a copy that was done: one read and one program
pub record CopyDone (n : IndexState) (old new : FlashState) (from to : ℕ) : Type 0 where
  pub programmed :
      Does old.shape (moment_of old) (copy_program n.config.page_bytes old.image to from ∷ [])
      (moment_of new)
  pub reads : new.reads ≡ counted old.reads

-- what is noted once the records of these slots stand in the spare too, one after another from a slot of it on
abbrev pub copied_from : IndexState → ℕ → List ℕ → IndexState
copied_from n to [] = n
copied_from n to (from ∷ rest) = copied_from (copied n from to) (to + 1) rest

-- what is noted once a block was collected: it is the spare, and all blank; what was needed in it stands in the old
-- spare
abbrev pub collected : IndexState → ℕ → ℕ → IndexState
collected n spare block =
    let m = noted_cleaned n spare in
    with_spare
    (erased (copied_from m (spare * n.config.pages_per_block)
    (needed_slots m block)) block) block

-- The copies of what is needed in a block, in the order of its slots, from the first slot of the spare on: `used` of
-- them, each one read and one program. Then nothing that is wanted stands in the block alone.
pub record CopiesDone (n n' : IndexState) (old new : FlashState) (spare block used : ℕ) : Type 0 where
  pub count : used ≡ length (needed_slots n block)
  pub programmed :
      Does old.shape (moment_of old)
      (copies n.config.page_bytes old.image (spare * n.config.pages_per_block)
      (needed_slots n block)) (moment_of new)
  pub noted : n' ≡ copied_from n (spare * n.config.pages_per_block) (needed_slots n block)
  pub filled : IsFilledBy n' spare used
  pub spared : CanSpare n' block
  pub reads : new.reads ≡ counted_times used old.reads

-- A block was collected for the sake of room: of the blocks with the most garbage, once the spare is blank, the lowest.
-- This is the slot that is programmed next then.
pub record CollectsForRoom (n : IndexState) (t : BlocksState) (n' : IndexState) (t' : BlocksState)
    (at : Slot) : Type 0 where
  pub victim : ℕ
  pub is_victim : IsVictim (noted_cleaned n t.spare) t victim
  pub noted : n' ≡ collected n t.spare victim
  pub slot : next_slot (swapped t victim (length (needed_slots (noted_cleaned n t.spare) victim)))
      ≡ Some at
  pub table : t'
      ≡ after_next_slot
      (swapped t victim (length (needed_slots (noted_cleaned n t.spare) victim)))
