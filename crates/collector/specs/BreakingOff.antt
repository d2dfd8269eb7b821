-- Where a collection breaks off: which of its operations were done, which one was broken, and what is noted then.
use Rattle.std.specs.Prelude.{◌≡◌, ◌⊎◌, ℕ, ◌+◌, ◌*◌, ◌<◌, true, false, Some, List, [], ◌∷◌, ◌++◌, length}
use Rattle.tx_types.specs.declared.config.Slot.{Slot}
use Rattle.flash_model.specs.Flash.{FlashState, counted, counted_times}
use Rattle.flash_model.specs.Moves.{Does, FlashMoves}
use Rattle.flash_model.specs.Operations.{BreaksIn, Moment, Operation, Torn, erase, moment_of}
use Rattle.judged_records.specs.IndexState.{IndexState, block_to_go}
use Rattle.die_alloc.specs.BlocksState.{BlocksState}
use Rattle.collector.specs.declared.unsure.Unsure.{Unsure}
use Rattle.collector.specs.declared.unsure.Unsure.TheVariants as unsure
use Rattle.collector.specs.Going.{EvictsInTurn, blocks_to_go}
use Rattle.collector.specs.Victim.{IsVictim}
use Rattle.collector.specs.Collecting.{cleaning, noted_cleaned, needed_slots, copy_program, copies, copied_from}

-- the first slot of a block
abbrev pub start_of : IndexState → ℕ → ℕ
start_of n block = block * n.config.pages_per_block

-- After some operations the first of the needed slots of a block were copied to the spare, in their order, and no more
-- was done. The copies of the rest would come next. What is noted says so.
pub record CopiedFirst (n : IndexState) (old : FlashState) (before : List Operation) (spare block : ℕ)
    (first rest : List ℕ)
    (now : Moment) (n' : IndexState) : Type 0 where
  pub order : needed_slots n block ≡ first ++ rest
  pub done :
      Does old.shape (moment_of old)
      (before ++ copies n.config.page_bytes old.image (start_of n spare) first) now
  pub noted : n' ≡ copied_from n (start_of n spare) first

-- No operation was broken. A slot is left to be copied: its read came next, and failed, and is counted where power was
-- on.
pub record ReadFails (n : IndexState) (old new : FlashState) (before : List Operation) (spare block : ℕ)
    (n' : IndexState) : Type 0 where
  pub first : List ℕ
  pub from : ℕ
  pub later : List ℕ
  pub copied : CopiedFirst n old before spare block first (from ∷ later) (moment_of new) n'
  pub reads : old.live ≡ true → new.reads ≡ counted_times (length first + 1) old.reads

-- The next slot was read, and the program of its copy was broken. A failed read looks on the flash like a copy that
-- left its slot blank: the count of reads tells the two apart.
pub record CopyBreaks (n : IndexState) (old new : FlashState) (before : List Operation) (spare block : ℕ)
    (from to : ℕ)
    (n' : IndexState) : Type 0 where
  pub first : List ℕ
  pub later : List ℕ
  pub between : Moment
  pub copied : CopiedFirst n old before spare block first (from ∷ later) between n'
  pub place : to ≡ start_of n spare + length first
  pub torn : BreaksIn old.shape between (copy_program n.config.page_bytes old.image to from)
      (moment_of new)
  pub reads : new.reads ≡ counted_times (length first + 1) old.reads

-- all copies were done, and the erase of the block was broken, which is counted as started where power was on
pub record EraseBreaks (n : IndexState) (old new : FlashState) (before : List Operation)
    (spare block : ℕ)
    (n' : IndexState) : Type 0 where
  pub between : Moment
  pub copied : CopiedFirst n old before spare block (needed_slots n block) [] between n'
  pub torn : Torn old.shape between (erase block) (moment_of new)
  pub started : old.live ≡ true → new.started ≡ counted between.started
  pub reads : new.reads ≡ counted_times (length (needed_slots n block)) old.reads

-- the spare was to be erased first, and that was broken
pub record CleaningBreaks (n : IndexState) (old new : FlashState) (spare : ℕ) : Type 0 where
  pub first : cleaning n old.image spare ≡ erase spare ∷ []
  pub torn : Torn old.shape (moment_of old) (erase spare) (moment_of new)
  pub started : old.live ≡ true → new.started ≡ counted old.started
  pub reads : new.reads ≡ old.reads

-- a copy breaks off: the read of its source failed, or its source was read and the program was broken
abbrev pub CopyBreaksOff : IndexState → FlashState → FlashState → Slot → Slot → Unsure → Type 0
CopyBreaksOff n old new from to u =
    ((u ≡ unsure.Nothing) × (moment_of new ≡ moment_of old)
    × (old.live ≡ true → new.reads ≡ counted old.reads))
    ⊎ ((u ≡ unsure.Copy from to)
    × BreaksIn old.shape (moment_of old) (copy_program n.config.page_bytes old.image to.0 from.0)
    (moment_of new)
    × (new.reads ≡ counted old.reads))

-- the copies of a collection break off, after some operations, and this place is unsure then
abbrev pub CopiesBreakOff : IndexState → FlashState → FlashState → List Operation → ℕ → ℕ → IndexState →
    Unsure → Type 0
CopiesBreakOff n old new before spare block n' unsure.Nothing =
    ReadFails n old new before spare block n'
CopiesBreakOff n old new before spare block n' (unsure.Copy from to) =
    CopyBreaks n old new before spare block from.0 to.0 n'
CopiesBreakOff n old new before spare block n' (unsure.Own at rec) = ⊥
CopiesBreakOff n old new before spare block n' unsure.SpareErase = ⊥
CopiesBreakOff n old new before spare block n' (unsure.VictimErase b) = ⊥

-- a collection breaks off, and this place is unsure then: a front part of its operations was done
abbrev pub BreaksOff : IndexState → FlashState → FlashState → ℕ → ℕ → IndexState → Unsure → Type 0
BreaksOff n old new spare block n' unsure.SpareErase = CleaningBreaks n old new spare × (n' ≡ n)
BreaksOff n old new spare block n' unsure.Nothing =
    ReadFails (noted_cleaned n spare) old new (cleaning n old.image spare) spare block n'
BreaksOff n old new spare block n' (unsure.Copy from to) =
    CopyBreaks (noted_cleaned n spare) old new
    (cleaning n old.image spare) spare block from.0 to.0 n'
BreaksOff n old new spare block n' (unsure.VictimErase b) =
    (b.0 ≡ block)
    × EraseBreaks (noted_cleaned n spare) old new (cleaning n old.image spare) spare block n'
BreaksOff n old new spare block n' (unsure.Own at rec) = ⊥

-- Room was to be made, and that breaks off: the spare was to be erased first, or, once it is blank, the block with the
-- most garbage was being collected.
abbrev pub RoomBreaksOff : IndexState → BlocksState → FlashState → FlashState → IndexState → Unsure → Type 0
RoomBreaksOff n t old new n' u =
    ((u ≡ unsure.SpareErase) × CleaningBreaks n old new t.spare × (n' ≡ n))
    ⊎ ((victim : ℕ) × IsVictim (noted_cleaned n t.spare) t victim
    × BreaksOff n old new t.spare victim n' u)

-- Blocks were evicted in turn, fewer than there were with a record that must go, and then it broke off with the next
-- one: its blocks are those of that turn.
pub record ClearingBreaks (page below : ℕ) (old new : FlashState) (n : IndexState) (t : BlocksState)
    (n' : IndexState) (t' : BlocksState) (u : Unsure) : Type 0 where
  pub turn : IndexState
  pub rounds : ℕ
  pub fewer : rounds < blocks_to_go n page below
  pub turns : EvictsInTurn page below n t rounds turn t'
  pub block : ℕ
  pub next : block_to_go turn page below ≡ Some block
  pub between : FlashState
  pub moves : FlashMoves old between false
  pub breaks : BreaksOff turn between new t'.spare block n' u
