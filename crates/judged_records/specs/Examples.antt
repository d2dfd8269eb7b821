-- A few slots, and what the definitions say of them.
use Rattle.std.specs.Prelude.{◌≡◌, ℕ, ◌==◌, Bool, true, false, Some, None, List, [], ◌∷◌}
use Rattle.tx_types.specs.declared.record.Link.{Link}
use Rattle.tx_types.specs.declared.record.Rec.{Rec}
use Rattle.tx_types.specs.declared.config.Config.{Config}
use Rattle.tx_types.specs.declared.config.Protocol.{Protocol}
use Rattle.tx_types.specs.declared.config.Protocol.TheVariants.{Scc, Bpcc}
use Rattle.tx_types.specs.Config.{shape_of}
use Rattle.flash_model.specs.Flash.{Contents, blank, damaged, complete}
use Rattle.page_record.specs.Spelling.{spelling}
use Rattle.record_list.specs.declared.found.Breach.{Breach}
use Rattle.judged_records.specs.declared.note.Note.TheVariants.{Blank, Damaged, Holds}
use Rattle.record_list.specs.Losses.{IsSpared}
use Rattle.judged_records.specs.Images.{records_in, array_in, IsLeastImageBreach}
use Rattle.judged_records.specs.SlotLosses.{LosesSlots}
use Rattle.judged_records.specs.IndexState.{IndexState, current_of, home_of, slot_off, needed_of, block_to_go, garbage_of, pinned_names, raised}

abbrev pub name : ℕ → ℕ → Link
name page version = record { page = page; version = version }

-- the record P.v -> Q.k b
abbrev pub rec : ℕ → ℕ → ℕ → ℕ → ℕ → Rec
rec page version to at back =
    record { page = page; version = version; next = name to at; back = back; count = 0; discard = false }

-- two dies of two blocks of three slots
abbrev pub config : Protocol → Config
config protocol = record {
  protocol = protocol;
  page_bytes = 16;
  pages_per_block = 3;
  blocks_per_die = 2;
  dies = 2;
  logical = 4;
  pending = 1;
}

-- a record of page 0 with a copy in the spare, which is block 0, and one in each of the next two blocks; a
-- damaged slot; and an aborted record of page 1
abbrev pub doubled : Protocol → IndexState
doubled protocol = record {
  config = config protocol;
  notes = Blank ∷ Holds (rec 0 1 0 1 0) ∷ Blank
      ∷ Damaged ∷ Holds (rec 0 1 0 1 0) ∷ Blank
      ∷ Holds (rec 1 3 2 7 0) ∷ Holds (rec 0 1 0 1 0) ∷ Blank
      ∷ Blank ∷ Blank ∷ Blank ∷ [];
  pins = 0 ∷ 0 ∷ 0 ∷ 0 ∷ [];
  spare = Some 0;
  mentions = 1 ∷ 3 ∷ 7 ∷ 0 ∷ [];
  closed = false ∷ false ∷ false ∷ false ∷ [];
}

-- the home is outside the spare; outside a block the lowest slot is taken, in the spare too; the aborted
-- record leaves its page without a current one
abbrev pub DoubledHomes : Type 0
DoubledHomes =
    (current_of (doubled Scc) 0 ≡ 1) × (home_of (doubled Scc) (name 0 1) ≡ Some 4)
    × (slot_off (doubled Scc) 1 (name 0 1) ≡ Some 1)
    × (slot_off (doubled Scc) 0 (name 0 1) ≡ Some 4)
    × (current_of (doubled Scc) 1 ≡ 0) × (home_of (doubled Scc) (name 1 0) ≡ None)

-- the aborted record mentions page 2 at version 7 by its link, and goes before version 8 of page 2, or
-- version 4 of page 1
abbrev pub DoubledGoes : Type 0
DoubledGoes =
    (block_to_go (doubled Scc) 2 8 ≡ Some 2) × (block_to_go (doubled Scc) 2 7 ≡ None)
    × (block_to_go (doubled Scc) 1 4 ≡ Some 2) × (block_to_go (doubled Scc) 0 9 ≡ None)
    × (block_to_go (doubled Bpcc) 2 8 ≡ None)

-- a damaged slot is garbage, a blank one where its block is shut, and so are the aborted record and the
-- second copy; the spare has none
abbrev pub DoubledGarbage : Type 0
DoubledGarbage =
    (garbage_of (doubled Scc) 1 false ≡ 1) × (garbage_of (doubled Scc) 1 true ≡ 2)
    × (garbage_of (doubled Scc) 2 false ≡ 2) × (garbage_of (doubled Scc) 2 true ≡ 3)
    × (garbage_of (doubled Scc) 3 false ≡ 0) × (garbage_of (doubled Scc) 3 true ≡ 3)
    × (garbage_of (doubled Scc) 0 true ≡ 0)

-- the aborted record is needed where its page is pinned at its version
abbrev pub DoubledPinned : Type 0
DoubledPinned =
    (needed_of (doubled Scc) 6 ≡ false)
    × (needed_of (record (doubled Scc) { pins = 0 ∷ 3 ∷ 0 ∷ 0 ∷ [] }) 6 ≡ true)
    × (pinned_names (0 ∷ 3 ∷ 0 ∷ 5 ∷ []) ≡ name 1 3 ∷ name 3 5 ∷ [])

-- a record mentions its page and its link's, also where they are one, and a mention does not fall
abbrev pub MentionsRaised : Type 0
MentionsRaised =
    (raised (rec 1 3 2 7 0) (1 ∷ 2 ∷ 9 ∷ 0 ∷ []) ≡ 1 ∷ 3 ∷ 9 ∷ 0 ∷ [])
    × (raised (rec 1 3 1 7 0) (1 ∷ 2 ∷ 9 ∷ []) ≡ 1 ∷ 7 ∷ 9 ∷ [])

-- an image with a slot that does not read, and one in which a page that does not exist comes before it
abbrev pub unread : List Contents
unread = blank ∷ complete [] [] ∷ []

abbrev pub misplaced : List Contents
misplaced = complete [] (spelling Scc (rec 9 1 9 1 0)) ∷ damaged ∷ complete [] [] ∷ []

abbrev pub law_1 : ℕ → Breach
law_1 slot = record { law = 1; slot = record { 0 = slot } }

-- both break law 1, which names the least slot of either kind
abbrev pub LeastSlots : Type 0
LeastSlots =
    IsLeastImageBreach Scc 4 (shape_of (config Scc)) unread (law_1 1)
    × IsLeastImageBreach Scc 4 (shape_of (config Scc)) misplaced (law_1 0)

-- a page of an image has the bytes of its current record, and one of which the record is aborted has none
abbrev pub written : List Contents
written =
    complete (7 ∷ []) (spelling Scc (rec 0 1 0 1 0))
    ∷ complete (8 ∷ []) (spelling Scc (rec 1 3 2 7 0)) ∷ blank ∷ []

abbrev pub WrittenArray : Type 0
WrittenArray = array_in Scc 3 written ≡ Some (7 ∷ []) ∷ None ∷ None ∷ []

-- the image without the aborted record, whose slot is damaged, and without the other one
abbrev pub without_aborted : List Contents
without_aborted = complete (7 ∷ []) (spelling Scc (rec 0 1 0 1 0)) ∷ damaged ∷ blank ∷ []

abbrev pub without_current : List Contents
without_current = blank ∷ complete (8 ∷ []) (spelling Scc (rec 1 3 2 7 0)) ∷ blank ∷ []

-- the slot of page 0 alone
abbrev pub page_0_stays : ℕ → Bool
page_0_stays slot = slot == 0

-- the aborted record may go, and the array stays; without its current record page 0 is blank
abbrev pub AbortedMayGo : Type 0
AbortedMayGo =
    LosesSlots page_0_stays written without_aborted
    × IsSpared Scc (records_in Scc written) 3 (shape_of (config Scc)) page_0_stays
    × (array_in Scc 3 without_aborted ≡ Some (7 ∷ []) ∷ None ∷ None ∷ [])
    × (array_in Scc 3 without_current ≡ None ∷ None ∷ None ∷ [])
