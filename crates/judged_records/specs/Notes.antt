-- What is noted of the slots of a flash.
use Rattle.std.specs.Prelude.{ℕ, ◌+◌, ◌*◌, List, ◌++◌, map, take, drop, replicate, slice_index_or, Option, Some, None, filter_map}
use Rattle.std.specs.List.{enumerate_from}
use Rattle.std.specs.Option.{option_map_or}
use Rattle.tx_types.specs.declared.record.Rec.{Rec}
use Rattle.tx_types.specs.declared.config.Protocol.{Protocol}
use Rattle.tx_types.specs.declared.config.Shape.{Shape}
use Rattle.flash_model.specs.declared.flash.Seen.{Seen}
use Rattle.flash_model.specs.declared.flash.Seen.TheVariants as seen
use Rattle.flash_model.specs.Flash.{Contents, blank, damaged, complete}
use Rattle.page_record.specs.Rules.{record_of}
use Rattle.record_list.specs.declared.found.Found.{Found}
use Rattle.judged_records.specs.declared.note.Note.{Note}
use Rattle.judged_records.specs.declared.note.Note.TheVariants.{Blank, Damaged, Holds}

-- what is noted of a slot
abbrev pub note_at : List Note → ℕ → Note
note_at notes at = slice_index_or notes at Blank

-- how a slot reads of which this is noted
abbrev pub seen_as : Note → Seen
seen_as Blank = seen.Blank
seen_as Damaged = seen.Damaged
seen_as (Holds rec) = seen.Complete

-- the record that is noted, if there is one
abbrev pub rec_of : Note → Option Rec
rec_of Blank = None
rec_of Damaged = None
rec_of (Holds rec) = Some rec

-- a slot with its record, where one is noted
abbrev pub found_at : ℕ → Note → Option Found
found_at slot Blank = None
found_at slot Damaged = None
found_at slot (Holds rec) = Some (record { slot = record { 0 = slot }; rec = rec })

-- the noted records, in the order of their slots
unfoldable pub found_in : List Note → List Found
found_in notes = filter_map (λ (slot, note). found_at slot note) (enumerate_from 0 notes)

-- what is noted of a slot with these contents
abbrev pub note_of : Protocol → Contents → Note
note_of protocol blank = Blank
note_of protocol damaged = Damaged
note_of protocol (complete bytes spare) = option_map_or Holds (record_of protocol spare) Damaged

-- what is noted of the slots of an image
abbrev pub notes_of : Protocol → List Contents → List Note
notes_of protocol image = map (note_of protocol) image

-- the notes with this one for each slot of a block
abbrev pub with_block_noted : Shape → List Note → ℕ → Note → List Note
with_block_noted shape notes block note =
    take (block * shape.pages_per_block) notes ++ replicate shape.pages_per_block note
    ++ drop ((block + 1) * shape.pages_per_block) notes

-- the number of a slot that reads complete
abbrev pub complete_at : ℕ → Seen → Option ℕ
complete_at slot seen.Blank = None
complete_at slot seen.Damaged = None
complete_at slot seen.Complete = Some slot

-- the slots that read complete, in their order
abbrev pub complete_slots : List Seen → List ℕ
complete_slots all = filter_map (λ (slot, how). complete_at slot how) (enumerate_from 0 all)
