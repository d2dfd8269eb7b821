-- Small files and images, to see what a loss leaves of them.
use Rattle.std.specs.Prelude.{true, false, [], ◌∷◌}
use Rattle.tx_types.specs.declared.config.Slot.{Slot}
use Rattle.flash_model.specs.Flash.{Contents, complete}
use Rattle.file_flash.specs.Files.{FileState}

-- three bytes that are durable
abbrev pub three : FileState
three = record { values = (1 ∷ []) ∷ (2 ∷ []) ∷ (3 ∷ []) ∷ []; copies = false }

-- 9 is written over the second
abbrev pub three_written : FileState
three_written = record { values = (1 ∷ []) ∷ (9 ∷ 2 ∷ []) ∷ (3 ∷ []) ∷ []; copies = false }

-- and is durable
abbrev pub three_synced : FileState
three_synced = record { values = (1 ∷ []) ∷ (9 ∷ []) ∷ (3 ∷ []) ∷ []; copies = false }

-- 9 was written over the second before the file was opened, and the sync after that failed
abbrev pub three_copied : FileState
three_copied = record { values = (1 ∷ []) ∷ (9 ∷ 2 ∷ []) ∷ (3 ∷ []) ∷ []; copies = true }

-- two slots with contents
abbrev pub first_slot : Contents
first_slot = complete (7 ∷ []) []

abbrev pub second_slot : Contents
second_slot = complete (8 ∷ []) []

-- the slots of these numbers
abbrev pub slot_0 : Slot
slot_0 = record { 0 = 0 }

abbrev pub slot_1 : Slot
slot_1 = record { 0 = 1 }
