-- Slots of an image file in its live format. Behind the own bytes of a slot, its contents and its spare area, stands
-- the number of their zero bits.
use Rattle.std.specs.Prelude.{ℕ, ◌+◌, ◌-◌, ◌≤◌, ◌==◌, nat_lt, List, [], ◌∷◌, ◌++◌, length, slice_index, if◌then◌else◌}
use Rattle.flash_model.specs.declared.flash.Seen.{Seen}
use Rattle.flash_model.specs.declared.flash.Seen.TheVariants.{Blank, Complete, Damaged}
use Rattle.flash_model.specs.Flash.{Contents, blank, damaged, complete}
use Rattle.mem_flash.specs.Slots.{cell_bytes, contents_of}
use Rattle.zero_count.specs.Zeros.{zeros, counted, own_of, number_of, erased, number_bytes}

-- the bytes of a slot
abbrev pub slot_bytes : ℕ → ℕ
slot_bytes page_bytes = cell_bytes page_bytes + number_bytes

-- The last byte of a damaged slot. That of a number of zero bits is lower, and that of an erased slot is greater.
abbrev pub damage_byte : ℕ
damage_byte = 128

abbrev pub last_of : List ℕ → ℕ
last_of slot = slice_index slot (length slot - 1)

-- A slot has no more zero bits than its number says, whatever was torn. One that has more is of no live file.
abbrev pub IsCounted : List ℕ → Type 0
IsCounted slot = zeros (own_of slot) ≤ number_of slot

-- How a slot reads. It is complete where its number is right. Else it is damaged if its last byte says so, and blank if
-- not: it is erased, or a write or an erase of it was torn.
abbrev pub live_seen : List ℕ → Seen
live_seen slot =
    if nat_lt (zeros (own_of slot)) (number_of slot) then (if last_of slot == damage_byte then Damaged else Blank)
    else Complete

-- what it holds
abbrev pub live_contents : ℕ → List ℕ → Contents
live_contents page_bytes slot = contents_of page_bytes (live_seen slot) (own_of slot)

-- The bytes that stand for a slot with these contents. Of a damaged one only the last byte counts.
abbrev pub live_slot : ℕ → Contents → List ℕ
live_slot page_bytes blank = erased (slot_bytes page_bytes)
live_slot page_bytes damaged = erased (cell_bytes page_bytes + 3) ++ damage_byte ∷ []
live_slot page_bytes (complete bytes spare_area) = counted (bytes ++ spare_area)
