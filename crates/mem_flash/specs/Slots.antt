-- What two flat lists hold: one state a slot, and the bytes of all slots, one slot after another.
use Rattle.std.specs.Prelude.{◌≡◌, ℕ, ◌+◌, ◌<◌, List, [], ◌∷◌, ◌++◌, length, take, drop, replicate, slice_index_or}
use Rattle.std.specs.Fork.{slice_chunk}
use Rattle.tx_types.specs.Limits.{spare_bytes}
use Rattle.tx_types.specs.declared.config.Shape.{Shape}
use Rattle.flash_model.specs.declared.flash.Seen.{Seen}
use Rattle.flash_model.specs.declared.flash.Seen.TheVariants.{Blank, Damaged, Complete}
use Rattle.flash_model.specs.Flash.{Contents, blank, damaged, complete}
use Rattle.flash_model.specs.Calls.{page_of, spare_area_of}

-- the slots of a flash of this shape, in order
pub record SlotsState : Type 0 where
  pub shape : Shape
  pub image : List Contents

-- the list with new items in place of its own, from an index on
abbrev pub overwritten : {A : Type 0} → List A → ℕ → List A → List A
overwritten old from new = take from old ++ (new ++ drop (from + length new) old)

-- the bytes of a slot: a page of contents, and then its spare area
abbrev pub cell_bytes : ℕ → ℕ
cell_bytes page_bytes = page_bytes + spare_bytes

-- the bytes that a slot with these contents shows
abbrev pub cell_of : ℕ → Contents → List ℕ
cell_of page_bytes contents = page_of page_bytes contents ++ spare_area_of contents

-- what a slot holds that reads this way and has these bytes
abbrev pub contents_of : ℕ → Seen → List ℕ → Contents
contents_of page_bytes Blank cell = blank
contents_of page_bytes Damaged cell = damaged
contents_of page_bytes Complete cell = complete (take page_bytes cell) (drop page_bytes cell)

-- what the slots hold, in order
abbrev pub image_of : ℕ → List Seen → List ℕ → List Contents
image_of page_bytes [] cells = []
image_of page_bytes (state ∷ states) cells =
    contents_of page_bytes state (take (cell_bytes page_bytes) cells)
    ∷ image_of page_bytes states (drop (cell_bytes page_bytes) cells)

-- the byte that fills a slot without contents
abbrev pub filler : Seen → ℕ
filler Blank = 255
filler Damaged = 0
filler Complete = 0

-- the bytes of a blank slot are all 0xff, and those of a damaged one all 0x00
abbrev pub IsFilled : ℕ → Seen → List ℕ → Type 0
IsFilled page_bytes Blank cell = cell ≡ replicate (cell_bytes page_bytes) 255
IsFilled page_bytes Damaged cell = cell ≡ replicate (cell_bytes page_bytes) 0
IsFilled page_bytes Complete cell = Unit {0}

-- so it is at each slot
abbrev pub AreFilled : ℕ → List Seen → List ℕ → Type 0
AreFilled page_bytes states cells =
    (k : ℕ) → k < length states
    → IsFilled page_bytes (slice_index_or states k Blank)
    (slice_chunk cells (cell_bytes page_bytes) k)
