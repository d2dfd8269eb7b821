-- How the slots of an image, and those of a block, read.
use Rattle.std.specs.Prelude.{ℕ, Bool, true, false, List, map}
use Rattle.std.specs.List.{list_all}
use Rattle.std.specs.Fork.{slice_chunk}
use Rattle.tx_types.specs.declared.config.Shape.{Shape}
use Rattle.flash_model.specs.declared.flash.Seen.{Seen}
use Rattle.flash_model.specs.declared.flash.Seen.TheVariants as seen
use Rattle.flash_model.specs.Flash.{Contents}
use Rattle.flash_model.specs.Calls.{seen_of}

-- whether a slot that reads so is blank
abbrev pub reads_blank : Seen → Bool
reads_blank seen.Blank = true
reads_blank seen.Complete = false
reads_blank seen.Damaged = false

-- how the slots of an image read
abbrev pub seen_in : List Contents → List Seen
seen_in image = map seen_of image

-- how the slots of a block read
abbrev pub seen_in_block : Shape → List Seen → ℕ → List Seen
seen_in_block shape slots block = slice_chunk slots shape.pages_per_block block

-- whether all slots of a block are blank
abbrev pub reads_blank_block : Shape → List Seen → ℕ → Bool
reads_blank_block shape slots block = list_all reads_blank (seen_in_block shape slots block)
