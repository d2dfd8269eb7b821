-- What the entries of a list stand for, and what they leave of a slot.
use Rattle.std.specs.Prelude.{◌≡◌, ℕ, ◌/◌, ◌==◌, Bool, List, ◌++◌, map, fold, if◌then◌else◌}
use Rattle.tx_types.specs.declared.config.Shape.{Shape}
use Rattle.flash_model.specs.Flash.{Contents, blank, complete}
use Rattle.flash_model.specs.Operations.{Operation, program, erase}
use Rattle.list_flash.specs.declared.entries.Entry.{Entry}
use Rattle.list_flash.specs.declared.entries.Entry.TheVariants.{Program, Erase}

-- the operation that was done
abbrev pub operation_of : Entry → Operation
operation_of (Program slot page) = program slot.0 page.bytes.items page.spare_area
operation_of (Erase block) = erase block.0

abbrev pub operations_in : List Entry → List Operation
operations_in entries = map operation_of entries

-- it set this slot
abbrev pub sets : Shape → ℕ → Entry → Bool
sets shape at (Program slot page) = slot.0 == at
sets shape at (Erase block) = block.0 == at / shape.pages_per_block

-- what it left of each slot that it set
abbrev pub leaves : Entry → Contents
leaves (Program slot page) = complete page.bytes.items page.spare_area
leaves (Erase block) = blank

-- what a slot holds behind it, that held this before
abbrev pub slot_after : Shape → ℕ → Contents → Entry → Contents
slot_after shape at before entry = if sets shape at entry then leaves entry else before

-- what a slot holds behind all of them
abbrev pub contents_in : Shape → List Entry → ℕ → Contents
contents_in shape entries at = fold (slot_after shape at) blank entries

-- a list got entries at its end that stand for these operations
pub record Grows (old : List Entry) (done : List Operation) (new : List Entry) : Type 0 where
  pub more : List Entry
  pub items : new ≡ old ++ more
  pub operations : operations_in more ≡ done
