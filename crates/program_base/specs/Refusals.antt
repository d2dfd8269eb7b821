-- Why a call for an image file is refused, with which status, and the line that is said.
use Rattle.std.specs.Prelude.{ℕ, Option, Some, None, List, [], ◌∷◌, ◌++◌, codes}
use Rattle.std.specs.Fmt.{decimal}
use Rattle.tx_types.specs.declared.config.Slot.{Slot}
use Rattle.record_list.specs.declared.found.Breach.{Breach}
use Rattle.image_file.specs.declared.error.ImageError.{ImageError}
use Rattle.image_file.specs.declared.error.ImageError.TheVariants as image
use Rattle.program_base.specs.declared.refusal.ImageRefusal.{ImageRefusal}
use Rattle.program_base.specs.declared.refusal.ImageRefusal.TheVariants as refusal

-- what a call for an image file comes to where it is refused
pub data ImageEnding : Type 0 where
  BadWords : ImageEnding
  Missing : (name : List ℕ) → ImageEnding
  TooLong : (name : List ℕ) → ImageEnding
  BadImage : (rule : ImageError) → ImageEnding
  Unsound : (breach : Breach) → ImageEnding

abbrev pub image_status : ImageEnding → ℕ
image_status BadWords = 1
image_status (Missing name) = 2
image_status (BadImage rule) = 3
image_status (Unsound breach) = 7
image_status (TooLong name) = 9

-- a line that is said
abbrev pub line : List ℕ → List ℕ
line text = text ++ 10 ∷ []

-- the words for a rule of an image file (want of memory is no rule)
abbrev pub image_words : ImageError → List ℕ
image_words image.Short = codes "short"
image_words image.Magic = codes "magic"
image_words image.Protocol = codes "protocol"
image_words image.Reserved = codes "reserved"
image_words image.Allowance = codes "allowance"
image_words (image.Config rule) = codes "config"
image_words image.Length = codes "length"
image_words (image.SlotState at) = codes "state " ++ decimal at.0
image_words (image.SlotBytes at) = codes "bytes " ++ decimal at.0
image_words image.Memory = codes "memory"

-- a word, and the slot that stands behind it
abbrev pub with_slot : List ℕ → Option Slot → List ℕ
with_slot word None = word
with_slot word (Some slot) = word ++ 32 ∷ decimal slot.0

-- the line that is said
abbrev pub image_line : ImageEnding → List ℕ
image_line BadWords = line (codes "bad words")
image_line (Missing name) = line (codes "no file " ++ name)
image_line (TooLong name) = line (codes "file too long " ++ name)
image_line (BadImage rule) = line (codes "bad image: " ++ image_words rule)
image_line (Unsound breach) =
    line (codes "unsound law " ++ decimal breach.law ++ codes " slot " ++ decimal breach.slot.0)

-- what a refusal stands for
abbrev pub image_refused : ImageRefusal → ImageEnding
image_refused refusal.BadWords = BadWords
image_refused (refusal.Missing name) = Missing name.now
image_refused (refusal.TooLong name) = TooLong name.now
image_refused (refusal.BadImage rule) = BadImage rule
image_refused (refusal.Unsound breach) = Unsound breach
