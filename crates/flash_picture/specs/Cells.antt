-- What a cell of a picture says of its slot.
use Rattle.std.specs.Prelude.{ℕ, ◌==◌, Bool, false, nat_lt, if◌then◌else◌, List, [], ◌∷◌, ◌++◌, slice_index_or, Option, Some, None, codes}
use Rattle.std.specs.List.{flat_map, join_with_byte}
use Rattle.std.specs.Fmt.{decimal}
use Rattle.tx_types.specs.declared.config.Protocol.{Protocol}
use Rattle.tx_types.specs.declared.record.Link.{Link}
use Rattle.record_list.specs.declared.found.Breach.{Breach}
use Rattle.record_list.specs.declared.found.Found.{Found}
use Rattle.record_list.specs.Records.{name_of}
use Rattle.record_list.specs.Current.{cur, is_held}
use Rattle.judged_records.specs.declared.note.Note.{Note}
use Rattle.judged_records.specs.declared.note.Note.TheVariants as note
use Rattle.flash_picture.specs.declared.cell.Cell.{Cell}
use Rattle.flash_picture.specs.declared.cell.Cell.TheVariants.{Blank, Damaged, Holds}
use Rattle.flash_picture.specs.declared.cell.Rank.{Rank}
use Rattle.flash_picture.specs.declared.cell.Rank.TheVariants.{Current, Loose, Stale}
use Rattle.flash_picture.specs.declared.marks.Marks.{Marks}

-- what a record of this version is where this version is the current one of its page
abbrev pub rank_by : ℕ → ℕ → Rank
rank_by current version =
    if version == current then Current else if nat_lt current version then Loose else Stale

-- the cell of a slot of which this is noted, among these records
abbrev pub cell_of : Protocol → List Found → ℕ → Note → Cell
cell_of protocol list logical note.Blank = Blank
cell_of protocol list logical note.Damaged = Damaged
cell_of protocol list logical (note.Holds rec) =
    Holds rec (rank_by (cur protocol list logical rec.page) rec.version)
    (is_held protocol list logical rec)

abbrev pub rank_word : Rank → List ℕ
rank_word Current = codes "current"
rank_word Loose = codes "loose"
rank_word Stale = codes "stale"

-- a name is written as page, dot and version
abbrev pub name_word : Link → List ℕ
name_word name = decimal name.page ++ 46 ∷ decimal name.version

-- words with a space before each
abbrev pub after_spaces : List (List ℕ) → List ℕ
after_spaces words = flat_map (λ word. 32 ∷ word) words

-- a word that is there or not
abbrev pub word_if : Bool → List ℕ → List (List ℕ)
word_if there word = if there then word ∷ [] else []

-- the words of a cell
abbrev pub cell_words : Cell → List (List ℕ)
cell_words Blank = codes "blank" ∷ []
cell_words Damaged = codes "damaged" ∷ []
cell_words (Holds rec rank held) =
    name_word (name_of rec) ∷ rank_word rank
    ∷ (word_if held (codes "held") ++ word_if rec.discard (codes "discard"))

-- whether a broken law names a slot
abbrev pub is_named : Option Breach → ℕ → Bool
is_named None slot = false
is_named (Some breach) slot = breach.slot.0 == slot

-- the cell of a slot
abbrev pub cell_at : List Cell → ℕ → Cell
cell_at cells slot = slice_index_or cells slot Blank

-- the words of a slot: those of its cell, and a `!` where a broken law names it
abbrev pub slot_words : List Cell → Marks → ℕ → List (List ℕ)
slot_words cells marks slot =
    cell_words (cell_at cells slot) ++ word_if (is_named marks.breach slot) (codes "!")

-- the text of a slot: its words with a space between each two
unfoldable pub slot_text : List Cell → Marks → ℕ → List ℕ
slot_text cells marks slot = join_with_byte 32 (slot_words cells marks slot)
