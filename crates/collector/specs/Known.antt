-- The known image: the image of the flash, save that the slots of the one place whose contents are not known stand as
-- the tables have them.
use Rattle.std.specs.Prelude.{ℕ, ◌==◌, Bool, false, not, List, map, replicate, Option, if◌then◌else◌}
use Rattle.std.specs.List.{enumerate_from, range_with_len}
use Rattle.std.specs.Option.{option_map_or}
use Rattle.tx_types.specs.Config.{shape_of}
use Rattle.tx_types.specs.declared.config.Protocol.{Protocol}
use Rattle.tx_types.specs.declared.config.Shape.{Shape}
use Rattle.flash_model.specs.Flash.{Contents, blank, damaged, complete}
use Rattle.page_record.specs.Spelling.{spelling}
use Rattle.record_list.specs.Records.{name_of}
use Rattle.record_list.specs.Written.{Written, text_at, value_at, is_outside}
use Rattle.judged_records.specs.declared.note.Note.{Note}
use Rattle.judged_records.specs.declared.note.Note.TheVariants.{Blank, Damaged, Holds}
use Rattle.judged_records.specs.Images.{written_in}
use Rattle.judged_records.specs.Notes.{note_at}
use Rattle.judged_records.specs.IndexState.{IndexState, current_name_of}
use Rattle.collector.specs.declared.unsure.Unsure.{Unsure}
use Rattle.collector.specs.declared.unsure.Unsure.TheVariants as unsure

-- whether a slot lies in the place whose contents are not known, where `spare` is the spare block
abbrev pub is_unsure : Shape → ℕ → Unsure → ℕ → Bool
is_unsure shape spare unsure.Nothing slot = false
is_unsure shape spare (unsure.Own at rec) slot = slot == at.0
is_unsure shape spare (unsure.Copy from to) slot = slot == to.0
is_unsure shape spare unsure.SpareErase slot = not (is_outside shape spare slot)
is_unsure shape spare (unsure.VictimErase block) slot = not (is_outside shape block.0 slot)

-- what a slot holds of which this is noted: the bytes of a record are those that the list has under its name, zeros
-- where it has none
abbrev pub contents_noted : Protocol → ℕ → List Written → Note → Contents
contents_noted protocol page_bytes list Blank = blank
contents_noted protocol page_bytes list Damaged = damaged
contents_noted protocol page_bytes list (Holds rec) =
    complete (option_map_or (λ text. text.bytes) (text_at list (name_of rec)) (replicate page_bytes 0))
    (spelling protocol rec)

abbrev pub contents_known : IndexState → ℕ → Unsure → List Contents → ℕ → Contents → Contents
contents_known n spare unsure image slot contents =
    if is_unsure (shape_of n.config) spare unsure slot
    then contents_noted n.config.protocol n.config.page_bytes (written_in n.config.protocol image)
    (note_at n.notes slot)
    else contents

unfoldable pub known_image : IndexState → ℕ → Unsure → List Contents → List Contents
known_image n spare unsure image =
    map (λ (slot, contents). contents_known n spare unsure image slot contents)
    (enumerate_from 0 image)

-- what the known image has at a page: what the flash has under the name of the page's current record
abbrev pub page_known : IndexState → List Contents → ℕ → Option (List ℕ)
page_known n image page = value_at (written_in n.config.protocol image) (current_name_of n page)

-- the array of pages that the known image stands for
unfoldable pub array_known : IndexState → List Contents → List (Option (List ℕ))
array_known n image = map (page_known n image) (range_with_len 0 n.config.logical)
