-- What becomes of a call of the program: what it says, and its status.
use Rattle.std.specs.Prelude.{◌≡◌, ℕ, nat_lt, Bool, true, false, if◌then◌else◌, List, Option, None, Some, Result, Ok, Err}
use Rattle.tx_types.specs.declared.config.Config.{Config}
use Rattle.tx_types.specs.Config.{shape_of, slots_of}
use Rattle.flash_model.specs.Flash.{Contents, Extras}
use Rattle.judged_records.specs.Images.{IsSoundImage, IsLeastImageBreach}
use Rattle.judged_records.specs.declared.note.Note.{Note}
use Rattle.judged_records.specs.Notes.{notes_of}
use Rattle.judged_records.specs.Opening.{IsChosenSpare}
use Rattle.image_file.specs.Rules.{reading}
use Rattle.image_file.specs.declared.error.ImageError.{ImageError}
use Rattle.desk_io.specs.Desk as found
use Rattle.desk_io.specs.Desk.{DeskState, FileFound, Finds}
use Rattle.program_base.specs.Refusals.{ImageEnding, BadWords, Missing, TooLong, BadImage, Unsound, image_line, image_status}
use Rattle.flash_picture.specs.declared.marks.Marks.{Marks}
use Rattle.flash_picture.specs.OverviewSvg.{overview}
use Rattle.flash_picture.specs.Picture.{picture}
use Rattle.flash_picture.specs.Selection.{selected}
use Rattle.flash_picture.specs.Svg.{svg}
use Rattle.view_command_line.specs.Request.{Request}
use Rattle.view_command_line.specs.declared.words.Form.{Form}
use Rattle.view_command_line.specs.declared.words.Form.TheVariants.{Text, Svg, Selected}
use Rattle.view_command_line.specs.declared.opening.Opening.{Opening}
use Rattle.view_command_line.specs.declared.opening.Opening.TheVariants as opening

-- the picture of an image is drawn, or the first step that fails decides
pub data Ending : Type 0 where
  Drawn : (form : Form) → (config : Config) → (image : List Contents) → (marks : Marks) → Ending
  Refused : (why : ImageEnding) → Ending

abbrev pub status : Ending → ℕ
status (Drawn form config image marks) = 0
status (Refused why) = image_status why

-- a flash of more slots is drawn as an overview
abbrev pub most_drawn : ℕ
most_drawn = 512

abbrev pub is_large : Config → Bool
is_large its = nat_lt most_drawn (slots_of (shape_of its))

-- the picture in a form
abbrev pub picture_in : Form → Config → List Note → Marks → List ℕ
picture_in Text its notes marks = if is_large its then overview false its notes marks else picture its notes marks
picture_in Svg its notes marks = if is_large its then overview true its notes marks else svg its notes marks
picture_in (Selected selection) its notes marks = selected its notes marks selection

-- what is said
abbrev pub said : Ending → List ℕ
said (Drawn form its image marks) = picture_in form its (notes_of its.protocol image) marks
said (Refused why) = image_line why

-- ---- opening a device

-- the image is sound, and this block becomes the spare; or this is the first law that it breaks
abbrev pub IsOpening : Config → List Contents → Opening → Type 0
IsOpening its image (opening.Sound block) =
    IsSoundImage its.protocol its.logical (shape_of its) image × IsChosenSpare its image block.0
IsOpening its image (opening.Unsound breach) =
    IsLeastImageBreach its.protocol its.logical (shape_of its) image breach

-- what is marked
abbrev pub marks_of : Opening → Marks
marks_of (opening.Sound block) = record { spare = Some block; breach = None }
marks_of (opening.Unsound breach) = record { spare = None; breach = Some breach }

-- by how an image opens: it is drawn, but one that is not sound only where that is asked for
abbrev pub ending_of : Form → Bool → Config → List Contents → Opening → Ending
ending_of form unsound its image (opening.Sound block) =
    Drawn form its image (marks_of (opening.Sound block))
ending_of form unsound its image (opening.Unsound breach) =
    if unsound then Drawn form its image (marks_of (opening.Unsound breach))
    else Refused (Unsound breach)

abbrev pub Opens : Form → Bool → Config → List Contents → Ending → Type 0
Opens form unsound its image ending =
    (opened : Opening) × IsOpening its image opened × (ending ≡ ending_of form unsound its image opened)

-- ---- reading an image

abbrev pub AfterReading : Form → Bool → Result (Config × List Contents × Extras) ImageError → Ending →
    Type 0
AfterReading form unsound (Ok read) ending = Opens form unsound read.0 read.1 ending
AfterReading form unsound (Err rule) ending = ending ≡ Refused (BadImage rule)

-- the bytes of an image file are read, and then comes what its image gives
abbrev pub Drawing : Form → Bool → List ℕ → Ending → Type 0
Drawing form unsound bytes ending = AfterReading form unsound (reading bytes) ending

-- a picture is what an ending says that comes
abbrev pub Gives : (Ending → Type 0) → List ℕ → Type 0
Gives comes text = (ending : Ending) × comes ending × (status ending ≡ 0) × (text ≡ said ending)

-- ---- loading

abbrev pub AfterLoad : Request → FileFound → Ending → Type 0
AfterLoad a found.Missing ending = ending ≡ Refused (Missing a.image)
AfterLoad a found.TooLong ending = ending ≡ Refused (TooLong a.image)
AfterLoad a (found.Bytes bytes) ending = Drawing a.form a.unsound bytes ending

-- the ending of a call on a desk
abbrev pub IsEnding : Option Request → DeskState → Ending → Type 0
IsEnding None desk ending = ending ≡ Refused BadWords
IsEnding (Some a) desk ending =
    (found : FileFound) × Finds desk a.image found × AfterLoad a found ending
