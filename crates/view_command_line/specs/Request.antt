-- What the words of a call of the program ask for.
use Rattle.std.specs.Prelude.{ℕ, nat_lt, Bool, true, false, if◌then◌else◌, List, [], ◌∷◌, length, map, codes, string_bytes, String, Option, None}
use Rattle.std.specs.Prelude.{Some}
use Rattle.std.specs.Global.{Global}
use Rattle.std.specs.Str.{bytes_eq}
use Rattle.std.specs.Option.{option_map}
use Rattle.host_protocol.specs.Numbers.{number_of}
use Rattle.flash_picture.specs.declared.selection.Selection.TheVariants.{Block, Page, Loose}
use Rattle.view_command_line.specs.declared.words.Form.{Form}
use Rattle.view_command_line.specs.declared.words.Form.TheVariants.{Text, Svg, Selected}
use Rattle.view_command_line.specs.declared.words.View.{View}

-- the picture of the image file of this name, how it is said, and whether an image that is not sound is drawn too
pub record Request : Type 0 where
  pub image : List ℕ
  pub form : Form
  pub unsound : Bool

-- a file's name has at least one byte
abbrev pub named : Form → Bool → List ℕ → Option Request
named form unsound word =
    if nat_lt 0 (length word)
    then Some (record { image = word; form = form; unsound = unsound }) else None

-- the words that are options
abbrev pub is_svg : List ℕ → Bool
is_svg option = bytes_eq option (codes "--svg")

abbrev pub is_unsound : List ℕ → Bool
is_unsound option = bytes_eq option (codes "--unsound")

-- the form that an option asks for, of one word, or of a word and the number behind it
abbrev pub form_of_word : List ℕ → Option Form
form_of_word option =
    if is_svg option then Some Svg
    else if bytes_eq option (codes "--loose") then Some (Selected Loose) else None

abbrev pub form_of_two : List ℕ → List ℕ → Option Form
form_of_two option number =
    if bytes_eq option (codes "--block") then option_map (λ block. Selected (Block block)) (number_of number)
    else if bytes_eq option (codes "--page") then option_map (λ page. Selected (Page page)) (number_of number)
    else None

-- what a name asks for in a form, if there is one
abbrev pub in_form : Option Form → Bool → List ℕ → Option Request
in_form None unsound image = None
in_form (Some form) unsound image = named form unsound image

-- what a name asks for behind one word, two, or three: `--unsound` stands before another option or behind it
abbrev pub behind_one : List ℕ → List ℕ → Option Request
behind_one option image =
    if is_unsound option then named Text true image else in_form (form_of_word option) false image

abbrev pub behind_two : List ℕ → List ℕ → List ℕ → Option Request
behind_two first second image =
    if is_unsound first then in_form (form_of_word second) true image
    else if is_unsound second then in_form (form_of_word first) true image
    else in_form (form_of_two first second) false image

abbrev pub behind_three : List ℕ → List ℕ → List ℕ → List ℕ → Option Request
behind_three first second third image =
    if is_unsound first then in_form (form_of_two second third) true image
    else if is_unsound third then in_form (form_of_two first second) true image
    else None

-- the table of words: no other words are in it
abbrev pub request : List (List ℕ) → Option Request
request (image ∷ []) = named Text false image
request (option ∷ image ∷ []) = behind_one option image
request (first ∷ second ∷ image ∷ []) = behind_two first second image
request (first ∷ second ∷ third ∷ image ∷ []) = behind_three first second third image
request _ = None

abbrev pub request_by : List (String Global) → Option Request
request_by words = request (map string_bytes words)

-- what a value of the program asks for
abbrev pub request_of : View → Request
request_of view = record { image = view.image.now; form = view.form; unsound = view.unsound }
