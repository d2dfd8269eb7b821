-- What reading a part of a line gave.
use Rattle.std.specs.Prelude.{◌≡◌, ◌≢◌, ◌<◌, ◌≤◌, ◌+◌, ◌*◌, true, ℕ, List, ◌∷◌, length, take, drop, slice_index, map, Option, Some, None, Result, Ok, Err}
use Rattle.std.specs.Option.{option_map}
use Rattle.hex.specs.Hex.{decode_of}
use Rattle.tx_types.specs.Batch.{PageWrite, Writes}
use Rattle.host_protocol.specs.Lines.{words_of}
use Rattle.host_protocol.specs.Numbers.{digits_in, number_of}
use Rattle.host_protocol.specs.Verbs.{word_of}
use Rattle.host_protocol.specs.Commands.{page_value, page_write_of, verb_of, AreOperands, IsCommand, AreWriteOperands}
use Rattle.host_protocol.specs.Files.{entries_in, is_command_line, IsFirstBad}
use Rattle.host_protocol.specs.declared.file.TheConstants.{MAX_COMMANDS}
use Rattle.host_protocol.specs.declared.error.TextError.{TextError}
use Rattle.host_protocol.specs.declared.error.TextError.TheVariants as text
use Rattle.host_protocol.specs.declared.command.Command.{Command}
use Rattle.host_protocol.specs.declared.command.Command.TheVariants as command
use Rattle.host_protocol.specs.declared.verb.Verb.{Verb}
use Rattle.host_protocol.specs.declared.error.LineError.{LineError}
use Rattle.host_protocol.specs.declared.error.LineError.TheVariants.{Bad, Memory}

-- nothing is read, unless memory ran out
abbrev pub Fails : {Y : Type 0} → LineError → Option Y → Type 0
Fails Bad found = found ≡ None
Fails Memory found = Unit {0}

-- the answer, seen by a view, is what the grammar finds, unless memory ran out
abbrev pub AnswersAs : {X Y : Type 0} → (X → Y) → Result X LineError → Option Y → Type 0
AnswersAs view (Ok x) found = found ≡ Some (view x)
AnswersAs view (Err e) found = Fails e found

-- a command that is no write
abbrev pub IsPlain : Command → Type 0
IsPlain (command.Write tag batch) = ⊥
IsPlain what = Unit {0}

-- the words behind the command word make this plain command, or none
abbrev pub MakesPlain : Verb → List (List ℕ) → Option Command → Type 0
MakesPlain verb words (Some what) =
    IsPlain what × (verb ≡ verb_of what) × ((size : ℕ) → AreOperands size words what)
MakesPlain verb words None =
    (size : ℕ) (what : Command) → IsPlain what → verb ≡ verb_of what → ¬ AreOperands size words what

-- the words behind the command word make this command, with no more entries than are left
abbrev pub MakesCommand : ℕ → Verb → List (List ℕ) → ℕ → Command → Type 0
MakesCommand size verb words entries_left what =
    (verb ≡ verb_of what) × AreOperands size words what × (entries_in what ≤ entries_left)

-- each command that they make has more
abbrev pub MakesNone : ℕ → Verb → List (List ℕ) → ℕ → Type 0
MakesNone size verb words entries_left =
    (what : Command) → verb ≡ verb_of what → AreOperands size words what →
    entries_left < entries_in what

-- the words are a tag and entries, no more than are left
abbrev pub IsWriteWithin : ℕ → List (List ℕ) → ℕ → ℕ → Writes → Type 0
IsWriteWithin size words entries_left tag batch =
    AreWriteOperands size words tag batch × (length batch.entries ≤ entries_left)

-- where they are a tag and entries, those are more
abbrev pub IsWritePast : ℕ → List (List ℕ) → ℕ → Type 0
IsWritePast size words entries_left =
    (tag : ℕ) (batch : Writes) → AreWriteOperands size words tag batch →
    entries_left < length batch.entries

-- the words are these entries, no more than are left
abbrev pub HasEntries : ℕ → List (List ℕ) → ℕ → Writes → Type 0
HasEntries size words entries_left batch =
    (batch.page_bytes ≡ size) × (map (page_write_of size) words ≡ map Some batch.entries)
    × (length batch.entries ≤ entries_left)

-- where they are entries, those are more
abbrev pub HasNoEntries : ℕ → List (List ℕ) → ℕ → Type 0
HasNoEntries size words entries_left =
    (writes : List PageWrite) → map (page_write_of size) words ≡ map Some writes →
    entries_left < length writes

-- the line is neither blank nor a comment, and is this command, with no more entries than are left to the file
pub record AddsCommand (size : ℕ) (line : List ℕ) (before entries_left : ℕ)
    (what : Command) : Type 0 where
  pub asks : is_command_line line ≡ true
  pub is : IsCommand size line what
  pub one_more : before < MAX_COMMANDS
  pub within : entries_in what ≤ entries_left

-- the line is neither blank nor a comment, and each command that it is has more entries, or comes after the last that
-- a file may have
pub record AddsNone (size : ℕ) (line : List ℕ) (before entries_left : ℕ) : Type 0 where
  pub asks : is_command_line line ≡ true
  pub past : (what : Command) → IsCommand size line what → before < MAX_COMMANDS →
      entries_left < entries_in what

-- the line begins with the word of this verb, and goes on with these bytes
pub record BeginsWithVerb (line : List ℕ) (verb : Verb) (behind : List ℕ) : Type 0 where
  pub words : words_of line ≡ word_of verb ∷ words_of behind
  pub asks : is_command_line line ≡ true

-- the first word of the line is this number, and the line goes on with these bytes
pub record BeginsWithNumber (line : List ℕ) (number : ℕ) (behind : List ℕ) : Type 0 where
  pub word : List ℕ
  pub words : words_of line ≡ word ∷ words_of behind
  pub number_is : number_of word ≡ Some number

-- the line is neither blank nor a comment, and begins with no verb
pub record BeginsWithNoVerb (line : List ℕ) : Type 0 where
  pub asks : is_command_line line ≡ true
  pub none : (verb : Verb) (others : List (List ℕ)) → words_of line ≢ word_of verb ∷ others

-- the line begins with the digits of this page and an equals sign, behind which it goes on with these bytes
pub record BeginsWithPage (line : List ℕ) (page : ℕ) (behind : List ℕ) : Type 0 where
  pub inside : digits_in line < length line
  pub sign : slice_index line (digits_in line) ≡ 61
  pub number : number_of (take (digits_in line) line) ≡ Some page
  pub rest : behind ≡ drop (digits_in line + 1) line

-- the first word of the line is an entry of this page and this text, and the line goes on with these bytes
pub record BeginsWithEntry (line : List ℕ) (page : ℕ) (text behind : List ℕ) : Type 0 where
  pub word : List ℕ
  pub words : words_of line ≡ word ∷ words_of behind
  pub write : (size : ℕ) → page_write_of size word
      ≡ option_map (λ value. record { page = page; value = value }) (page_value size text)

-- the first word of the line is no entry
pub record BeginsWithOther (line : List ℕ) : Type 0 where
  pub word : List ℕ
  pub others : List (List ℕ)
  pub words : words_of line ≡ word ∷ others
  pub none : (size : ℕ) → page_write_of size word ≡ None

-- the text is digits of at least one byte of a page and at most all, and these are the bytes
pub record AreDigits (size : ℕ) (text bytes : List ℕ) : Type 0 where
  pub some : 1 ≤ length text
  pub most : length text ≤ 2 * size
  pub digits : decode_of text ≡ Ok bytes

-- where a file's reading ended
abbrev pub EndsAt : ℕ → List ℕ → TextError → Type 0
EndsAt size bytes (text.Line n) = IsFirstBad size bytes n
EndsAt size bytes text.Memory = Unit {0}

-- a fault of the line of this number
abbrev pub text_error : ℕ → LineError → TextError
text_error n Bad = text.Line n
text_error n Memory = text.Memory
