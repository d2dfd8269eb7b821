-- The command that a line is.
use Rattle.std.specs.Prelude.{◌≡◌, ◌≤◌, ℕ, Bool, ◌==◌, nat_le, ◌&&◌, List, [], ◌∷◌, length, map, Option, Some, None, if◌then◌else◌, codes}
use Rattle.std.specs.List.{slice_split}
use Rattle.std.specs.Option.{option_map, option_and_then}
use Rattle.std.specs.Result.{result_ok}
use Rattle.std.specs.Str.{bytes_eq}
use Rattle.flash_model.specs.declared.outcome.Outcome.{Outcome}
use Rattle.flash_model.specs.declared.outcome.Outcome.TheVariants as outcome
use Rattle.hex.specs.Hex.{decode_of}
use Rattle.tx_types.specs.Batch.{PageWrite, Writes, padded}
use Rattle.host_protocol.specs.Lines.{words_of}
use Rattle.host_protocol.specs.Numbers.{number_of, count_of}
use Rattle.host_protocol.specs.Verbs.{word_of}
use Rattle.host_protocol.specs.declared.command.Command.{Command}
use Rattle.host_protocol.specs.declared.command.Command.TheVariants as command
use Rattle.host_protocol.specs.declared.verb.Verb.{Verb}
use Rattle.host_protocol.specs.declared.verb.Verb.TheVariants as verb

-- what a broken operation leaves, by its word
abbrev pub outcome_word : Outcome → List ℕ
outcome_word outcome.None = codes "none"
outcome_word outcome.All = codes "all"
outcome_word outcome.Bad = codes "bad"

abbrev pub is_equals : ℕ → Bool
is_equals b = b == 61

-- the contents of a page from one to all of its bytes, with zeros after them
abbrev pub contents_from : ℕ → List ℕ → Option (List ℕ)
contents_from page_bytes bytes =
    if nat_le 1 (length bytes)
    && nat_le (length bytes) page_bytes then Some (padded page_bytes bytes) else None

-- the contents of a page, by their text: a dash for zeros, or hexadecimal digits
unfoldable pub page_contents : ℕ → List ℕ → Option (List ℕ)
page_contents page_bytes text =
    if bytes_eq text (codes "-") then Some (padded page_bytes [])
    else option_and_then (contents_from page_bytes) (result_ok (decode_of text))

-- what a page is to hold, by its text: nothing for a tilde, else its contents
unfoldable pub page_value : ℕ → List ℕ → Option (Option (List ℕ))
page_value page_bytes text =
    if bytes_eq text (codes "~") then Some None else option_map Some (page_contents page_bytes text)

-- a page and what it is to hold, by their texts
abbrev pub write_of_texts : ℕ → List ℕ → List ℕ → Option PageWrite
write_of_texts page_bytes page text =
    option_and_then
    (λ p. option_map (λ value. record { page = p; value = value })
    (page_value page_bytes text)) (number_of page)

-- an entry's two parts around its one equals sign
abbrev pub page_write_from : ℕ → List (List ℕ) → Option PageWrite
page_write_from page_bytes (page ∷ text ∷ []) = write_of_texts page_bytes page text
page_write_from page_bytes _ = None

-- the page that an entry gives, and what it is to hold
unfoldable pub page_write_of : ℕ → List ℕ → Option PageWrite
page_write_of page_bytes word = page_write_from page_bytes (slice_split is_equals word)

-- the number that the only word is
abbrev pub alone : (List ℕ → Option ℕ) → List (List ℕ) → Option ℕ
alone number (word ∷ []) = number word
alone number _ = None

-- a count and an outcome
pub record IsArm (words : List (List ℕ)) (count : ℕ) (what : Outcome) : Type 0 where
  pub first : List ℕ
  pub both : words ≡ first ∷ outcome_word what ∷ []
  pub counted : count_of first ≡ Some count

-- a tag, and entries of pages of this many bytes
pub record AreWriteOperands (page_bytes : ℕ) (words : List (List ℕ)) (tag : ℕ)
    (batch : Writes) : Type 0 where
  pub first : List ℕ
  pub others : List (List ℕ)
  pub all : words ≡ first ∷ others
  pub tagged : number_of first ≡ Some tag
  pub size : batch.page_bytes ≡ page_bytes
  pub each : map (page_write_of page_bytes) others ≡ map Some batch.entries

-- which word the line of a command begins with
abbrev pub verb_of : Command → Verb
verb_of (command.Read page) = verb.Read
verb_of (command.Write tag batch) = verb.Write
verb_of (command.Step tag) = verb.Step
verb_of (command.Finish tag) = verb.Finish
verb_of (command.Abort tag) = verb.Abort
verb_of command.StepAll = verb.StepAll
verb_of command.Collect = verb.Collect
verb_of command.Stats = verb.Stats
verb_of command.Explain = verb.Explain
verb_of (command.Cut count what) = verb.Cut
verb_of (command.Fault count what) = verb.Fault
verb_of (command.BadRead count) = verb.BadRead

-- the words that follow it
abbrev pub AreOperands : ℕ → List (List ℕ) → Command → Type 0
AreOperands page_bytes words (command.Read page) = alone number_of words ≡ Some page
AreOperands page_bytes words (command.Write tag batch) = AreWriteOperands page_bytes words tag batch
AreOperands page_bytes words (command.Step tag) = alone number_of words ≡ Some tag
AreOperands page_bytes words (command.Finish tag) = alone number_of words ≡ Some tag
AreOperands page_bytes words (command.Abort tag) = alone number_of words ≡ Some tag
AreOperands page_bytes words command.StepAll = words ≡ []
AreOperands page_bytes words command.Collect = words ≡ []
AreOperands page_bytes words command.Stats = words ≡ []
AreOperands page_bytes words command.Explain = words ≡ []
AreOperands page_bytes words (command.Cut count what) = IsArm words count what
AreOperands page_bytes words (command.Fault count what) = IsArm words count what
AreOperands page_bytes words (command.BadRead count) = alone count_of words ≡ Some count

-- the line is this command, for pages of this many bytes
pub record IsCommand (page_bytes : ℕ) (line : List ℕ) (what : Command) : Type 0 where
  pub operands : List (List ℕ)
  pub words : words_of line ≡ word_of (verb_of what) ∷ operands
  pub follow : AreOperands page_bytes operands what

-- the command suits a device with pages of this many bytes: so do its pages, and its count is at least 1
abbrev pub Suits : ℕ → Command → Type 0
Suits page_bytes (command.Write tag batch) = batch.page_bytes ≡ page_bytes
Suits page_bytes (command.Cut count what) = 1 ≤ count
Suits page_bytes (command.Fault count what) = 1 ≤ count
Suits page_bytes (command.BadRead count) = 1 ≤ count
Suits page_bytes _ = Unit {0}
