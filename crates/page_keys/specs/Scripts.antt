-- The commands of a key script.
use Rattle.std.specs.Prelude.{◌≡◌, ℕ, ◌^◌, ◌<◌, ◌≤◌, nat_le, ◌&&◌, List, [], ◌∷◌, length, map, Option, Some, None, if◌then◌else◌, codes}
use Rattle.std.specs.List.{slice_split, AllByRecursion}
use Rattle.std.specs.Option.{option_map, option_and_then}
use Rattle.std.specs.Result.{result_ok}
use Rattle.std.specs.Str.{bytes_eq}
use Rattle.hex.specs.Hex.{decode_of}
use Rattle.host_protocol.specs.Commands.{is_equals, IsArm}
use Rattle.host_protocol.specs.Files.{AreLines, IsFirstBadLine}
use Rattle.host_protocol.specs.Lines.{lines_of, words_of}
use Rattle.page_keys.specs.Puts.{IsKeyChange}
use Rattle.page_keys.specs.declared.changes.Change.{Change}
use Rattle.page_keys.specs.declared.command.KeyCommand.{KeyCommand}
use Rattle.page_keys.specs.declared.command.KeyCommand.TheVariants as command
use Rattle.page_keys.specs.declared.key_verb.KeyVerb.{KeyVerb}
use Rattle.page_keys.specs.declared.key_verb.KeyVerb.TheVariants as verb

-- one to fifteen bytes
abbrev pub short_from : List ℕ → Option (List ℕ)
short_from bytes =
    if nat_le 1 (length bytes) && nat_le (length bytes) 15 then Some bytes else None

-- the key that hexadecimal digits tell
unfoldable pub key_of : List ℕ → Option (List ℕ)
key_of digits = option_and_then short_from (result_ok (decode_of digits))

-- the new value that a text tells: a tilde for a removal, a dash for the empty value, or digits
unfoldable pub new_value_of : List ℕ → Option (Option (List ℕ))
new_value_of text =
    if bytes_eq text (codes "~") then Some None
    else if bytes_eq text (codes "-") then Some (Some [])
    else option_map Some (key_of text)

-- a change, by the texts of its key and of its new value
abbrev pub change_of_texts : List ℕ → List ℕ → Option Change
change_of_texts key text =
    option_and_then
    (λ k. option_map (λ v. record { key = k; value = v }) (new_value_of text)) (key_of key)

-- a change, by its two parts around its one equals sign
abbrev pub change_from : List (List ℕ) → Option Change
change_from (key ∷ text ∷ []) = change_of_texts key text
change_from _ = None

-- the change that a word is
unfoldable pub change_of : List ℕ → Option Change
change_of word = change_from (slice_split is_equals word)

-- the words are this key alone
pub record IsKeyWord (words : List (List ℕ)) (key : List ℕ) : Type 0 where
  pub word : List ℕ
  pub only : words ≡ word ∷ []
  pub told : key_of word ≡ Some key

abbrev pub word_of : KeyVerb → List ℕ
word_of verb.Put = codes "put"
word_of verb.Get = codes "get"
word_of verb.Cut = codes "cut"

-- which word the line of a command begins with
abbrev pub verb_of : KeyCommand → KeyVerb
verb_of (command.Put changes) = verb.Put
verb_of (command.Get key) = verb.Get
verb_of (command.Cut count what) = verb.Cut

-- the words that follow it
abbrev pub AreKeyOperands : List (List ℕ) → KeyCommand → Type 0
AreKeyOperands words (command.Put changes) = map change_of words ≡ map Some changes
AreKeyOperands words (command.Get key) = IsKeyWord words key
AreKeyOperands words (command.Cut count what) = IsArm words count what

-- the line is this command
pub record IsKeyCommand (line : List ℕ) (what : KeyCommand) : Type 0 where
  pub operands : List (List ℕ)
  pub words : words_of line ≡ word_of (verb_of what) ∷ operands
  pub follow : AreKeyOperands operands what

-- the lines are these commands, within the limit of a file
abbrev pub AreKeyCommands : List (List ℕ) → List KeyCommand → Type 0
AreKeyCommands lines commands = AreLines IsKeyCommand lines commands

-- the bytes are a script of these commands
abbrev pub IsScript : List ℕ → List KeyCommand → Type 0
IsScript bytes commands = AreKeyCommands (lines_of bytes) commands

-- the line of this number, from 1, is the first with which the lines are no commands
abbrev pub IsFirstBadScriptLine : List ℕ → ℕ → Type 0
IsFirstBadScriptLine bytes n = IsFirstBadLine AreKeyCommands bytes n

-- keys have one to fifteen bytes, values at most fifteen, changes are fewer than 2^32, and a count is at least 1
abbrev pub SuitsKeys : KeyCommand → Type 0
SuitsKeys (command.Put changes) = AllByRecursion IsKeyChange changes × (length changes < 2 ^ 32)
SuitsKeys (command.Get key) = (1 ≤ length key) × (length key ≤ 15)
SuitsKeys (command.Cut count what) = 1 ≤ count
