-- What reading a part of a key script gave.
use Rattle.std.specs.Prelude.{◌≡◌, ◌<◌, ◌≤◌, ℕ, true, List, length}
use Rattle.host_protocol.specs.Files.{is_command_line}
use Rattle.host_protocol.specs.declared.error.TextError.{TextError}
use Rattle.host_protocol.specs.declared.error.TextError.TheVariants as text
use Rattle.host_protocol.specs.declared.file.TheConstants.{MAX_COMMANDS}
use Rattle.page_keys.specs.Scripts.{verb_of, AreKeyOperands, IsKeyCommand, IsFirstBadScriptLine}
use Rattle.page_keys.specs.declared.command.KeyCommand.{KeyCommand}
use Rattle.page_keys.specs.declared.command.KeyCommand.TheVariants as command
use Rattle.page_keys.specs.declared.key_verb.KeyVerb.{KeyVerb}

-- the words behind the command word make this command
abbrev pub MakesKeyCommand : KeyVerb → List (List ℕ) → KeyCommand → Type 0
MakesKeyCommand verb words what = (verb ≡ verb_of what) × AreKeyOperands words what

-- they make none
abbrev pub MakesNoKeyCommand : KeyVerb → List (List ℕ) → Type 0
MakesNoKeyCommand verb words =
    (what : KeyCommand) → verb ≡ verb_of what → ¬ AreKeyOperands words what

-- a put has this many changes at most
abbrev pub HasFewChanges : ℕ → KeyCommand → Type 0
HasFewChanges most (command.Put changes) = length changes ≤ most
HasFewChanges most _ = Unit {0}

-- the line is neither blank nor a comment, and is this command
pub record AddsKeyCommand (line : List ℕ) (before : ℕ) (what : KeyCommand) : Type 0 where
  pub asks : is_command_line line ≡ true
  pub is : IsKeyCommand line what
  pub one_more : before < MAX_COMMANDS

-- the line is neither blank nor a comment, and is no command, or comes after the last that a script may have
pub record AddsNoKeyCommand (line : List ℕ) (before : ℕ) : Type 0 where
  pub asks : is_command_line line ≡ true
  pub past : (what : KeyCommand) → IsKeyCommand line what → before < MAX_COMMANDS → ⊥

-- where a script's reading ended
abbrev pub EndsAt : List ℕ → TextError → Type 0
EndsAt bytes (text.Line n) = IsFirstBadScriptLine bytes n
EndsAt bytes text.Memory = Unit {0}
