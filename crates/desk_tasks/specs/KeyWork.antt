-- Serving a key script on the store of an image, on a flash that breaks only where the script arms it.
use Rattle.std.specs.Prelude.{◌≡◌, ℕ, true, List, Result, Ok, Err}
use Rattle.tx_types.specs.declared.config.Config.{Config}
use Rattle.flash_model.specs.Flash.{Contents}
use Rattle.flash_model.specs.Operations.{moment_of}
use Rattle.judged_records.specs.Images.{array_in}
use Rattle.page_keys.specs.Buckets.{AreBuckets}
use Rattle.page_keys.specs.KeyReplies.{key_texts}
use Rattle.page_keys.specs.KeyRuns.{KeyPoint, IsKeyRun, AreFewBreaks, last_point}
use Rattle.page_keys.specs.Scripts.{IsScript, IsFirstBadScriptLine}
use Rattle.page_keys.specs.Stores.{IsFirstBad}
use Rattle.page_keys.specs.declared.command.KeyCommand.{KeyCommand}
use Rattle.page_keys.specs.declared.key_reply.KeyReply.{KeyReply}
use Rattle.desk_tasks.specs.Ending.{Ending, BadLine, BadBucket}
use Rattle.desk_tasks.specs.Runs.{IsUnarmed, first_moment}

-- There is a run of the map machine over these commands, from the map of this image on, with nothing counted and
-- nothing armed. It begins with an open store. It ends with that image, and the text is that of its replies. Among the
-- replies to the first so many commands there are at most as many cuts as were armed among these, and no fault.
pub record IsKeysRun (its : Config) (image : List Contents) (commands : List KeyCommand)
    (left : List Contents) (text : List ℕ) : Type 0 where
  pub first : KeyPoint
  pub begins : moment_of first.flash ≡ first_moment image
  pub up : first.up ≡ true
  pub unarmed : IsUnarmed first.flash
  pub replies : List KeyReply
  pub points : List KeyPoint
  pub run : IsKeyRun its first commands replies points
  pub last : left ≡ (last_point first points).flash.image
  pub said : text ≡ key_texts replies
  pub few : AreFewBreaks 0 0 commands replies

-- the bytes are a script of these commands, or this is their first bad line
abbrev pub ParsesScript : List ℕ → Result (List KeyCommand) ℕ → Type 0
ParsesScript bytes (Ok commands) = IsScript bytes commands
ParsesScript bytes (Err n) = IsFirstBadScriptLine bytes n

abbrev pub AfterScript : (List KeyCommand → Ending → Type 0) → Result (List KeyCommand) ℕ → Ending →
    Type 0
AfterScript next (Ok commands) ending = next commands ending
AfterScript next (Err n) ending = ending ≡ BadLine n

-- the bytes of a script are read, and then comes what the commands give
abbrev pub ParsingScript : List ℕ → (List KeyCommand → Ending → Type 0) → Ending → Type 0
ParsingScript bytes next ending =
    (parsed : Result (List KeyCommand) ℕ) × ParsesScript bytes parsed × AfterScript next parsed ending

-- each page of an image is a bucket, or this is the least that is none
abbrev pub HoldsKeys : Config → List Contents → Result (Unit {0}) ℕ → Type 0
HoldsKeys its image (Ok u) = AreBuckets its (array_in its.protocol its.logical image)
HoldsKeys its image (Err page) = IsFirstBad its (array_in its.protocol its.logical image) page

abbrev pub AfterBuckets : Ending → Result (Unit {0}) ℕ → Ending → Type 0
AfterBuckets done (Ok u) ending = ending ≡ done
AfterBuckets done (Err page) ending = ending ≡ BadBucket page

-- the store of an image is opened, and then all is done
abbrev pub OpensStore : Config → List Contents → Ending → Ending → Type 0
OpensStore its image done ending =
    (held : Result (Unit {0}) ℕ) × HoldsKeys its image held × AfterBuckets done held ending
