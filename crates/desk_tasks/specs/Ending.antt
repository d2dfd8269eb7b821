-- What becomes of a call of the program: its ending, with a status, and the line that is said where
-- it is a refusal.
use Rattle.std.specs.Prelude.{ℕ, List, [], ◌++◌, codes}
use Rattle.std.specs.Fmt.{decimal}
use Rattle.tx_types.specs.declared.config.Config.{Config}
use Rattle.tx_types.specs.declared.config.ConfigError.{ConfigError}
use Rattle.tx_types.specs.declared.config.ConfigError.TheVariants as config
use Rattle.tx_types.specs.declared.config.Protocol.{Protocol}
use Rattle.flash_model.specs.Flash.{Contents, Extras}
use Rattle.host_protocol.specs.declared.command.Command.{Command}
use Rattle.page_keys.specs.declared.command.KeyCommand.{KeyCommand}
use Rattle.program_base.specs.Refusals.{ImageEnding, image_line, image_status, line}

-- a device is its configuration and what its flash holds; what a call for an image file is refused for is so in each
-- program
pub data Ending : Type 0 where
  Tried : (commands : List Command) → Ending
  Formatted : (name : List ℕ) → (config : Config) → (allowance : ℕ) → Ending
  Ran : (name : List ℕ) → (config : Config) → (image : List Contents) → (extras : Extras) →
      (commands : List Command) → Ending
  Explained : (config : Config) → (image : List Contents) → Ending
  SummedUp : (start count : ℕ) → (protocol : Protocol) → Ending
  Keyed : (name : List ℕ) → (config : Config) → (image : List Contents) → (extras : Extras) →
      (commands : List KeyCommand) → Ending
  Retired : (name : List ℕ) → (config : Config) → (image : List Contents) → (extras : Extras) →
      (block : ℕ) → Ending
  RefusedBlock : (block : ℕ) → Ending
  RefusedWorn : (allowance : ℕ) → Ending
  Good : (pages : ℕ) → Ending
  WrongLine : (k : ℕ) → Ending
  Same : (logical : ℕ) → Ending
  DifferShape : Ending
  DifferBlank : (page : ℕ) → Ending
  DifferAt : (page at : ℕ) → Ending
  Image : (why : ImageEnding) → Ending
  BadLine : (n : ℕ) → Ending
  BadBucket : (page : ℕ) → Ending
  BadConfiguration : (rule : ConfigError) → Ending
  BadAllowance : Ending

abbrev pub status : Ending → ℕ
status (Tried commands) = 0
status (Formatted name config allowance) = 0
status (Ran name config image extras commands) = 0
status (Explained config image) = 0
status (SummedUp start count protocol) = 0
status (Keyed name config image extras commands) = 0
status (Retired name config image extras block) = 0
status (RefusedBlock block) = 14
status (RefusedWorn allowance) = 14
status (Good pages) = 0
status (WrongLine k) = 12
status (Same logical) = 0
status DifferShape = 13
status (DifferBlank page) = 13
status (DifferAt page at) = 13
status (Image why) = image_status why
status (BadLine n) = 4
status (BadBucket page) = 11
status (BadConfiguration rule) = 8
status BadAllowance = 8

-- the word for a rule of a configuration
abbrev pub config_word : ConfigError → List ℕ
config_word config.Page = codes "page"
config_word config.Pages = codes "pages"
config_word config.Blocks = codes "blocks"
config_word config.Dies = codes "dies"
config_word config.Slots = codes "slots"
config_word config.Logical = codes "logical"
config_word config.Pending = codes "pending"
config_word config.Space = codes "space"

-- the line that says what was found, or of a refusal, and nothing where more is said
abbrev pub refusal_line : Ending → List ℕ
refusal_line (Image why) = image_line why
refusal_line (BadLine n) = line (codes "bad line " ++ decimal n)
refusal_line (BadBucket page) = line (codes "bad bucket " ++ decimal page)
refusal_line (BadConfiguration rule) = line (codes "bad configuration: " ++ config_word rule)
refusal_line BadAllowance = line (codes "bad configuration: allowance")
refusal_line (RefusedBlock block) = line (codes "refused block " ++ decimal block)
refusal_line (RefusedWorn allowance) = line (codes "refused worn " ++ decimal allowance)
refusal_line (Good pages) = line (codes "good " ++ decimal pages)
refusal_line (WrongLine k) = line (codes "wrong line " ++ decimal k)
refusal_line (Same logical) = line (codes "same " ++ decimal logical)
refusal_line DifferShape = line (codes "differ shape")
refusal_line (DifferBlank page) = line (codes "differ page " ++ decimal page ++ codes " blank")
refusal_line (DifferAt page at) = line (codes "differ page " ++ decimal page ++ codes " at " ++ decimal at)
refusal_line _ = []
