-- The steps of the work, what each comes to, and so the ending of a task. The first step that fails
-- decides.
use Rattle.std.specs.Prelude.{◌≡◌, ℕ, ◌+◌, nat_lt, List, Option, None, Some, Result, Ok, Err, if◌then◌else◌, unwrap_or}
use Rattle.tx_types.specs.declared.config.Config.{Config}
use Rattle.tx_types.specs.declared.config.ConfigError.{ConfigError}
use Rattle.tx_types.specs.declared.config.Shape.{Shape}
use Rattle.tx_types.specs.Config.{checked, shape_of}
use Rattle.flash_model.specs.Flash.{Contents, Extras}
use Rattle.flash_model.specs.Retiring.{max_allowance}
use Rattle.record_list.specs.declared.found.Breach.{Breach}
use Rattle.judged_records.specs.Images.{IsSoundImage, IsLeastImageBreach}
use Rattle.host_protocol.specs.Files.{IsFile, IsFirstBad}
use Rattle.host_protocol.specs.declared.command.Command.{Command}
use Rattle.image_file.specs.declared.error.ImageError.{ImageError}
use Rattle.desk_io.specs.Desk as found
use Rattle.desk_io.specs.Desk.{FileFound}
use Rattle.tx_types.specs.declared.config.Protocol.TheVariants.{Scc}
use Rattle.program_base.specs.Loading.{ReadsImage}
use Rattle.program_base.specs.Refusals.{BadWords, Missing, TooLong, BadImage, Unsound}
use Rattle.desk_tasks.specs.Ending.{Ending, Tried, Formatted, Ran, Explained, SummedUp, Keyed, Retired, Image, BadLine, BadConfiguration, BadAllowance}
use Rattle.desk_tasks.specs.Retirements.{block_refusal}
use Rattle.desk_tasks.specs.Runs.{default_config}
use Rattle.desk_tasks.specs.Request.{Request, Try, Format, Run, Explain, Drive, Check, Compare, Keys, Retire}
use Rattle.desk_tasks.specs.KeyWork.{ParsingScript, OpensStore}
use Rattle.desk_tasks.specs.Checking.{Checks, check_ending, Comparison, Compares, comparison_ending}

-- ---- loading

-- by what is found at a name: the ending, after so many loads
abbrev pub AfterLoad : List ℕ → (List ℕ → Ending → ℕ → Type 0) → FileFound → Ending → ℕ → Type 0
AfterLoad name next found.Missing ending loads = (ending ≡ Image (Missing name)) × (loads ≡ 1)
AfterLoad name next found.TooLong ending loads = (ending ≡ Image (TooLong name)) × (loads ≡ 1)
AfterLoad name next (found.Bytes bytes) ending loads =
    (more : ℕ) × next bytes ending more × (loads ≡ more + 1)

-- the file of this name is loaded, and then comes what its bytes give; what is found at a name is so in this sense
abbrev pub Loading : (List ℕ → FileFound → Type 0) → List ℕ → (List ℕ → Ending → ℕ → Type 0) → Ending → ℕ → Type 0
Loading finds name next ending loads =
    (found : FileFound) × finds name found × AfterLoad name next found ending loads

-- no file more is loaded
abbrev pub WithoutLoad : (Ending → Type 0) → Ending → ℕ → Type 0
WithoutLoad comes ending loads = comes ending × (loads ≡ 0)

-- ---- reading an image

abbrev pub AfterReading : (Config → List Contents → Extras → Ending → ℕ → Type 0) →
    Result (Config × List Contents × Extras) ImageError → Ending → ℕ → Type 0
AfterReading next (Ok read) ending loads = next read.0 read.1 read.2 ending loads
AfterReading next (Err rule) ending loads = WithoutLoad (λ its. its ≡ Image (BadImage rule)) ending loads

-- the bytes of an image file are read, and then comes what its device gives, which may load more
abbrev pub ReadingOn :
    List ℕ → (Config → List Contents → Extras → Ending → ℕ → Type 0) → Ending → ℕ → Type 0
ReadingOn bytes next ending loads =
    (read : Result (Config × List Contents × Extras) ImageError) × ReadsImage bytes read
    × AfterReading next read ending loads

-- the same where nothing more is loaded
abbrev pub Reading : List ℕ → (Config → List Contents → Extras → Ending → Type 0) → Ending → Type 0
Reading bytes next ending =
    ReadingOn bytes (λ its image extras. WithoutLoad (next its image extras)) ending 0

-- ---- parsing

-- the bytes are a file of these commands, or this is their first bad line
abbrev pub Parses : ℕ → List ℕ → Result (List Command) ℕ → Type 0
Parses page_bytes bytes (Ok commands) = IsFile page_bytes bytes commands
Parses page_bytes bytes (Err n) = IsFirstBad page_bytes bytes n

abbrev pub AfterParsing : (List Command → Ending → Type 0) → Result (List Command) ℕ → Ending → Type 0
AfterParsing next (Ok commands) ending = next commands ending
AfterParsing next (Err n) ending = ending ≡ BadLine n

-- the bytes of a command file are read, and then comes what the commands give
abbrev pub Parsing : ℕ → List ℕ → (List Command → Ending → Type 0) → Ending → Type 0
Parsing page_bytes bytes next ending =
    (parsed : Result (List Command) ℕ) × Parses page_bytes bytes parsed
    × AfterParsing next parsed ending

-- ---- opening a device

-- the image is sound, or this is the first law that it breaks
abbrev pub Opens : Config → List Contents → Result (Unit {0}) Breach → Type 0
Opens its image (Ok done) = IsSoundImage its.protocol its.logical (shape_of its) image
Opens its image (Err breach) =
    IsLeastImageBreach its.protocol its.logical (shape_of its) image breach

abbrev pub DoneIfSound : Ending → Result (Unit {0}) Breach → Ending → Type 0
DoneIfSound done (Ok sound) ending = ending ≡ done
DoneIfSound done (Err breach) ending = ending ≡ Image (Unsound breach)

-- the device of an image is opened, and then all is done
abbrev pub OpensAndServes : Config → List Contents → Ending → Ending → Type 0
OpensAndServes its image done ending =
    (opened : Result (Unit {0}) Breach) × Opens its image opened × DoneIfSound done opened ending

abbrev pub NextIfSound : (Ending → Type 0) → Result (Unit {0}) Breach → Ending → Type 0
NextIfSound next (Ok sound) ending = next ending
NextIfSound next (Err breach) ending = ending ≡ Image (Unsound breach)

-- the device of an image is opened, and then comes what it gives
abbrev pub Opening : Config → List Contents → (Ending → Type 0) → Ending → Type 0
Opening its image next ending =
    (opened : Result (Unit {0}) Breach) × Opens its image opened × NextIfSound next opened ending

-- ---- the tasks, from the bytes of their files on

-- `try`: the lines are parsed by the page size of the default configuration, and tried on a blank flash
abbrev pub Trying : List ℕ → Ending → Type 0
Trying lines =
    Parsing (default_config Scc).page_bytes lines (λ commands ending. ending ≡ Tried commands)

-- `run`: the image is read, the commands parsed by its page size, the device opened, and the commands run
abbrev pub Running : List ℕ → List ℕ → List ℕ → Ending → Type 0
Running name bytes lines =
    Reading bytes
    (λ its image extras. Parsing its.page_bytes lines
    (λ commands. OpensAndServes its image (Ran name its image extras commands)))

-- `explain`: the image is read, the device opened, and each verdict explained
abbrev pub Explaining : List ℕ → Ending → Type 0
Explaining bytes = Reading bytes (λ its image extras. OpensAndServes its image (Explained its image))

-- `check`, from the image on: the device is opened, and the report checked against it
abbrev pub Judging : Config → List Contents → List ℕ → Ending → Type 0
Judging its image text =
    Opening its image
    (λ ending. (check : Result ℕ ℕ) × Checks its image text check × (ending ≡ check_ending check))

-- `check`: the image is read, and judged
abbrev pub Checking : List ℕ → List ℕ → Ending → Type 0
Checking bytes text = Reading bytes (λ its image extras. Judging its image text)

-- `compare`, from both images on: each device is opened, and their arrays compared
abbrev pub Comparing : Config → List Contents → Config → List Contents → Ending → Type 0
Comparing a image b other =
    Opening a image
    (Opening b other
    (λ ending. (comes : Comparison) × Compares a image b other comes × (ending ≡ comparison_ending a comes)))

-- `keys`: the image is read, the script parsed, the device and its store opened, and the commands of keys done
abbrev pub Keying : List ℕ → List ℕ → List ℕ → Ending → Type 0
Keying name bytes lines =
    Reading bytes
    (λ its image extras. ParsingScript lines
    (λ commands. Opening its image (OpensStore its image (Keyed name its image extras commands))))

-- `retire`: the image is read, and the block retired from it, or refused
abbrev pub Retiring : List ℕ → List ℕ → ℕ → Ending → Type 0
Retiring name bytes block =
    Reading bytes
    (λ its image extras. Opening its image
    (λ ending. ending ≡ unwrap_or (block_refusal its extras block) (Retired name its image extras block)))

-- a configuration is checked, and then how many blocks may be retired
abbrev pub formatting : List ℕ → Config → ℕ → Result Shape ConfigError → Ending
formatting name its allowance (Ok shape) =
    if nat_lt max_allowance allowance then BadAllowance else Formatted name its allowance
formatting name its allowance (Err rule) = BadConfiguration rule

-- The ending of a task, by what is found at a name, which comes after so many loads.
abbrev pub IsEnding : Option Request → (List ℕ → FileFound → Type 0) → Ending → ℕ → Type 0
IsEnding None finds = WithoutLoad (λ ending. ending ≡ Image BadWords)
IsEnding (Some (Try commands)) finds = Loading finds commands (λ lines. WithoutLoad (Trying lines))
IsEnding (Some (Format image its allowance)) finds =
    WithoutLoad (λ ending. ending ≡ formatting image its allowance (checked its))
IsEnding (Some (Run image commands)) finds =
    Loading finds image
    (λ bytes. Loading finds commands (λ lines. WithoutLoad (Running image bytes lines)))
IsEnding (Some (Explain image)) finds = Loading finds image (λ bytes. WithoutLoad (Explaining bytes))
IsEnding (Some (Drive start count protocol)) finds =
    WithoutLoad (λ ending. ending ≡ SummedUp start count protocol)
IsEnding (Some (Check image report)) finds =
    Loading finds image (λ bytes. Loading finds report (λ text. WithoutLoad (Checking bytes text)))
IsEnding (Some (Compare first second)) finds =
    Loading finds first
    (λ bytes. ReadingOn bytes (λ a image extras. Loading finds second
    (λ others. WithoutLoad (Reading others (λ b other more. Comparing a image b other)))))
IsEnding (Some (Keys image script)) finds =
    Loading finds image
    (λ bytes. Loading finds script (λ lines. WithoutLoad (Keying image bytes lines)))
IsEnding (Some (Retire image block)) finds =
    Loading finds image (λ bytes. WithoutLoad (Retiring image bytes block))
