-- What the words of a call of the program ask for.
use Rattle.std.specs.Prelude.{ℕ, nat_lt, if◌then◌else◌, List, [], ◌∷◌, length, map, codes, string_bytes, String, Option, None, Some}
use Rattle.std.specs.Global.{Global}
use Rattle.std.specs.Option.{option_map, option_and_then}
use Rattle.std.specs.Str.{bytes_eq}
use Rattle.tx_types.specs.declared.config.Config.{Config}
use Rattle.tx_types.specs.declared.config.Protocol.{Protocol}
use Rattle.tx_types.specs.declared.config.Protocol.TheVariants.{Scc, Bpcc}
use Rattle.host_protocol.specs.Numbers.{number_of}
use Rattle.desk_tasks.specs.Request.{Request, Try, Format, Run, Explain, Drive, Check, Compare, Keys, Retire}
use Rattle.desk_tasks.specs.Numbers.{wide_number_of, transaction_count_of}
use Rattle.command_line.specs.declared.words.Task.{Task}
use Rattle.command_line.specs.declared.words.Task.TheVariants as task

-- a file's name has at least one byte
abbrev pub file_name : List ℕ → Option (List ℕ)
file_name word = if nat_lt 0 (length word) then Some word else None

abbrev pub protocol_of_word : List ℕ → Option Protocol
protocol_of_word word =
    if bytes_eq word (codes "scc") then Some Scc else if bytes_eq word (codes "bpcc") then Some Bpcc
    else None

-- six numbers, which are those of a configuration in their order, and the words behind them
abbrev pub config_of : Protocol → List (List ℕ) → Option (Config × List (List ℕ))
config_of protocol (page ∷ pages ∷ blocks ∷ dies ∷ logical ∷ pending ∷ more) =
    option_and_then (λ page. option_and_then (λ pages. option_and_then (λ blocks.
    option_and_then (λ dies. option_and_then (λ logical. option_map (λ pending. (
      record {
        protocol = protocol;
        page_bytes = page;
        pages_per_block = pages;
        blocks_per_die = blocks;
        dies = dies;
        logical = logical;
        pending = pending;
      },
      more,
    ))
    (number_of pending)) (number_of logical)) (number_of dies)) (number_of blocks))
    (number_of pages)) (number_of page)
config_of protocol _ = None

-- how many blocks may be retired: a number, or none where there is no word
abbrev pub allowance_of : List (List ℕ) → Option ℕ
allowance_of [] = Some 0
allowance_of (allowance ∷ []) = number_of allowance
allowance_of _ = None

-- ---- the words behind the first one

abbrev pub try_of : List (List ℕ) → Option Request
try_of (commands ∷ []) = option_map Try (file_name commands)
try_of _ = None

abbrev pub format_of : List (List ℕ) → Option Request
format_of (image ∷ protocol ∷ numbers) =
    option_and_then
    (λ image. option_and_then
    (λ protocol. option_and_then (λ read. option_map (Format image read.0) (allowance_of read.1))
    (config_of protocol numbers))
    (protocol_of_word protocol))
    (file_name image)
format_of _ = None

abbrev pub run_of : List (List ℕ) → Option Request
run_of (image ∷ commands ∷ []) =
    option_and_then (λ image. option_map (Run image) (file_name commands)) (file_name image)
run_of _ = None

abbrev pub explain_of : List (List ℕ) → Option Request
explain_of (image ∷ []) = option_map Explain (file_name image)
explain_of _ = None

abbrev pub drive_of : List (List ℕ) → Option Request
drive_of (start ∷ count ∷ protocol ∷ []) =
    option_and_then
    (λ start. option_and_then (λ count. option_map (Drive start count) (protocol_of_word protocol))
    (transaction_count_of count))
    (wide_number_of start)
drive_of _ = None

abbrev pub check_of : List (List ℕ) → Option Request
check_of (image ∷ report ∷ []) =
    option_and_then (λ image. option_map (Check image) (file_name report)) (file_name image)
check_of _ = None

abbrev pub compare_of : List (List ℕ) → Option Request
compare_of (first ∷ second ∷ []) =
    option_and_then (λ first. option_map (Compare first) (file_name second)) (file_name first)
compare_of _ = None

abbrev pub keys_of : List (List ℕ) → Option Request
keys_of (image ∷ script ∷ []) =
    option_and_then (λ image. option_map (Keys image) (file_name script)) (file_name image)
keys_of _ = None

abbrev pub retire_of : List (List ℕ) → Option Request
retire_of (image ∷ block ∷ []) =
    option_and_then (λ image. option_map (Retire image) (number_of block)) (file_name image)
retire_of _ = None

-- the task that the words behind this verb ask for
abbrev pub behind : List ℕ → List (List ℕ) → Option Request
behind verb words =
    if bytes_eq verb (codes "try") then try_of words
    else if bytes_eq verb (codes "format") then format_of words
    else if bytes_eq verb (codes "run") then run_of words
    else if bytes_eq verb (codes "explain") then explain_of words
    else if bytes_eq verb (codes "drive") then drive_of words
    else if bytes_eq verb (codes "check") then check_of words
    else if bytes_eq verb (codes "compare") then compare_of words
    else if bytes_eq verb (codes "keys") then keys_of words
    else if bytes_eq verb (codes "retire") then retire_of words
    else None

-- the table of words: no other words are in it
abbrev pub request : List (List ℕ) → Option Request
request [] = None
request (verb ∷ words) = behind verb words

abbrev pub request_by : List (String Global) → Option Request
request_by words = request (map string_bytes words)

-- the task that a value of the program stands for
abbrev pub request_of : Task → Request
request_of (task.Try commands) = Try commands.now
request_of (task.Format image config allowance) = Format image.now config allowance
request_of (task.Run image commands) = Run image.now commands.now
request_of (task.Explain image) = Explain image.now
request_of (task.Drive start count protocol) = Drive start count protocol
request_of (task.Check image report) = Check image.now report.now
request_of (task.Compare first second) = Compare first.now second.now
request_of (task.Keys image script) = Keys image.now script.now
request_of (task.Retire image block) = Retire image.now block.0
