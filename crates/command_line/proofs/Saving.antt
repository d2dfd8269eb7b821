-- Which file the ending of a task saves.
use Rattle.std.proofs.Common.{◌≡◌, ◌⊎◌, inl, inr, ℕ, ◌==◌, nat_lt, Bool, true, false, List, Option, None, Some, Result, Ok, Err, refl, ap, arith, if◌then◌else◌}
use Rattle.std.proofs.Common.{unwrap_or}
use Rattle.std.specs.Option.{option_map}
use Rattle.tx_types.specs.declared.config.Config.{Config}
use Rattle.tx_types.specs.declared.config.ConfigError.{ConfigError}
use Rattle.tx_types.specs.declared.config.Shape.{Shape}
use Rattle.tx_types.specs.Config.{blocks_of, checked, shape_of}
use Rattle.flash_model.specs.Flash.{Contents, Extras}
use Rattle.flash_model.specs.Retiring.{max_allowance}
use Rattle.record_list.specs.declared.found.Breach.{Breach}
use Rattle.host_protocol.specs.declared.command.Command.{Command}
use Rattle.image_file.specs.declared.error.ImageError.{ImageError}
use Rattle.desk_io.specs.Desk as found
use Rattle.desk_io.specs.Desk.{FileFound}
use Rattle.program_base.specs.Refusals.{Missing, TooLong, BadImage, Unsound}
use Rattle.program_base.proofs.Refusing.{never_fault}
use Rattle.desk_tasks.specs.Ending.{Ending, Tried, Formatted, Ran, Explained, SummedUp, Keyed, Retired, RefusedBlock, RefusedWorn, Good, WrongLine, Same, DifferShape}
use Rattle.desk_tasks.specs.Ending.{DifferBlank, DifferAt, Image, BadLine, BadBucket, BadConfiguration, BadAllowance, status}
use Rattle.desk_tasks.specs.Gives.{OutputState, Gives}
use Rattle.desk_tasks.specs.Steps.{AfterLoad, DoneIfSound, AfterParsing, AfterReading, NextIfSound, Opening, ReadingOn, Checking, Comparing, Keying, Explaining}
use Rattle.desk_tasks.specs.Steps.{IsEnding, Loading, OpensAndServes, Parsing, Reading, Retiring, Running, Trying, formatting, WithoutLoad}
use Rattle.desk_tasks.specs.Request.{Request, Try, Format, Run, Explain, Drive, Check, Compare, Keys, Retire, file_of}
use Rattle.command_line.proofs.OneKeyEnding.{script_all, store_all}
use Rattle.desk_tasks.specs.Checking.{check_ending, Comparison, OneArray, Shapes, BlankAt, ByteAt, comparison_ending}

-- the file that an ending saves
abbrev pub saver : Ending → Option (List ℕ)
saver (Formatted name its allowance) = Some name
saver (Ran name its image extras commands) = Some name
saver (Keyed name its image extras commands) = Some name
saver (Retired name its image extras block) = Some name
saver _ = None

pub gives_saves : (ending : Ending) (p : OutputState) → Gives ending p →
    option_map (λ file. file.name) p.saved ≡ saver ending
gives_saves (Tried commands) p h = ap (option_map (λ file. file.name)) h.saves_nothing
gives_saves (Formatted name its allowance) p h = ap (option_map (λ file. file.name)) h.saves
gives_saves (Ran name its image extras commands) p h = ap (option_map (λ file. file.name)) h.saves
gives_saves (Keyed name its image extras commands) p h = ap (option_map (λ file. file.name)) h.saves
gives_saves (Retired name its image extras block) p h = ap (option_map (λ file. file.name)) h.saves
gives_saves (RefusedBlock block) p h = ap (option_map (λ file. file.name)) h.saves_nothing
gives_saves (RefusedWorn allowance) p h = ap (option_map (λ file. file.name)) h.saves_nothing
gives_saves (Explained its image) p h = ap (option_map (λ file. file.name)) h.saves_nothing
gives_saves (SummedUp start count protocol) p h = ap (option_map (λ file. file.name)) h.saves_nothing
gives_saves (Good pages) p h = ap (option_map (λ file. file.name)) h.saves_nothing
gives_saves (WrongLine k) p h = ap (option_map (λ file. file.name)) h.saves_nothing
gives_saves (Same logical) p h = ap (option_map (λ file. file.name)) h.saves_nothing
gives_saves DifferShape p h = ap (option_map (λ file. file.name)) h.saves_nothing
gives_saves (DifferBlank page) p h = ap (option_map (λ file. file.name)) h.saves_nothing
gives_saves (DifferAt page at) p h = ap (option_map (λ file. file.name)) h.saves_nothing
gives_saves (BadLine n) p h = ap (option_map (λ file. file.name)) h.saves_nothing
gives_saves (Image why) p h = ap (option_map (λ file. file.name)) h.saves_nothing
gives_saves (BadBucket page) p h = ap (option_map (λ file. file.name)) h.saves_nothing
gives_saves (BadConfiguration rule) p h = ap (option_map (λ file. file.name)) h.saves_nothing
gives_saves BadAllowance p h = ap (option_map (λ file. file.name)) h.saves_nothing

-- a refusal saves none
pub refusal_saves : (ending : Ending) → (status ending ≡ 0 → ⊥) → saver ending ≡ None
refusal_saves (Formatted name its allowance) refused = absurd (refused refl)
refusal_saves (Ran name its image extras commands) refused = absurd (refused refl)
refusal_saves (Keyed name its image extras commands) refused = absurd (refused refl)
refusal_saves (Retired name its image extras block) refused = absurd (refused refl)
refusal_saves (RefusedBlock block) refused = refl
refusal_saves (RefusedWorn allowance) refused = refl
refusal_saves (Tried commands) refused = refl
refusal_saves (Explained its image) refused = refl
refusal_saves (SummedUp start count protocol) refused = refl
refusal_saves (Good pages) refused = refl
refusal_saves (WrongLine k) refused = refl
refusal_saves (Same logical) refused = refl
refusal_saves DifferShape refused = refl
refusal_saves (DifferBlank page) refused = refl
refusal_saves (DifferAt page at) refused = refl
refusal_saves (BadLine n) refused = refl
refusal_saves (Image why) refused = refl
refusal_saves (BadBucket page) refused = refl
refusal_saves (BadConfiguration rule) refused = refl
refusal_saves BadAllowance refused = refl

-- no ending has status 5
pub never_five : (ending : Ending) → 5 ≡ status ending → ⊥
never_five (Tried commands) e = absurd (omega arith)
never_five (Formatted name its allowance) e = absurd (omega arith)
never_five (Ran name its image extras commands) e = absurd (omega arith)
never_five (Keyed name its image extras commands) e = absurd (omega arith)
never_five (Retired name its image extras block) e = absurd (omega arith)
never_five (RefusedBlock block) e = absurd (omega arith)
never_five (RefusedWorn allowance) e = absurd (omega arith)
never_five (Explained its image) e = absurd (omega arith)
never_five (SummedUp start count protocol) e = absurd (omega arith)
never_five (Good pages) e = absurd (omega arith)
never_five (WrongLine k) e = absurd (omega arith)
never_five (Same logical) e = absurd (omega arith)
never_five DifferShape e = absurd (omega arith)
never_five (DifferBlank page) e = absurd (omega arith)
never_five (DifferAt page at) e = absurd (omega arith)
never_five (BadLine n) e = absurd (omega arith)
never_five (Image why) e = never_fault why e
never_five (BadBucket page) e = absurd (omega arith)
never_five (BadConfiguration rule) e = absurd (omega arith)
never_five BadAllowance e = absurd (omega arith)

-- ---- what holds of each ending to which a step may lead

loading_all : (P : Ending → Type 0) (finds : List ℕ → FileFound → Type 0) (name : List ℕ)
    (next : List ℕ → Ending → ℕ → Type 0) →
    P (Image (Missing name)) → P (Image (TooLong name)) →
    ((bytes : List ℕ) (ending : Ending) (more : ℕ) → next bytes ending more → P ending) →
    (ending : Ending) (loads : ℕ) → Loading finds name next ending loads → P ending
loading_all P finds name next missing long leads ending loads (there, is, h) = after there h
  where
    after : (there : FileFound) → AfterLoad name next there ending loads → P ending
    after found.Missing h = rw h.0 missing
    after found.TooLong h = rw h.0 long
    after (found.Bytes bytes) h = leads bytes ending h.0 h.1

reading_all : (P : Ending → Type 0) (bytes : List ℕ) (next : Config → List Contents → Extras → Ending → Type 0) →
    ((rule : ImageError) → P (Image (BadImage rule))) →
    ((its : Config) (image : List Contents) (extras : Extras) (ending : Ending) → next its image extras ending →
    P ending) →
    (ending : Ending) → Reading bytes next ending → P ending
reading_all P bytes next bad leads ending (read, reads, h) = after read h
  where
    after : (read : Result (Config × List Contents × Extras) ImageError) →
        AfterReading (λ its image extras. WithoutLoad (next its image extras)) read ending 0 →
        P ending
    after (Ok read) h = leads read.0 read.1 read.2 ending h.0
    after (Err rule) h = rw h.0 (bad rule)

reading_on_all : (P : Ending → Type 0) (bytes : List ℕ) (next : Config → List Contents → Extras → Ending → ℕ → Type 0) →
    ((rule : ImageError) → P (Image (BadImage rule))) →
    ((its : Config) (image : List Contents) (extras : Extras) (ending : Ending) (more : ℕ) →
    next its image extras ending more → P ending) →
    (ending : Ending) (loads : ℕ) → ReadingOn bytes next ending loads → P ending
reading_on_all P bytes next bad leads ending loads (read, reads, h) = after read h
  where
    after : (read : Result (Config × List Contents × Extras) ImageError) → AfterReading next read ending loads →
        P ending
    after (Ok read) h = leads read.0 read.1 read.2 ending loads h
    after (Err rule) h = rw h.0 (bad rule)

opened_all : (P : Ending → Type 0) (its : Config) (image : List Contents) (next : Ending → Type 0) →
    ((b : Breach) → P (Image (Unsound b))) →
    ((ending : Ending) → next ending → P ending) → (ending : Ending) → Opening its image next ending → P ending
opened_all P its image next bad leads ending (opened, opens, h) = after opened h
  where
    after : (opened : Result (Unit {0}) Breach) → NextIfSound next opened ending → P ending
    after (Ok sound) h = leads ending h
    after (Err b) h = rw h (bad b)

parsing_all : (P : Ending → Type 0) (page_bytes : ℕ) (bytes : List ℕ) (next : List Command → Ending → Type 0) →
    ((n : ℕ) → P (BadLine n)) → ((cs : List Command) (ending : Ending) → next cs ending → P ending) →
    (ending : Ending) → Parsing page_bytes bytes next ending → P ending
parsing_all P page_bytes bytes next bad leads ending (parsed, parses, h) = after parsed h
  where
    after : (parsed : Result (List Command) ℕ) → AfterParsing next parsed ending → P ending
    after (Ok cs) h = leads cs ending h
    after (Err n) h = rw h (bad n)

opening_all : (P : Ending → Type 0) (its : Config) (image : List Contents) (done : Ending) → P done →
    ((b : Breach) → P (Image (Unsound b))) →
    (ending : Ending) → OpensAndServes its image done ending → P ending
opening_all P its image done good bad ending (opened, opens, h) = after opened h
  where
    after : (opened : Result (Unit {0}) Breach) → DoneIfSound done opened ending → P ending
    after (Ok sound) h = rw h good
    after (Err b) h = rw h (bad b)

-- ---- the endings of a task

-- an ending saves none, or this one
abbrev SavesAtMost : Option (List ℕ) → Ending → Type 0
SavesAtMost file ending = (saver ending ≡ None) ⊎ (saver ending ≡ file)

run_saves : (name bytes lines : List ℕ) (ending : Ending) → Running name bytes lines ending →
    SavesAtMost (Some name) ending
run_saves name bytes lines =
    reading_all (SavesAtMost (Some name)) bytes _ (λ rule. inl refl)
    (λ its image extras. parsing_all (SavesAtMost (Some name)) its.page_bytes lines _ (λ n. inl refl)
    (λ cs. opening_all (SavesAtMost (Some name)) its image _ (inr refl) (λ b. inl refl)))

try_saves : (lines : List ℕ) (ending : Ending) → Trying lines ending → SavesAtMost None ending
try_saves lines = parsing_all (SavesAtMost None) 16 lines _ (λ n. inl refl) (λ cs ending h. rw h (inl refl))

explanation_saves : (bytes : List ℕ) (ending : Ending) → Explaining bytes ending → SavesAtMost None ending
explanation_saves bytes =
    reading_all (SavesAtMost None) bytes _ (λ rule. inl refl)
    (λ its image extras. opening_all (SavesAtMost None) its image _ (inl refl) (λ b. inl refl))

checked_saves : (check : Result ℕ ℕ) → SavesAtMost None (check_ending check)
checked_saves (Ok n) = inl refl
checked_saves (Err k) = inl refl

check_saves : (bytes text : List ℕ) (ending : Ending) → Checking bytes text ending → SavesAtMost None ending
check_saves bytes text =
    reading_all (SavesAtMost None) bytes _ (λ rule. inl refl)
    (λ its image extras. opened_all (SavesAtMost None) its image _ (λ b. inl refl)
    (λ ending h. rw h.2 (checked_saves h.0)))

compared_saves : (a : Config) (comes : Comparison) → SavesAtMost None (comparison_ending a comes)
compared_saves a OneArray = inl refl
compared_saves a Shapes = inl refl
compared_saves a (BlankAt page) = inl refl
compared_saves a (ByteAt page at) = inl refl

comparison_saves : (a : Config) (image : List Contents) (b : Config) (other : List Contents) (ending : Ending) →
    Comparing a image b other ending →
    SavesAtMost None ending
comparison_saves a image b other =
    opened_all (SavesAtMost None) a image _ (λ b. inl refl)
    (opened_all (SavesAtMost None) b other _ (λ b. inl refl) (λ ending h. rw h.2 (compared_saves a h.0)))

keys_saves : (name bytes lines : List ℕ) (ending : Ending) → Keying name bytes lines ending →
    SavesAtMost (Some name) ending
keys_saves name bytes lines =
    reading_all (SavesAtMost (Some name)) bytes _ (λ rule. inl refl)
    (λ its image extras. script_all (SavesAtMost (Some name)) lines _ (λ n. inl refl)
    (λ cs. opened_all (SavesAtMost (Some name)) its image _ (λ b. inl refl)
    (store_all (SavesAtMost (Some name)) its image _ (inr refl) (λ page. inl refl))))

retire_saves : (name bytes : List ℕ) (block : ℕ) (ending : Ending) → Retiring name bytes block ending →
    SavesAtMost (Some name) ending
retire_saves name bytes block =
    reading_all (SavesAtMost (Some name)) bytes _ (λ rule. inl refl)
    (λ its image extras. opened_all (SavesAtMost (Some name)) its image _ (λ b. inl refl)
    (λ ending h. rw h (at_most (nat_lt block (blocks_of (shape_of its))) (extras.retired == extras.allowance) its
    image extras)))
  where
    at_most : (low worn : Bool) (its : Config) (image : List Contents) (extras : Extras) →
        SavesAtMost (Some name)
        (unwrap_or (if low then (if worn then Some (RefusedWorn extras.allowance) else None)
        else Some (RefusedBlock block))
        (Retired name its image extras block))
    at_most true true its image extras = inl refl
    at_most true false its image extras = inr refl
    at_most false worn its image extras = inl refl

format_saves : (name : List ℕ) (its : Config) (allowance : ℕ) (check : Result Shape ConfigError) →
    SavesAtMost (Some name) (formatting name its allowance check)
format_saves name its allowance (Ok shape) = by_allowance (nat_lt max_allowance allowance)
  where
    by_allowance : (over : Bool) → SavesAtMost (Some name) (if over then BadAllowance else Formatted name its allowance)
    by_allowance true = inl refl
    by_allowance false = inr refl
format_saves name its allowance (Err rule) = inl refl

-- it saves no other file than that of the task
pub ending_saves : (task : Option Request) (finds : List ℕ → FileFound → Type 0) (ending : Ending) (loads : ℕ) →
    IsEnding task finds ending loads → SavesAtMost (file_of task) ending
ending_saves None finds ending loads h = rw h.0 (inl refl)
ending_saves (Some (Format image its allowance)) finds ending loads h =
    rw h.0 (format_saves image its allowance (checked its))
ending_saves (Some (Drive start count protocol)) finds ending loads h = rw h.0 (inl refl)
ending_saves (Some (Try commands)) finds ending loads h =
    loading_all (SavesAtMost None) finds commands _ (inl refl) (inl refl)
    (λ lines ending more h. try_saves lines ending h.0) ending loads h
ending_saves (Some (Explain image)) finds ending loads h =
    loading_all (SavesAtMost None) finds image _ (inl refl) (inl refl)
    (λ bytes ending more h. explanation_saves bytes ending h.0) ending loads h
ending_saves (Some (Retire image block)) finds ending loads h =
    loading_all (SavesAtMost (Some image)) finds image _ (inl refl) (inl refl)
    (λ bytes ending more h. retire_saves image bytes block ending h.0) ending loads h
ending_saves (Some (Keys image script)) finds ending loads h =
    loading_all (SavesAtMost (Some image)) finds image _ (inl refl) (inl refl)
    (λ bytes. loading_all (SavesAtMost (Some image)) finds script _ (inl refl) (inl refl)
    (λ lines ending more h. keys_saves image bytes lines ending h.0)) ending loads h
ending_saves (Some (Run image commands)) finds ending loads h =
    loading_all (SavesAtMost (Some image)) finds image _ (inl refl) (inl refl)
    (λ bytes. loading_all (SavesAtMost (Some image)) finds commands _ (inl refl) (inl refl)
    (λ lines ending more h. run_saves image bytes lines ending h.0)) ending loads h
ending_saves (Some (Check image report)) finds ending loads h =
    loading_all (SavesAtMost None) finds image _ (inl refl) (inl refl)
    (λ bytes. loading_all (SavesAtMost None) finds report _ (inl refl) (inl refl)
    (λ text ending more h. check_saves bytes text ending h.0)) ending loads h
ending_saves (Some (Compare first second)) finds ending loads h =
    loading_all (SavesAtMost None) finds first _ (inl refl) (inl refl)
    (λ bytes. reading_on_all (SavesAtMost None) bytes _ (λ rule. inl refl)
    (λ a image extras. loading_all (SavesAtMost None) finds second _ (inl refl) (inl refl)
    (λ others ending more h. reading_all (SavesAtMost None) others _ (λ rule. inl refl)
    (λ b other extras. comparison_saves a image b other) ending h.0)))
    ending loads h
