-- A task has one ending.
use Rattle.std.proofs.Common.{◌≡◌, inl, inr, ℕ, List, Option, None, Some, Result, Ok, Err, refl, sym, ap, subst, ◌∙◌}
use Rattle.std.specs.Prelude.{IfSome, IsSome}
use Rattle.tx_types.specs.declared.config.Config.{Config}
use Rattle.tx_types.specs.Config.{shape_of}
use Rattle.flash_model.specs.Flash.{Contents, Extras}
use Rattle.record_list.specs.declared.found.Breach.{Breach}
use Rattle.host_protocol.specs.declared.command.Command.{Command}
use Rattle.host_protocol.proofs.FileLemmas.{file_bad, file_same, first_same}
use Rattle.image_file.specs.declared.error.ImageError.{ImageError}
use Rattle.desk_io.specs.Desk as found
use Rattle.desk_io.specs.Desk.{DeskContents, DeskState, FileFound, Finds, file_at, file_found}
use Rattle.desk_tasks.specs.Ending.{Ending}
use Rattle.desk_tasks.specs.Steps.{AfterLoad, DoneIfSound, AfterParsing, AfterReading, NextIfSound, Opening, ReadingOn, Judging, Comparing, Keying, Explaining}
use Rattle.desk_tasks.specs.Steps.{IsEnding, Loading, OpensAndServes, Opens, Parses, Parsing, Reading, Retiring, Running, Trying, WithoutLoad}
use Rattle.command_line.specs.Top.{TellsEnding}
use Rattle.desk_tasks.specs.Request.{Request, Try, Format, Run, Explain, Drive, Check, Compare, Keys, Retire}
use Rattle.desk_tasks.specs.Checking.{check_ending, comparison_ending}
use Rattle.command_line.proofs.OneKeyEnding.{one_parsing_script, one_store}
use Rattle.command_line.proofs.OneFinding.{one_check, one_comparison}
use Rattle.judged_records.proofs.OfNotes.OneBreach.{breach_one, sound_unbroken}

-- ---- each step comes to one thing

-- what is at a name, where the desk tells it
one_found : (told : Option DeskContents) (name : List ℕ) (a b : FileFound) → IsSome told →
    IfSome told (λ c. file_found (file_at c.files name) ≡ a) →
    IfSome told (λ c. file_found (file_at c.files name) ≡ b) → a ≡ b
one_found None name a b tells h k = absurd (cc)
one_found (Some c) name a b tells h k = sym h ∙ k

one_loading : (desk : DeskState) (name : List ℕ) (next : List ℕ → Ending → ℕ → Type 0) → IsSome desk.told →
    ((bytes : List ℕ) (a b : Ending) (m n : ℕ) → next bytes a m → next bytes b n → a ≡ b) →
    (a b : Ending) (m n : ℕ) → Loading (Finds desk) name next a m → Loading (Finds desk) name next b n → a ≡ b
one_loading desk name next tells one a b m n h k =
    let same = one_found desk.told name h.0 k.0 tells h.1.1 k.1.1 in
    after k.0 (subst (λ found. AfterLoad name next found a m) same h.2) k.2
  where
    after : (found : FileFound) → AfterLoad name next found a m → AfterLoad name next found b n → a ≡ b
    after found.Missing h k = h.0 ∙ sym k.0
    after found.TooLong h k = h.0 ∙ sym k.0
    after (found.Bytes bytes) h k = one bytes a b h.0 k.0 h.1 k.1

one_reading : (bytes : List ℕ) (next : Config → List Contents → Extras → Ending → Type 0) →
    ((its : Config) (image : List Contents) (extras : Extras) (a b : Ending) → next its image extras a →
    next its image extras b → a ≡ b) →
    (a b : Ending) → Reading bytes next a → Reading bytes next b → a ≡ b
one_reading bytes next one a b h k =
    after k.0 (subst (λ read. AfterReading (λ its image extras. WithoutLoad (next its image extras)) read a 0)
    (sym h.1.0 ∙ k.1.0) h.2) k.2
  where
    after : (read : Result (Config × List Contents × Extras) ImageError) →
        AfterReading (λ its image extras. WithoutLoad (next its image extras)) read a 0
        → AfterReading (λ its image extras. WithoutLoad (next its image extras)) read b 0 → a ≡ b
    after (Ok read) h k = one read.0 read.1 read.2 a b h.0 k.0
    after (Err rule) h k = h.0 ∙ sym k.0

one_parsed : (page_bytes : ℕ) (bytes : List ℕ) (p q : Result (List Command) ℕ) → Parses page_bytes bytes p →
    Parses page_bytes bytes q → p ≡ q
one_parsed page_bytes bytes (Ok cs) (Ok ds) h k = ap (λ cs. Ok cs) (file_same page_bytes bytes cs ds h k)
one_parsed page_bytes bytes (Ok cs) (Err n) h k = absurd (file_bad page_bytes bytes cs n h k)
one_parsed page_bytes bytes (Err m) (Ok ds) h k = absurd (file_bad page_bytes bytes ds m k h)
one_parsed page_bytes bytes (Err m) (Err n) h k = ap (λ n. Err n) (first_same page_bytes bytes m n h k)

one_parsing : (page_bytes : ℕ) (bytes : List ℕ) (next : List Command → Ending → Type 0) →
    ((cs : List Command) (a b : Ending) → next cs a → next cs b → a ≡ b) →
    (a b : Ending) → Parsing page_bytes bytes next a → Parsing page_bytes bytes next b → a ≡ b
one_parsing page_bytes bytes next one a b h k =
    after k.0 (subst (λ parsed. AfterParsing next parsed a) (one_parsed page_bytes bytes h.0 k.0 h.1 k.1) h.2) k.2
  where
    after : (parsed : Result (List Command) ℕ) → AfterParsing next parsed a → AfterParsing next parsed b → a ≡ b
    after (Ok cs) h k = one cs a b h k
    after (Err n) h k = h ∙ sym k

one_opened : (its : Config) (image : List Contents) (p q : Result (Unit {0}) Breach) → Opens its image p →
    Opens its image q → p ≡ q
one_opened its image (Ok p) (Ok q) h k = refl
one_opened its image (Ok p) (Err b) h k = absurd (sound_unbroken its.protocol its.logical (shape_of its) image b h k)
one_opened its image (Err a) (Ok q) h k = absurd (sound_unbroken its.protocol its.logical (shape_of its) image a k h)
one_opened its image (Err a) (Err b) h k = ap (λ b. Err b)
    (breach_one its.protocol its.logical (shape_of its) image a b h k)

one_opening : (its : Config) (image : List Contents) (done : Ending) (a b : Ending) → OpensAndServes its image done a →
    OpensAndServes its image done b → a ≡ b
one_opening its image done a b h k =
    after k.0 (subst (λ opened. DoneIfSound done opened a) (one_opened its image h.0 k.0 h.1 k.1) h.2) k.2
  where
    after : (opened : Result (Unit {0}) Breach) → DoneIfSound done opened a → DoneIfSound done opened b → a ≡ b
    after (Ok sound) h k = h ∙ sym k
    after (Err breach) h k = h ∙ sym k

one_reading_on : (bytes : List ℕ) (next : Config → List Contents → Extras → Ending → ℕ → Type 0) →
    ((its : Config) (image : List Contents) (extras : Extras) (a b : Ending) (m n : ℕ) → next its image extras a m →
    next its image extras b n → a ≡ b) →
    (a b : Ending) (m n : ℕ) → ReadingOn bytes next a m → ReadingOn bytes next b n → a ≡ b
one_reading_on bytes next one a b m n h k =
    after k.0 (subst (λ read. AfterReading next read a m) (sym h.1.0 ∙ k.1.0) h.2) k.2
  where
    after : (read : Result (Config × List Contents × Extras) ImageError) → AfterReading next read a m →
        AfterReading next read b n → a ≡ b
    after (Ok read) h k = one read.0 read.1 read.2 a b m n h k
    after (Err rule) h k = h.0 ∙ sym k.0

one_opened_on : (its : Config) (image : List Contents) (next : Ending → Type 0) →
    ((a b : Ending) → next a → next b → a ≡ b) →
    (a b : Ending) → Opening its image next a → Opening its image next b → a ≡ b
one_opened_on its image next one a b h k =
    after k.0 (subst (λ opened. NextIfSound next opened a) (one_opened its image h.0 k.0 h.1 k.1) h.2) k.2
  where
    after : (opened : Result (Unit {0}) Breach) → NextIfSound next opened a → NextIfSound next opened b → a ≡ b
    after (Ok sound) h k = one a b h k
    after (Err breach) h k = h ∙ sym k

-- ---- and so does each task

one_try : (lines : List ℕ) (a b : Ending) → Trying lines a → Trying lines b → a ≡ b
one_try lines a b h k = one_parsing 16 lines _ (λ cs a b h k. h ∙ sym k) a b h k

one_run : (name bytes lines : List ℕ) (a b : Ending) → Running name bytes lines a → Running name bytes lines b → a ≡ b
one_run name bytes lines a b h k =
    one_reading bytes _ (λ its image extras. one_parsing its.page_bytes lines _ (λ cs. one_opening its image _)) a b h k

one_explanation : (bytes : List ℕ) (a b : Ending) → Explaining bytes a → Explaining bytes b → a ≡ b
one_explanation bytes a b h k = one_reading bytes _ (λ its image extras. one_opening its image _) a b h k

one_judging : (its : Config) (image : List Contents) (text : List ℕ) (a b : Ending) → Judging its image text a →
    Judging its image text b → a ≡ b
one_judging its image text =
    one_opened_on its image _ (λ a b h k. h.2 ∙ ap check_ending (one_check its image text h.0 k.0 h.1 k.1) ∙ sym k.2)

one_comparing : (a : Config) (image : List Contents) (b : Config) (other : List Contents) (x y : Ending) →
    Comparing a image b other x →
    Comparing a image b other y → x ≡ y
one_comparing a image b other =
    one_opened_on a image _ (one_opened_on b other _
    (λ x y h k. h.2 ∙ ap (comparison_ending a) (one_comparison a image b other h.0 k.0 h.1 k.1) ∙ sym k.2))

one_keys : (name bytes lines : List ℕ) (a b : Ending) → Keying name bytes lines a → Keying name bytes lines b → a ≡ b
one_keys name bytes lines =
    one_reading bytes _
    (λ its image extras. one_parsing_script lines _ (λ cs. one_opened_on its image _ (one_store its image _)))

one_retirement : (name bytes : List ℕ) (block : ℕ) (a b : Ending) → Retiring name bytes block a →
    Retiring name bytes block b → a ≡ b
one_retirement name bytes block =
    one_reading bytes _ (λ its image extras. one_opened_on its image _ (λ a b h k. h ∙ sym k))

-- where the desk tells what it hangs on, the ending of a task is the only one
pub one_ending : (task : Option Request) (desk : DeskState) (a b : Ending) (m n : ℕ) → TellsEnding task desk →
    IsEnding task (Finds desk) a m → IsEnding task (Finds desk) b n → a ≡ b
one_ending None desk a b m n tells h k = h.0 ∙ sym k.0
one_ending (Some (Format image its allowance)) desk a b m n tells h k = h.0 ∙ sym k.0
one_ending (Some (Drive start count protocol)) desk a b m n tells h k = h.0 ∙ sym k.0
one_ending (Some (Try commands)) desk a b m n (inl none) h k = absurd (cc)
one_ending (Some (Try commands)) desk a b m n (inr tells) h k =
    one_loading desk commands _ tells (λ lines a b m n h k. one_try lines a b h.0 k.0) a b m n h k
one_ending (Some (Explain image)) desk a b m n (inl none) h k = absurd (cc)
one_ending (Some (Explain image)) desk a b m n (inr tells) h k =
    one_loading desk image _ tells (λ bytes a b m n h k. one_explanation bytes a b h.0 k.0) a b m n h k
one_ending (Some (Retire image block)) desk a b m n (inl none) h k = absurd (cc)
one_ending (Some (Retire image block)) desk a b m n (inr tells) h k =
    one_loading desk image _ tells (λ bytes a b m n h k. one_retirement image bytes block a b h.0 k.0) a b m n h k
one_ending (Some (Run image commands)) desk a b m n (inl none) h k = absurd (cc)
one_ending (Some (Run image commands)) desk a b m n (inr tells) h k =
    one_loading desk image _ tells
    (λ bytes. one_loading desk commands _ tells (λ lines a b m n h k. one_run image bytes lines a b h.0 k.0)) a b m n h
    k
one_ending (Some (Check image report)) desk a b m n (inl none) h k = absurd (cc)
one_ending (Some (Check image report)) desk a b m n (inr tells) h k =
    one_loading desk image _ tells
    (λ bytes. one_loading desk report _ tells
    (λ text a b m n h k. one_reading bytes _ (λ its image extras. one_judging its image text) a b h.0 k.0)) a b m n h k
one_ending (Some (Compare first second)) desk a b m n (inl none) h k = absurd (cc)
one_ending (Some (Compare first second)) desk a b m n (inr tells) h k =
    one_loading desk first _ tells
    (λ bytes. one_reading_on bytes _
    (λ its image extras. one_loading desk second _ tells
    (λ others a b m n h k. one_reading others _ (λ b other extras. one_comparing its image b other) a b h.0 k.0))) a b m
    n h k
one_ending (Some (Keys image script)) desk a b m n (inl none) h k = absurd (cc)
one_ending (Some (Keys image script)) desk a b m n (inr tells) h k =
    one_loading desk image _ tells
    (λ bytes. one_loading desk script _ tells (λ lines a b m n h k. one_keys image bytes lines a b h.0 k.0)) a b m n h k
