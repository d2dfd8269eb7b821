-- What saying a text changes of a desk.
use Rattle.std.proofs.Common.{◌≡◌, ℕ, List, [], ◌∷◌, take, Option, None, Some, Result, Ok, Err, refl, ap, ◌∙◌, arith}
use Rattle.std.specs.Option.{option_map}
use Rattle.desk_io.specs.Desk.{DeskContents, DeskState, Rose, Says, after_memory, called, counted, once_asked, with_said}
use Rattle.desk_io.specs.declared.desk.SinkError.{SinkError}
use Rattle.desk_io.specs.declared.desk.SinkError.TheVariants as sink
use Rattle.program_base.specs.Saying.{Attempts, after_text, files_in}

-- ---- the count of faults

-- a line that is tried leaves the count risen
pub faults_tried : (n : ℕ) (mid new : DeskState) (text : List ℕ) → mid.faults ≡ counted n → Attempts mid new text →
    Rose n new.faults
faults_tried n mid new text rose (result, says) = by_result result says
  where
    by_result : (result : Result (Unit {0}) SinkError) → Says mid new text result → Rose n new.faults
    by_result (Ok done) says = let same = ap (λ (d : DeskState). d.faults) says in omega arith
    by_result (Err sink.Failed) says = let same = ap (λ (d : DeskState). d.faults) says.1 in omega arith
    by_result (Err sink.Memory) says = let same = ap (λ (d : DeskState). d.faults) says in omega arith

-- ---- the files

-- a call that keeps the files keeps them
pub same_files : (change : DeskContents → DeskContents) (told : Option DeskContents) →
    ((c : DeskContents) → (change c).files ≡ c.files) →
    option_map (λ c. c.files) (option_map (called change) told) ≡ option_map (λ c. c.files) told
same_files change None keeps = refl
same_files change (Some c) keeps = ap (λ f. Some f) (keeps c)

-- a call that runs out of memory keeps the files
pub files_asked : (desk : DeskState) → files_in (after_memory desk) ≡ files_in desk
files_asked desk = by_told desk.told
  where
    by_told : (told : Option DeskContents) → option_map (λ c. c.files) (option_map once_asked told)
        ≡ option_map (λ c. c.files) told
    by_told None = refl
    by_told (Some c) = refl

pub files_text : (text : List ℕ) (desk : DeskState) → files_in (after_text text desk) ≡ files_in desk
files_text [] desk = refl
files_text (c ∷ cs) desk = same_files (with_said (c ∷ cs)) desk.told (λ c. refl)

pub files_said : (old new : DeskState) (text : List ℕ) (result : Result (Unit {0}) SinkError) →
    Says old new text result → files_in new ≡ files_in old
files_said old new text (Ok done) says = ap files_in says ∙ same_files (with_said text) old.told (λ c. refl)
files_said old new text (Err sink.Failed) says = ap files_in says.1
    ∙ same_files (with_said (take says.0 text)) old.told (λ c. refl)
files_said old new text (Err sink.Memory) says = ap files_in says ∙ files_asked old

pub files_tried : (old new : DeskState) (text : List ℕ) → Attempts old new text → files_in new ≡ files_in old
files_tried old new text (result, says) = files_said old new text result says
