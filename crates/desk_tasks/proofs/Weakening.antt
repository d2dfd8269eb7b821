-- An ending that comes by what is found in one sense comes by what is found in a weaker one.
use Rattle.desk_tasks.proofs.Common.{ℕ, List, Option, None, Some, Result, Ok, Err, Config, Contents, Extras, Ending}
use Rattle.durable_folder.specs.Histories.{History}
use Rattle.image_file.specs.declared.error.ImageError.{ImageError}
use Rattle.desk_io.specs.Desk as found
use Rattle.desk_io.specs.Desk.{DeskState, FileFound, Finds}
use Rattle.desk_io.specs.Disk.{FindsBoth}
use Rattle.desk_tasks.specs.Request.{Request, Try, Format, Run, Explain, Drive, Check, Compare, Keys, Retire}
use Rattle.desk_tasks.specs.Steps.{AfterLoad, AfterReading, IsEnding, Loading, ReadingOn}
use Rattle.desk_tasks.specs.Stops.{Comes}

pub loading_weaker : (P Q : List ℕ → FileFound → Type 0) (name : List ℕ) (next after : List ℕ → Ending → ℕ → Type 0) →
    ((found : FileFound) → P name found → Q name found) →
    ((bytes : List ℕ) (ending : Ending) (more : ℕ) → next bytes ending more → after bytes ending more) →
    (ending : Ending) (loads : ℕ) → Loading P name next ending loads → Loading Q name after ending loads
loading_weaker P Q name next after weaker leads ending loads (there, is, h) = (there, weaker there is, by_found there h)
  where
    by_found : (there : FileFound) → AfterLoad name next there ending loads → AfterLoad name after there ending loads
    by_found found.Missing h = h
    by_found found.TooLong h = h
    by_found (found.Bytes bytes) h = (h.0, leads bytes ending h.0 h.1, h.2)

reading_weaker : (bytes : List ℕ) (next after : Config → List Contents → Extras → Ending → ℕ → Type 0) →
    ((its : Config) (image : List Contents) (extras : Extras) (ending : Ending) (loads : ℕ) →
    next its image extras ending loads →
    after its image extras ending loads) →
    (ending : Ending) (loads : ℕ) → ReadingOn bytes next ending loads → ReadingOn bytes after ending loads
reading_weaker bytes next after leads ending loads (read, reads, h) = (read, reads, by_read read h)
  where
    by_read : (read : Result (Config × List Contents × Extras) ImageError) → AfterReading next read ending loads →
        AfterReading after read ending loads
    by_read (Ok read) h = leads read.0 read.1 read.2 ending loads h
    by_read (Err rule) h = h

pub ending_weaker : (P Q : List ℕ → FileFound → Type 0) →
    ((name : List ℕ) (found : FileFound) → P name found → Q name found) →
    (task : Option Request) (ending : Ending) (loads : ℕ) → IsEnding task P ending loads → IsEnding task Q ending loads
ending_weaker P Q weaker None ending loads h = h
ending_weaker P Q weaker (Some (Format image its allowance)) ending loads h = h
ending_weaker P Q weaker (Some (Drive start count protocol)) ending loads h = h
ending_weaker P Q weaker (Some (Try commands)) ending loads h =
    loading_weaker P Q commands _ _ (weaker commands) (λ lines ending more h. h) ending loads h
ending_weaker P Q weaker (Some (Explain image)) ending loads h =
    loading_weaker P Q image _ _ (weaker image) (λ bytes ending more h. h) ending loads h
ending_weaker P Q weaker (Some (Retire image block)) ending loads h =
    loading_weaker P Q image _ _ (weaker image) (λ bytes ending more h. h) ending loads h
ending_weaker P Q weaker (Some (Run image commands)) ending loads h =
    loading_weaker P Q image _ _ (weaker image)
    (λ bytes. loading_weaker P Q commands _ _ (weaker commands) (λ lines ending more h. h)) ending loads h
ending_weaker P Q weaker (Some (Check image report)) ending loads h =
    loading_weaker P Q image _ _ (weaker image)
    (λ bytes. loading_weaker P Q report _ _ (weaker report) (λ text ending more h. h)) ending loads h
ending_weaker P Q weaker (Some (Keys image script)) ending loads h =
    loading_weaker P Q image _ _ (weaker image)
    (λ bytes. loading_weaker P Q script _ _ (weaker script) (λ lines ending more h. h)) ending loads h
ending_weaker P Q weaker (Some (Compare first second)) ending loads h =
    loading_weaker P Q first _ _ (weaker first)
    (λ bytes. reading_weaker bytes _ _
    (λ its image extras. loading_weaker P Q second _ _ (weaker second) (λ others ending more h. h))) ending loads h

-- what the desk and its disk tell of an ending, the desk tells
pub comes_seen : (task : Option Request) (old new : DeskState) (disk : Option History) (ending : Ending) →
    Comes task (FindsBoth old disk) old new ending →
    Comes task (Finds old) old new ending
comes_seen task old new disk ending (loads, is, at) =
    (loads, ending_weaker (FindsBoth old disk) (Finds old) (λ name found h. h.0) task ending loads is, at)
