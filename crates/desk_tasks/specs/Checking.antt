-- What a check of a report, and a comparison of two images, comes to.
use Rattle.std.specs.Prelude.{◌≡◌, ◌≢◌, ◌⊎◌, ℕ, ◌<◌, List, length, Option, None, Some, Result, Ok, Err}
use Rattle.tx_types.specs.declared.config.Config.{Config}
use Rattle.tx_types.specs.declared.config.Protocol.{Protocol}
use Rattle.flash_model.specs.Flash.{Contents}
use Rattle.record_list.specs.declared.found.Found.{Found}
use Rattle.judged_records.specs.Images.{array_in, records_in}
use Rattle.array_machine.specs.ArrayState.{Pages, page_at}
use Rattle.lane_scan.specs.Scans.{DifferFirstAt}
use Rattle.verdict_report.specs.Report.{pages, report}
use Rattle.verdict_check.specs.Texts.{IsFirstDifference}
use Rattle.desk_tasks.specs.Ending.{Ending, Good, WrongLine, Same, DifferShape, DifferBlank, DifferAt}

-- the text is the report on the records of this image, which explains so many pages; or this is the first line in
-- which the two differ, or which one of them alone has
abbrev pub Checks : Config → List Contents → List ℕ → Result ℕ ℕ → Type 0
Checks its image text (Ok n) =
    (text ≡ report its.protocol (records_in its.protocol image) its.logical)
    × (n ≡ length (pages (records_in its.protocol image) its.logical))
Checks its image text (Err k) =
    IsFirstDifference (report its.protocol (records_in its.protocol image) its.logical) text k

-- the same of a list of records, by the ending
abbrev pub ChecksList : Protocol → List Found → ℕ → List ℕ → Ending → Type 0
ChecksList protocol list logical text ending =
    ((n : ℕ) × (text ≡ report protocol list logical) × (n ≡ length (pages list logical)) × (ending ≡ Good n))
    ⊎ ((k : ℕ) × IsFirstDifference (report protocol list logical) text k × (ending ≡ WrongLine k))

abbrev pub check_ending : Result ℕ ℕ → Ending
check_ending (Ok n) = Good n
check_ending (Err k) = WrongLine k

-- the array of a device
abbrev pub array_of_device : Config → List Contents → Pages
array_of_device its image = array_in its.protocol its.logical image

-- two devices have as many pages, each of as many bytes
pub record HaveOneShape (a b : Config) : Type 0 where
  pub bytes : a.page_bytes ≡ b.page_bytes
  pub pages : a.logical ≡ b.logical

-- this page holds other bytes in the two arrays, or is blank in one alone, and none below it does
pub record IsFirstPage (a b : Pages) (page : ℕ) : Type 0 where
  pub here : page_at a page ≢ page_at b page
  pub before : (p : ℕ) → p < page → page_at a p ≡ page_at b p

-- two values of a page first differ at this byte
pub record DifferAtByte (a b : Option (List ℕ)) (at : ℕ) : Type 0 where
  pub bytes : List ℕ
  pub others : List ℕ
  pub first : a ≡ Some bytes
  pub second : b ≡ Some others
  pub differ : DifferFirstAt bytes others at

-- what comes of a comparison
pub data Comparison : Type 0 where
  OneArray : Comparison
  Shapes : Comparison
  BlankAt : (page : ℕ) → Comparison
  ByteAt : (page at : ℕ) → Comparison

-- the devices of two images compare so: their arrays are one, or their shapes differ, or else this is the first
-- page that differs, and where it is blank in neither, the first byte in it
abbrev pub Compares : Config → List Contents → Config → List Contents → Comparison → Type 0
Compares a image b other OneArray =
    HaveOneShape a b × (array_of_device a image ≡ array_of_device b other)
Compares a image b other Shapes = HaveOneShape a b → ⊥
Compares a image b other (BlankAt page) =
    HaveOneShape a b × (page < a.logical) × IsFirstPage (array_of_device a image) (array_of_device b other) page
    × ((page_at (array_of_device a image) page ≡ None) ⊎ (page_at (array_of_device b other) page ≡ None))
Compares a image b other (ByteAt page at) =
    HaveOneShape a b × (page < a.logical) × IsFirstPage (array_of_device a image) (array_of_device b other) page
    × DifferAtByte (page_at (array_of_device a image) page) (page_at (array_of_device b other) page) at

abbrev pub comparison_ending : Config → Comparison → Ending
comparison_ending a OneArray = Same a.logical
comparison_ending a Shapes = DifferShape
comparison_ending a (BlankAt page) = DifferBlank page
comparison_ending a (ByteAt page at) = DifferAt page at
