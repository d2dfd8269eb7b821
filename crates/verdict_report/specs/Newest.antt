-- A table of the newest record of each page.
use Rattle.std.specs.Prelude.{◌≡◌, ℕ, nat_lt, if◌then◌else◌, Option, Some, None, is_some, List, slice_index_or}
use Rattle.tx_types.specs.declared.record.Link.{Link}
use Rattle.tx_types.specs.declared.record.Rec.{Rec}
use Rattle.record_list.specs.declared.found.Found.{Found}
use Rattle.record_list.specs.Records.{newest, is_present}
use Rattle.record_list.specs.Verdict.{newest_name, link_of, back_of}
use Rattle.verdict_report.specs.Report.{has_record}

-- the version, the link and the back version of a record; without one, those of an absent name
abbrev pub version_in : Option Rec → ℕ
version_in None = 0
version_in (Some r) = r.version

abbrev pub link_in : Link → Option Rec → Link
link_in name None = name
link_in name (Some r) = r.next

abbrev pub back_in : Option Rec → ℕ
back_in None = 0
back_in (Some r) = r.back

-- this is the newest record of a page, where it has several slots that of the lowest; nothing where the
-- page has none
pub record IsNewestRecord (list : List Found) (page : ℕ) (kept : Option Rec) : Type 0 where
  pub found : is_some kept ≡ has_record list page
  pub present : is_some kept ≡ is_present list (newest_name list page)
  pub version : version_in kept ≡ newest list page
  pub link : link_in (newest_name list page) kept ≡ link_of list (newest_name list page)
  pub back : back_in kept ≡ back_of list (newest_name list page)

-- the record that a table keeps of a page
abbrev pub kept_at : List (Option Rec) → ℕ → Option Rec
kept_at records page = slice_index_or records page None

-- a table keeps the newest record of each page
abbrev pub KeepsNewest : List Found → List (Option Rec) → Type 0
KeepsNewest list records = (page : ℕ) → IsNewestRecord list page (kept_at records page)

-- the newer of the record that is kept of a page and a later one in the list; of two equally new ones
-- the kept one
abbrev pub newer : Option Rec → Rec → Option Rec
newer None r = Some r
newer (Some kept) r = if nat_lt kept.version r.version then Some r else Some kept
