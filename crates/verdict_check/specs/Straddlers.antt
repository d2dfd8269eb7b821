-- Which records straddle the links of newest records, and how the pages of these are chained by the pages to which
-- they lead.
use Rattle.std.specs.Prelude.{◌≡◌, ◌≢◌, ℕ, ◌<◌, ◌≤◌, ◌==◌, max, Option, None, Some, List, take, length, if◌then◌else◌}
use Rattle.tx_types.specs.declared.record.Link.{Link}
use Rattle.tx_types.specs.declared.record.Rec.{Rec}
use Rattle.tx_types.specs.declared.config.Protocol.{Protocol}
use Rattle.tx_types.specs.declared.config.Protocol.TheVariants.{Scc, Bpcc}
use Rattle.record_list.specs.declared.found.Found.{Found}
use Rattle.record_list.specs.declared.found.Why.{Why}
use Rattle.record_list.specs.declared.found.Why.TheVariants.{Passed, Straddled}
use Rattle.record_list.specs.Records.{record_at}
use Rattle.record_list.specs.Verdict.{newest_name, link_of, is_behind, straddling, straddling_version}
use Rattle.verdict_check.specs.Older.{version_at}
use Rattle.verdict_check.specs.Places.{IsNewestAt, place_at}

-- the link of the newest record of a page
abbrev pub newest_link : List Found → ℕ → Link
newest_link list page = link_of list (newest_name list page)

-- the page to which this link leads, where that is below the newest version there
abbrev pub page_behind : List Found → ℕ → Option ℕ
page_behind list page =
    if is_behind list (newest_link list page) then Some (newest_link list page).page else None

-- ---- chains

-- the last of this many pages from which the newest record leads behind into this one; nothing where none does
abbrev pub IsLastInto : List Found → ℕ → ℕ → Option ℕ → Type 0
IsLastInto list into count None = (page : ℕ) → page < count → page_behind list page ≢ Some into
IsLastInto list into count (Some last) =
    (last < count) × (page_behind list last ≡ Some into)
    × ((page : ℕ) → last < page → page < count → page_behind list page ≢ Some into)

-- a table has that of each page
abbrev pub AreLast : List Found → ℕ → List (Option ℕ) → Type 0
AreLast list count last = (into : ℕ) → into < length last → IsLastInto list into count (place_at last into)

-- and another one has, of each of this many pages that leads behind, the last one before it that leads into the same
abbrev pub AreBefore : List Found → ℕ → List (Option ℕ) → Type 0
AreBefore list count before =
    (page into : ℕ) → page < count → page_behind list page ≡ Some into →
    IsLastInto list into page (place_at before page)

-- ---- versions

-- of each of this many pages a table has the greatest version, among this many records of the list, that straddles the
-- link of its newest record, 0 for none
abbrev pub AreStraddlersOf : List Found → ℕ → ℕ → List ℕ → Type 0
AreStraddlersOf list count logical straddlers =
    (page : ℕ) → page < logical →
    version_at straddlers page ≡ straddling (take count list) (newest_link list page)

-- a table takes in the version of a record, for this page
abbrev pub TakesIn : List Found → Rec → List ℕ → List ℕ → ℕ → Type 0
TakesIn list r old new page =
    version_at new page ≡ max (version_at old page) (straddling_version (newest_link list page) r)

-- it does for all pages above this one of a chain, and not yet for this one and those below it; for all where none is
-- left
abbrev pub TakesInFrom : List Found → ℕ → Rec → List ℕ → List ℕ → Option ℕ → Type 0
TakesInFrom list logical r old new None = (page : ℕ) → page < logical → TakesIn list r old new page
TakesInFrom list logical r old new (Some at) =
    (at < logical) × (page_behind list at ≡ Some r.page)
    × ((page : ℕ) → at < page → page < logical → TakesIn list r old new page)
    × ((page : ℕ) → page ≤ at → version_at new page ≡ version_at old page)

-- of the page of each newest record a table has the greatest version that straddles the link of that
abbrev pub AreStraddlers : List Found → List ℕ → Type 0
AreStraddlers list straddlers =
    (at : ℕ) → at < length list → IsNewestAt list at →
    version_at straddlers (record_at list at).page ≡ straddling list (record_at list at).next

-- what a link behind shows, by the greatest version that straddles it
abbrev pub behind_shows : Protocol → ℕ → Why
behind_shows Scc version = Passed
behind_shows Bpcc version = if version == 0 then Passed else Straddled version
