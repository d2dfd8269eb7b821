-- The verdict on the newest record of a page, which a walk along the links finds.
use Rattle.std.specs.Prelude.{ℕ, zero, suc, ◌==◌, Bool, true, false, ◌&&◌, nat_lt, if◌then◌else◌, List, [], ◌∷◌}
use Rattle.tx_types.specs.declared.record.Link.{Link}
use Rattle.tx_types.specs.declared.record.Rec.{Rec}
use Rattle.tx_types.specs.declared.config.Protocol.{Protocol}
use Rattle.tx_types.specs.declared.config.Protocol.TheVariants.{Scc, Bpcc}
use Rattle.record_list.specs.declared.found.Found.{Found}
use Rattle.record_list.specs.declared.found.Why.{Why}
use Rattle.record_list.specs.declared.found.Why.TheVariants.{Cycle, Passed, Absent, Straddled}
use Rattle.record_list.specs.declared.found.Verdict.{Verdict}
use Rattle.record_list.specs.declared.found.Verdict.TheVariants.{Committed, Uncommitted}
use Rattle.record_list.specs.Records.{greatest, newest, has_name, is_same}

-- the name of the newest record of a page
abbrev pub newest_name : List Found → ℕ → Link
newest_name list page = record { page = page; version = newest list page }

-- the first record with this name, and where no record has it one that links to itself and has nothing else
abbrev pub record_named : List Found → Link → Rec
record_named [] name = record {
  page = name.page;
  version = name.version;
  next = name;
  back = 0;
  count = 0;
  discard = false;
}
record_named (f ∷ fs) name = if has_name name f.rec then f.rec else record_named fs name

-- the link of the first record with this name, and the name itself where no record has it
abbrev pub link_of : List Found → Link → Link
link_of [] name = name
link_of (f ∷ fs) name = if has_name name f.rec then f.rec.next else link_of fs name

-- the back version of the first record with this name, 0 where no record has it
abbrev pub back_of : List Found → Link → ℕ
back_of [] name = 0
back_of (f ∷ fs) name = if has_name name f.rec then f.rec.back else back_of fs name

-- a version between a record's back version and its own
abbrev pub straddles : Rec → ℕ → Bool
straddles r version = nat_lt r.back version && nat_lt version r.version

-- the version of a record that straddles this name, else 0
abbrev pub straddling_version : Link → Rec → ℕ
straddling_version name r =
    if (r.page == name.page) && straddles r name.version then r.version else 0

-- the greatest version that straddles this name, 0 for none
abbrev pub straddling : List Found → Link → ℕ
straddling list name = greatest (straddling_version name) list

-- what a link below the newest version of its page shows
abbrev pub why_below_newest : Protocol → List Found → Link → Why
why_below_newest Scc list link = Passed
why_below_newest Bpcc list link =
    if straddling list link == 0 then Passed else Straddled (straddling list link)

-- a link to a version above, or below, the newest of its page
abbrev pub is_ahead : List Found → Link → Bool
is_ahead list link = nat_lt (newest list link.page) link.version

abbrev pub is_behind : List Found → Link → Bool
is_behind list link = nat_lt link.version (newest list link.page)

-- how a walk from the record `start` ends that has come to this link, and looks at this many links yet
abbrev pub walk : Protocol → List Found → Link → ℕ → Link → Why
walk protocol list start zero link = Absent
walk protocol list start (suc turns) link =
    if is_ahead list link then Absent
    else if is_behind list link then why_below_newest protocol list link
    else if is_same link start then Cycle
    else walk protocol list start turns (link_of list link)

-- what decides the verdict on the newest record of a page
abbrev pub why : Protocol → List Found → ℕ → ℕ → Why
why protocol list logical page =
    walk protocol list (newest_name list page) (suc logical) (link_of list (newest_name list page))

abbrev pub is_committed : Why → Bool
is_committed Cycle = true
is_committed Passed = true
is_committed Absent = false
is_committed (Straddled version) = false

abbrev pub verdict_of : Why → Verdict
verdict_of Cycle = Committed
verdict_of Passed = Committed
verdict_of Absent = Uncommitted
verdict_of (Straddled version) = Uncommitted
