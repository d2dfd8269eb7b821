-- The current version of a page, and which records are current, loose, stale and held.
use Rattle.std.specs.Prelude.{◌≡◌, ℕ, ◌<◌, ◌==◌, Bool, false, ◌&&◌, nat_lt, nat_le, if◌then◌else◌, List}
use Rattle.std.specs.List.{list_any}
use Rattle.tx_types.specs.declared.record.Link.{Link}
use Rattle.tx_types.specs.declared.record.Rec.{Rec}
use Rattle.tx_types.specs.declared.config.Protocol.{Protocol}
use Rattle.tx_types.specs.declared.config.Protocol.TheVariants.{Scc, Bpcc}
use Rattle.record_list.specs.declared.found.Found.{Found}
use Rattle.record_list.specs.Records.{greatest, newest, next_older, mentions_below}
use Rattle.record_list.specs.Verdict.{newest_name, back_of, straddles, is_committed, why}

-- the version that counts where the newest record of a page does not
abbrev pub fallback : Protocol → List Found → ℕ → ℕ
fallback Scc list page = next_older list page (newest list page)
fallback Bpcc list page = back_of list (newest_name list page)

-- the current version of a page, 0 for none
abbrev pub cur : Protocol → List Found → ℕ → ℕ → ℕ
cur protocol list logical page =
    if is_committed (why protocol list logical page) then newest list page
    else fallback protocol list page

-- a record is current, loose or stale as its version is the current one of its page, or above it, or below
abbrev pub IsCurrent : Protocol → List Found → ℕ → Rec → Type 0
IsCurrent protocol list logical r = r.version ≡ cur protocol list logical r.page

abbrev pub IsLoose : Protocol → List Found → ℕ → Rec → Type 0
IsLoose protocol list logical r = cur protocol list logical r.page < r.version

abbrev pub IsStale : Protocol → List Found → ℕ → Rec → Type 0
IsStale protocol list logical r = r.version < cur protocol list logical r.page

abbrev pub is_loose : Protocol → List Found → ℕ → Rec → Bool
is_loose protocol list logical r = nat_lt (cur protocol list logical r.page) r.version

-- whether a record must go before a version of a page is programmed
abbrev pub must_go : Protocol → List Found → ℕ → ℕ → ℕ → Rec → Bool
must_go Scc list logical page below r = is_loose Scc list logical r && mentions_below page below r
must_go Bpcc list logical page below r = false

-- the version of a record, at most `top`, that straddles this name, else 0
abbrev pub straddling_upto : ℕ → Link → Rec → ℕ
straddling_upto top name r =
    if ((r.page == name.page) && straddles r name.version) && nat_le r.version top then r.version
    else 0

-- the version of the record that is responsible for loose records which link to this name, 0 for none
abbrev pub responsible : Protocol → List Found → ℕ → Link → ℕ
responsible protocol list logical name =
    greatest (straddling_upto (cur protocol list logical name.page) name) list

-- whether the record s is responsible for the record r: r is loose, s straddles its link, and s has the
-- greatest version that does so up to the current one of its page
abbrev pub answers_for : Protocol → List Found → ℕ → Rec → Rec → Bool
answers_for protocol list logical s r =
    is_loose protocol list logical r
    && (s.page == r.next.page)
    && straddles s r.next.version
    && (s.version == responsible protocol list logical r.next)

-- whether the record is responsible for some loose record; under Simple Cyclic Commit none is
abbrev pub is_held : Protocol → List Found → ℕ → Rec → Bool
is_held Scc list logical r = false
is_held Bpcc list logical r = list_any (λ f. answers_for Bpcc list logical r f.rec) list
