-- Which records are responsible for loose ones, found by what the loose ones ask for.
use Rattle.std.specs.Prelude.{◌≡◌, ℕ, max, ◌&&◌, nat_lt, if◌then◌else◌, List, length, slice_index_or, slice_set, position, Option, Some, None}
use Rattle.tx_types.specs.declared.config.Protocol.{Protocol}
use Rattle.tx_types.specs.declared.config.Protocol.TheVariants.{Scc, Bpcc}
use Rattle.tx_types.specs.declared.record.Link.{Link}
use Rattle.tx_types.specs.declared.record.Rec.{Rec}
use Rattle.sorted_records.specs.CurrentVersions.{CurrentVersionsState}
use Rattle.record_list.specs.declared.found.Found.{Found}
use Rattle.record_list.specs.Records.{greatest, has_name, is_same}
use Rattle.record_list.specs.Current.{is_loose, responsible}

-- the name of the record that is responsible for a loose one, if there is one; nothing for any other record
abbrev pub asked_in_bpcc : List Found → ℕ → Rec → Option Link
asked_in_bpcc list logical r =
    if is_loose Bpcc list logical r && nat_lt r.next.version (responsible Bpcc list logical r.next)
    then Some (record { page = r.next.page; version = responsible Bpcc list logical r.next }) else None

-- under Simple Cyclic Commit none is
abbrev pub asked_name : Protocol → List Found → ℕ → Rec → Option Link
asked_name Scc list logical r = None
asked_name Bpcc list logical r = asked_in_bpcc list logical r

-- the version of a link, where this name is the one that is asked for, else 0
abbrev pub if_asked : Link → Option Link → ℕ → ℕ
if_asked name None version = 0
if_asked name (Some asked) version = if is_same asked name then version else 0

-- the version at which a record links that asks for this name, 0 for any other one
abbrev pub asks_at : Protocol → List Found → ℕ → Link → Rec → ℕ
asks_at protocol list logical name r = if_asked name (asked_name protocol list logical r) r.next.version

-- the place of the first record of a name, if there is a name and a record
abbrev pub place_of_name : List Found → Option Link → Option ℕ
place_of_name list None = None
place_of_name list (Some name) = position (λ f. has_name name f.rec) list

-- for the first record of each name the greatest version at which one of these records links that asks for the name
pub record AreAsked (j : CurrentVersionsState) (some : List Found) (asked : List ℕ) : Type 0 where
  pub size : length asked ≡ length j.list
  pub each : (name : Link) (place none : ℕ) → position (λ f. has_name name f.rec) j.list ≡ Some place →
      slice_index_or asked place none ≡ greatest (asks_at j.protocol j.list j.logical name) some

-- numbers, of which that of a place, if there is a place, is raised to this one
abbrev pub raised : Option ℕ → ℕ → List ℕ → List ℕ
raised None version asked = asked
raised (Some place) version asked = slice_set asked place (max (slice_index_or asked place 0) version)
