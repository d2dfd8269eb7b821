-- What searches among the records of a scan find.
use Rattle.std.specs.Prelude.{◌≡◌, ℕ, suc, ◌<◌, ◌≤◌, ◌-◌, Bool, true, false, ◌&&◌, not, Option, None, Some, List, length, slice_index_or}
use Rattle.std.specs.Prelude.{slice_set, All, Any, Contains}
use Rattle.tx_types.specs.declared.config.Protocol.TheVariants.{Scc}
use Rattle.tx_types.specs.declared.config.Slot.{Slot}
use Rattle.tx_types.specs.declared.record.Link.{Link}
use Rattle.tx_types.specs.declared.record.Rec.{Rec}
use Rattle.record_list.specs.declared.found.Found.{Found}
use Rattle.record_list.specs.Counts.{KeepsCount}
use Rattle.record_list.specs.Records.{name_of, has_name, is_same, is_present, record_at, nothing}
use Rattle.record_list.specs.SoundList.{follow, CurrentIsPresent, LinkHasCounted, LooseIsShown, LooseEnds}
use Rattle.sorted_records.specs.SortedRecords.{is_below}
use Rattle.sorted_records.specs.CurrentVersions.{CurrentVersionsState}
use Rattle.sorted_records.specs.declared.orbit.Orbit.{Orbit}
use Rattle.sorted_records.specs.Orbits.{AreOrbits}
use Rattle.sorted_records.specs.NameGraph.{name_graph}
use Rattle.scan_recovery.specs.declared.own_links.AbsentLinks.{AbsentLinks}

-- the lowest slot of a record of which the fact does not hold, nothing where it holds of each
abbrev pub FindsLowest : (Found → Type 0) → List Found → Option Slot → Type 0
FindsLowest P list None = All P list
FindsLowest P list (Some slot) =
    Any (λ f. (f.slot.0 ≡ slot.0) × (P f → ⊥)) list × All (λ f. f.slot.0 < slot.0 → P f) list

-- two records have one link and two names
abbrev pub share_link : Rec → Rec → Bool
share_link r s = is_same r.next s.next && not (has_name (name_of s) r)

-- the lowest slot of these numbers of which the fact holds, nothing where it holds of none
abbrev pub IsLowestBelow : ℕ → (ℕ → Type 0) → (ℕ → Slot) → Option Slot → Type 0
IsLowestBelow n P slot_of None = (k : ℕ) → k < n → P k → ⊥
IsLowestBelow n P slot_of (Some slot) =
    ((k : ℕ) × (k < n) × P k × (slot_of k ≡ slot)) × ((k : ℕ) → k < n → P k → slot.0 ≤ (slot_of k).0)

-- the record after this place has the link of the one at it, and another name
abbrev pub NextShares : List Found → ℕ → Type 0
NextShares list k = share_link (record_at list k) (record_at list (suc k)) ≡ true

abbrev pub next_slot : List Found → ℕ → Slot
next_slot list k = (slice_index_or list (suc k) nothing).slot

-- the lowest slot, up to this place, of a record that has the link of the one before it, and another name
abbrev pub IsLowestSharer : List Found → ℕ → Option Slot → Type 0
IsLowestSharer list end lowest = IsLowestBelow (end - 1) (NextShares list) (next_slot list) lowest

-- the links from a name lead to an absent one
abbrev pub LeadsOut : List Found → Link → Type 0
LeadsOut list name = (n : ℕ) × (is_present list (follow list name n) ≡ false)

-- the orbits of all links are known, or the protocol is the one of which law 7 does not speak
abbrev pub KnowsOrbits : CurrentVersionsState → Option (List Orbit) → Type 0
KnowsOrbits s None = s.protocol ≡ Scc
KnowsOrbits s (Some orbits) = AreOrbits (name_graph s.list) orbits

-- any two records with one link have one name
abbrev pub HaveOwnLinks : List Found → Type 0
HaveOwnLinks list = (i j : ℕ) → i < length list → j < length list →
    (record_at list i).next ≡ (record_at list j).next → name_of (record_at list i) ≡ name_of (record_at list j)

-- any two of the first records whose links lead to one place have one name
abbrev pub AreLinkedOnce : List Found → ℕ → Type 0
AreLinkedOnce list n = (i j place : ℕ) → slice_index_or (name_graph list) i None ≡ Some place → i < n →
    slice_index_or (name_graph list) j None ≡ Some place → j < n →
    name_of (record_at list i) ≡ name_of (record_at list j)

-- the places to which the links of the first records lead are marked
abbrev pub AreTargetsMarked : List Found → List Bool → ℕ → Type 0
AreTargetsMarked list linked n = (k place : ℕ) → k < n → slice_index_or (name_graph list) k None ≡ Some place →
    slice_index_or linked place false ≡ true

-- the record before this one has its name, and leads to this place
pub record IsAsBefore (list : List Found) (targets : List (Option ℕ)) (place at : ℕ) : Type 0 where
  pub some : 0 < at
  pub there : slice_index_or targets (at - 1) None ≡ Some place
  pub name : has_name (name_of (record_at list at)) (record_at list (at - 1)) ≡ true

-- a place to which the link of a record leads is marked, where it is not; where it is, whether the record is as the
-- one before
abbrev pub NotesLink : List Found → List (Option ℕ) → List Bool → List Bool → ℕ → ℕ → Bool → Bool → Type 0
NotesLink list targets old new place at false once = (new ≡ slice_set old place true) × (once ≡ true)
NotesLink list targets old new place at true once = (new ≡ old) × (once ≡ true → IsAsBefore list targets place at)

-- any two of the first records that have one link, which leads to no record, have one name
abbrev pub AreAbsentOnce : List Found → ℕ → Type 0
AreAbsentOnce list n = (i j : ℕ) → i < n → j < n → slice_index_or (name_graph list) i None ≡ None →
    slice_index_or (name_graph list) j None ≡ None → (record_at list i).next ≡ (record_at list j).next →
    name_of (record_at list i) ≡ name_of (record_at list j)

-- a link is above another one, if there is one
abbrev pub is_above : Option Link → Link → Bool
is_above None link = true
is_above (Some top) link = is_below top link

-- a link is none but this one or below it
abbrev pub IsUpTo : Option Link → Link → Type 0
IsUpTo None link = ⊥
IsUpTo (Some top) link = is_below top link ≡ false

-- the links of the first records that lead to no record go up to this one
abbrev pub IsTop : List Found → ℕ → Option Link → Type 0
IsTop list n top = (k : ℕ) → k < n → slice_index_or (name_graph list) k None ≡ None → IsUpTo top (record_at list k).next

-- so are the links of the first records that lead to no record, if they rise
pub record AreAbsentTo (list : List Found) (n : ℕ) (absent : AbsentLinks) : Type 0 where
  pub top : absent.rise ≡ true → IsTop list n absent.top
  pub once : absent.rise ≡ true → AreAbsentOnce list n

-- among these are those of the first records whose link leads to no record
abbrev pub HasAbsent : List Found → ℕ → List Found → Type 0
HasAbsent list n absent = (k : ℕ) → k < n → slice_index_or (name_graph list) k None ≡ None →
    Contains absent (slice_index_or list k nothing)

-- a record keeps laws 4 to 7
pub record KeepsLaws (s : CurrentVersionsState) (f : Found) : Type 0 where
  pub present : CurrentIsPresent s.protocol s.list s.logical f
  pub counted : LinkHasCounted s.protocol s.list s.logical f
  pub shown : LooseIsShown s.protocol s.list s.logical f
  pub ends : LooseEnds s.protocol s.list s.logical f

-- each of these records does
abbrev pub KeepLaws : CurrentVersionsState → List Found → Type 0
KeepLaws s records = All (KeepsLaws s) records

-- a record keeps law 9, or has no count, where no orbits are known
abbrev pub HasCountKept : Option (List Orbit) → List Found → Found → Type 0
HasCountKept None list f = f.rec.count ≡ 0
HasCountKept (Some _) list f = KeepsCount list f

-- each record does
abbrev pub KeepCounts : Option (List Orbit) → List Found → Type 0
KeepCounts orbits list = All (HasCountKept orbits list) list

-- the records keep laws 3 to 7 and 9
pub record AreLawful (s : CurrentVersionsState) (orbits : Option (List Orbit)) : Type 0 where
  pub laws : KeepLaws s s.list
  pub counts : KeepCounts orbits s.list
  pub links : HaveOwnLinks s.list
