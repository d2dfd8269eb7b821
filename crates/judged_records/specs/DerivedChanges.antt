-- How what is derived from the noted records moves when they change, and when a record completes its cycle.
use Rattle.std.specs.Prelude.{◌≡◌, ◌≢◌, ℕ, zero, suc, ◌+◌, ◌<◌, ◌≤◌, ◌==◌, Bool, true, false, not, ◌&&◌, ◌||◌, if◌then◌else◌, List, [], ◌∷◌, length}
use Rattle.std.specs.Prelude.{slice_index_or, Option, Some, None, All, AllPairs, Contains, ◌↔◌}
use Rattle.tx_types.specs.declared.record.Link.{Link}
use Rattle.tx_types.specs.declared.record.Rec.{Rec}
use Rattle.tx_types.specs.declared.config.Protocol.{Protocol}
use Rattle.tx_types.specs.declared.config.Protocol.TheVariants.{Scc, Bpcc}
use Rattle.record_list.specs.declared.found.Found.{Found}
use Rattle.record_list.specs.Records.{newest, name_of, is_present, is_same}
use Rattle.record_list.specs.Verdict.{link_of}
use Rattle.judged_records.specs.Notes.{found_in}
use Rattle.judged_records.specs.IndexState.{IndexState, current_of, IsCompleteCycle}
use Rattle.judged_records.specs.Derived.{loose_of, answerer_of, waits_of, IsDerivedAlike, IsCommittedFor, IsNewlyLoose}

-- each current version stays
abbrev pub SameCurrents : IndexState → IndexState → Type 0
SameCurrents n m =
    (page : ℕ) → page < n.config.logical → current_of m page ≡ current_of n page

-- nothing that was derived moves: each current version stays, and what is derived of each record that is noted
-- afterwards is alike
pub record NothingMoves (n m : IndexState) : Type 0 where
  pub currents : SameCurrents n m
  pub records : All (λ f. IsDerivedAlike n m f.rec) (found_in m.notes)

-- what a record leaves that does not complete its cycle: nothing moves, and it waits
pub record IsOpenWrite (n m : IndexState) (rec : Rec) : Type 0 where
  pub nothing_moves : NothingMoves n m
  pub new : IsNewlyLoose m rec

-- no name of the list is of this page
abbrev pub IsOffPages : List Link → ℕ → Type 0
IsOffPages names page = All (λ name. name.page ≢ page) names

-- under Back Pointer Cyclic Commit a record waits for the page of this name
pub record AwaitsName (n : IndexState) (name : Link) (r : Rec) : Type 0 where
  pub protocol : n.config.protocol ≡ Bpcc
  pub page : r.next.page ≡ name.page
  pub waits : waits_of n r ≡ true

-- the record of this name answers for it, which is loose as before and waits no more
pub record IsAnsweredBy (n m : IndexState) (name : Link) (r : Rec) : Type 0 where
  pub loose : loose_of m r ≡ loose_of n r
  pub answerer : answerer_of m r ≡ Some name
  pub waits : waits_of m r ≡ false

-- what a record leaves that completes its cycle
pub record IsWholeWrite (n m : IndexState) (names : List Link) : Type 0 where
  -- each name is current, and its page was current at a lower version
  pub committed : All (λ name. current_of m name.page ≡ name.version) names
  pub rises : All (λ name. current_of n name.page < name.version) names
  -- each other page is current as it was
  pub elsewhere :
      (page : ℕ) → page < n.config.logical → IsOffPages names page →
      current_of m page ≡ current_of n page
  -- no record of the names' pages is loose
  pub settled :
      All (λ f. All (λ name. name.page ≡ f.rec.page → IsCommittedFor m f.rec) names) (found_in m.notes)
  -- each record of another page that waited for the page of a name is answered by the name's record
  pub answered :
      All (λ f. IsOffPages names f.rec.page →
      All (λ name. AwaitsName n name f.rec → IsAnsweredBy n m name f.rec) names) (found_in m.notes)
  -- and what is derived of each other record of another page stays
  pub others :
      All (λ f. IsOffPages names f.rec.page →
      All (λ name. AwaitsName n name f.rec → ⊥) names → IsDerivedAlike n m f.rec) (found_in m.notes)

-- whether links lead back to this name, each to the newest record of its page, within this many of them
abbrev pub comes_back : List Found → Link → ℕ → Link → Bool
comes_back list start zero link = false
comes_back list start (suc turns) link =
    (newest list link.page == link.version)
    && (is_same link start || comes_back list start turns (link_of list link))

-- whether a noted record completes its cycle: its links lead back to it over the newest records of as many
-- pages as there are at most
unfoldable pub completes : IndexState → Rec → Bool
completes n r = comes_back (found_in n.notes) (name_of r) n.config.logical r.next

-- the names of a complete cycle in the order of their links, from this one on
pub record IsRound (n : IndexState) (names : List Link) (start : Link) (round : List Link) : Type 0 where
  pub rest : List Link
  pub first : round ≡ start ∷ rest
  pub short : length round ≤ n.config.logical
  pub same : (name : Link) → Contains names name ↔ Contains round name
  pub apart : AllPairs (λ a b. a.page ≢ b.page) round
  pub cycle : IsCompleteCycle n round

-- A round by the indices of its names, with the first name behind the last: each is the newest record of its
-- page and links to the next, and only there the first comes again.
pub record IsRoundByIndex (n : IndexState) (start : Link) (round : List Link) : Type 0 where
  pub first : slice_index_or round 0 start ≡ start
  pub last : slice_index_or round (length round) start ≡ start
  pub before : (i : ℕ) → 0 < i → i < length round →
      (slice_index_or round i start).page ≢ start.page
  pub top : (i : ℕ) → i < length round →
      (is_present (found_in n.notes) (slice_index_or round i start) ≡ true)
      × (newest (found_in n.notes) (slice_index_or round i start).page
      ≡ (slice_index_or round i start).version)
  pub link : (i : ℕ) → i < length round →
      link_of (found_in n.notes) (slice_index_or round i start) ≡ slice_index_or round (i + 1) start

-- the current version of each page, and of each record its answerer and whether it waits
pub record Derived : Type 0 where
  pub current : ℕ → ℕ
  pub answerer : Rec → Option Link
  pub waits : Rec → Bool

abbrev pub derived_of : IndexState → Derived
derived_of n = record { current = current_of n; answerer = answerer_of n; waits = waits_of n }

-- what is derived from the notes
pub record IsDerivedAs (n : IndexState) (j : Derived) : Type 0 where
  pub current : (page : ℕ) → page < n.config.logical → current_of n page ≡ j.current page
  pub answerer : All (λ f. answerer_of n f.rec ≡ j.answerer f.rec) (found_in n.notes)
  pub waits : All (λ f. waits_of n f.rec ≡ j.waits f.rec) (found_in n.notes)

-- the page of this name is current at its version: no record of the page waits or has an answerer
abbrev pub with_current : Link → Derived → Derived
with_current name j = record {
  current = λ page. if page == name.page then name.version else j.current page;
  answerer = λ r. if r.page == name.page then None else j.answerer r;
  waits = λ r. not (r.page == name.page) && j.waits r;
}

-- the record of this name answers for each record that waits for the name's page, which waits no more
abbrev pub with_answers : Link → Derived → Derived
with_answers name j = record {
  current = j.current;
  answerer = λ r. if (r.next.page == name.page) && j.waits r then Some name else j.answerer r;
  waits = λ r. not (r.next.page == name.page) && j.waits r;
}

-- one name after the other is current
abbrev pub all_current : List Link → Derived → Derived
all_current [] j = j
all_current (name ∷ names) j = all_current names (with_current name j)

-- one after the other answers
abbrev pub all_answered : List Link → Derived → Derived
all_answered [] j = j
all_answered (name ∷ names) j = all_answered names (with_answers name j)

-- the names' cycle is whole: they are current, and under Back Pointer Cyclic Commit they answer
abbrev pub once_whole : Protocol → List Link → Derived → Derived
once_whole Scc names j = all_current names j
once_whole Bpcc names j = all_answered names (all_current names j)
