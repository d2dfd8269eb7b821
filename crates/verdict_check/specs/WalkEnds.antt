-- Where the links of newest records lead.
use Rattle.std.specs.Prelude.{◌≡◌, ◌≢◌, ℕ, suc, ◌<◌, ◌≤◌, Option, None, Some, List, length, slice_index_or}
use Rattle.tx_types.specs.declared.config.Protocol.{Protocol}
use Rattle.record_list.specs.declared.found.Found.{Found}
use Rattle.record_list.specs.declared.found.Why.{Why}
use Rattle.record_list.specs.declared.found.Why.TheVariants.{Cycle, Absent}
use Rattle.record_list.specs.Records.{record_at}
use Rattle.sorted_records.specs.SortedRecords.{link_graph, ending}
use Rattle.sorted_records.specs.Orbits.{steps, IsEnd, IsRound}
use Rattle.verdict_check.specs.declared.walk_end.WalkEnd.{WalkEnd}
use Rattle.verdict_check.specs.declared.walk_end.WalkEnd.TheVariants.{Ends, Round, Long}
use Rattle.verdict_check.specs.Places.{newest_place, IsNewestAt}

-- from a node of a graph one does not come to an end in this many steps, nor back
pub record GoesOn (graph : List (Option ℕ)) (i many : ℕ) : Type 0 where
  pub on : (k : ℕ) → k ≤ many → steps graph k i ≢ None
  pub never : (k : ℕ) → 0 < k → k ≤ many → steps graph k i ≢ Some i

-- the walk end from a place, where a walk looks at one link more than there are pages
abbrev pub IsWalkEnd : List Found → ℕ → ℕ → WalkEnd → Type 0
IsWalkEnd list logical place (Ends after at) = IsEnd (link_graph list) place after at × (after ≤ logical)
IsWalkEnd list logical place (Round links) = IsRound (link_graph list) place links × (links ≤ suc logical)
IsWalkEnd list logical place Long = GoesOn (link_graph list) place (suc logical)

-- the walk end from the newest record of a page
abbrev pub IsWalkEndOf : List Found → ℕ → ℕ → WalkEnd → Type 0
IsWalkEndOf list logical page course =
    (place : ℕ) × (newest_place list page ≡ Some place) × IsWalkEnd list logical place course

-- the place of a walk end is that of a newest record of the list
abbrev pub EndsWithin : List Found → WalkEnd → Type 0
EndsWithin list (Ends after at) = (at < length list) × IsNewestAt list at
EndsWithin list (Round links) = Unit {0}
EndsWithin list Long = Unit {0}

-- the links up to a walk end are one more than there are pages, or fewer
abbrev pub IsCounted : ℕ → WalkEnd → Type 0
IsCounted logical (Ends after at) = after ≤ logical
IsCounted logical (Round links) = links ≤ suc logical
IsCounted logical Long = Unit {0}

-- what a walk end shows of the record at which the walk begins
abbrev pub shown_by : Protocol → List Found → WalkEnd → Why
shown_by protocol list (Ends after at) = ending protocol list (record_at list at).next
shown_by protocol list (Round links) = Cycle
shown_by protocol list Long = Absent

-- how many links a walk along it looks at
abbrev pub links_by : ℕ → WalkEnd → ℕ
links_by logical (Ends after at) = suc after
links_by logical (Round links) = links
links_by logical Long = suc logical

-- what a table says of a page
abbrev pub walk_end_at : List (Option WalkEnd) → ℕ → Option WalkEnd
walk_end_at courses page = slice_index_or courses page None

-- what a table says of walk ends is so
abbrev pub AreWalkEnds : List Found → ℕ → List (Option WalkEnd) → Type 0
AreWalkEnds list logical courses =
    (page : ℕ) (course : WalkEnd) → walk_end_at courses page ≡ Some course → IsWalkEndOf list logical page course
