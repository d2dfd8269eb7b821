-- The links that a walk takes, from the newest record of a page to the link that decides its verdict.
use Rattle.std.specs.Prelude.{◌≡◌, ℕ, zero, suc, ◌-◌, ◌≤◌, ◌<◌, Bool, true, false, ◌==◌, ◌||◌, ◌&&◌, not, if◌then◌else◌, List, [], ◌∷◌, length, slice_index_or}
use Rattle.tx_types.specs.declared.record.Link.{Link}
use Rattle.tx_types.specs.declared.config.Protocol.{Protocol}
use Rattle.record_list.specs.declared.found.Found.{Found}
use Rattle.record_list.specs.declared.found.Why.{Why}
use Rattle.record_list.specs.declared.found.Why.TheVariants.{Cycle, Absent}
use Rattle.record_list.specs.Records.{newest, is_present, is_same}
use Rattle.record_list.specs.Verdict.{newest_name, link_of, why_below_newest, is_ahead, is_behind, why}

-- whether a walk from the record `start` ends at this link
abbrev pub is_end : List Found → Link → Link → Bool
is_end list start link = is_ahead list link || is_behind list link || is_same link start

-- a link to the newest version of a page that has no record: no end, and the walk stays at it
abbrev pub stays_at : List Found → Link → Bool
stays_at list link =
    (link.version == newest list link.page) && not (is_present list (newest_name list link.page))

-- the links that a walk from the record `start` takes that has come to this link, and looks at this many links yet
abbrev pub walk_links : List Found → Link → ℕ → Link → List Link
walk_links list start zero link = []
walk_links list start (suc turns) link =
    link ∷ (if is_end list start link then [] else walk_links list start turns (link_of list link))

-- the links of the walk from the newest record of a page
abbrev pub links_of : List Found → ℕ → ℕ → List Link
links_of list logical page =
    walk_links list (newest_name list page) (suc logical) (link_of list (newest_name list page))

-- what the last link of a walk from the record `start` shows of that record
abbrev pub why_by_last_link : Protocol → List Found → Link → Link → Why
why_by_last_link protocol list start link =
    if is_ahead list link then Absent
    else if is_behind list link then why_below_newest protocol list link
    else if is_same link start then Cycle
    else Absent

-- links of a walk from the newest record of a page: the first is that record's own, each further one that
-- of the newest record to which the link before it leads, and the walk goes on from none at which it ends.
-- The last shows what decides the verdict, and is an end of the walk unless this took one link more than
-- there are pages.
pub record IsDecidingWalk
    (protocol : Protocol) (list : List Found) (logical page : ℕ) (links : List Link) : Type 0 where
  pub first : (none : Link) → slice_index_or links 0 none ≡ link_of list (newest_name list page)
  pub next : (i : ℕ) (none : Link) → suc i < length links →
      (is_end list (newest_name list page) (slice_index_or links i none) ≡ false)
      × (slice_index_or links (suc i) none ≡ link_of list (slice_index_or links i none))
  pub last : (none : Link) → why protocol list logical page
      ≡ why_by_last_link protocol list (newest_name list page) (slice_index_or links (length links - 1) none)
  pub whole : (none : Link) → length links ≤ logical →
      is_end list (newest_name list page) (slice_index_or links (length links - 1) none) ≡ true
  pub bound : (1 ≤ length links) × (length links ≤ suc logical)
