-- The laws of a sound list of records, each as a fact on one record of the list. The slot that a law names is the least
-- slot of a record that breaks it.
use Rattle.std.specs.Prelude.{◌≡◌, ◌≢◌, ℕ, zero, suc, ◌<◌, ◌≤◌, ◌⊎◌, true, false, Option, MatchOption, List, All, Any}
use Rattle.tx_types.specs.declared.record.Link.{Link}
use Rattle.tx_types.specs.declared.config.Protocol.{Protocol}
use Rattle.tx_types.specs.declared.config.Protocol.TheVariants.{Scc, Bpcc}
use Rattle.record_list.specs.declared.found.Found.{Found}
use Rattle.record_list.specs.declared.found.Breach.{Breach}
use Rattle.record_list.specs.Records.{newest, name_of, is_present}
use Rattle.record_list.specs.Verdict.{link_of, straddling}
use Rattle.record_list.specs.Current.{cur, IsCurrent, IsLoose, responsible}

-- its own page exists, wherever its link leads
abbrev pub OwnPageExists : ℕ → Found → Type 0
OwnPageExists logical f = f.rec.page < logical

-- law 1: its page and its link's page exist
abbrev pub PagesExist : ℕ → Found → Type 0
PagesExist logical f = (f.rec.page < logical) × (f.rec.next.page < logical)

-- law 2: it is equal to each earlier record of its name
abbrev pub CopiesAgree : List Found → Found → Type 0
CopiesAgree list f =
    All (λ g. g.slot.0 < f.slot.0 → name_of g.rec ≡ name_of f.rec → g.rec ≡ f.rec) list

-- law 3: an earlier record with its link has its name
abbrev pub LinksDiffer : List Found → Found → Type 0
LinksDiffer list f =
    All (λ g. g.slot.0 < f.slot.0 → g.rec.next ≡ f.rec.next → name_of g.rec ≡ name_of f.rec) list

-- the name of the current record of a page
abbrev pub current_name : Protocol → List Found → ℕ → ℕ → Link
current_name protocol list logical page =
    record { page = page; version = cur protocol list logical page }

-- law 4: where it is the newest of its page, the current version of its page is 0 or present
abbrev pub CurrentIsPresent : Protocol → List Found → ℕ → Found → Type 0
CurrentIsPresent protocol list logical f =
    f.rec.version ≡ newest list f.rec.page →
    (cur protocol list logical f.rec.page ≡ 0)
    ⊎ (is_present list (current_name protocol list logical f.rec.page) ≡ true)

-- law 5: where it is current, its link is not above the current version there, and under Back Pointer Cyclic Commit is
-- not straddled
unfoldable pub LinkHasCounted : Protocol → List Found → ℕ → Found → Type 0
LinkHasCounted Scc list logical f =
    IsCurrent Scc list logical f.rec → f.rec.next.version ≤ cur Scc list logical f.rec.next.page
LinkHasCounted Bpcc list logical f =
    IsCurrent Bpcc list logical f.rec →
    (f.rec.next.version ≤ cur Bpcc list logical f.rec.next.page) × (straddling list f.rec.next ≡ 0)

-- law 6: where it is loose, its back version is the current one of its page, its link is not to a current record, and
-- where its link is below the current version there, a record is responsible for it
unfoldable pub LooseIsShown : Protocol → List Found → ℕ → Found → Type 0
LooseIsShown Scc list logical f = Unit {0}
LooseIsShown Bpcc list logical f =
    IsLoose Bpcc list logical f.rec →
    (f.rec.back ≡ cur Bpcc list logical f.rec.page)
    × (f.rec.next.version ≢ cur Bpcc list logical f.rec.next.page)
    × (f.rec.next.version < cur Bpcc list logical f.rec.next.page →
    responsible Bpcc list logical f.rec.next ≢ 0)

-- the name that this many links lead to; an absent name leads no further
abbrev pub follow : List Found → Link → ℕ → Link
follow list name zero = name
follow list name (suc n) = follow list (link_of list name) n

-- law 7: where it is loose, its links lead to an absent name
unfoldable pub LooseEnds : Protocol → List Found → ℕ → Found → Type 0
LooseEnds Scc list logical f = Unit {0}
LooseEnds Bpcc list logical f =
    IsLoose Bpcc list logical f.rec →
    ((n : ℕ) × (is_present list (follow list f.rec.next n) ≡ false))

pub data Law : Type 0 where
  Pages Copies Links Present Counted Loose Ending : Law

abbrev pub number : Law → ℕ
number Pages = 1
number Copies = 2
number Links = 3
number Present = 4
number Counted = 5
number Loose = 6
number Ending = 7

-- a record keeps the law
abbrev pub Keeps : Protocol → List Found → ℕ → Law → Found → Type 0
Keeps protocol list logical Pages f = PagesExist logical f
Keeps protocol list logical Copies f = CopiesAgree list f
Keeps protocol list logical Links f = LinksDiffer list f
Keeps protocol list logical Present f = CurrentIsPresent protocol list logical f
Keeps protocol list logical Counted f = LinkHasCounted protocol list logical f
Keeps protocol list logical Loose f = LooseIsShown protocol list logical f
Keeps protocol list logical Ending f = LooseEnds protocol list logical f

-- each record keeps each law
abbrev pub IsSoundList : Protocol → List Found → ℕ → Type 0
IsSoundList protocol list logical = (law : Law) → All (Keeps protocol list logical law) list

-- the first law that is broken, and the slot that it names
pub record IsLeastBreach (protocol : Protocol) (list : List Found) (logical : ℕ)
    (b : Breach) : Type 0 where
  pub law : Law
  pub law_number : number law ≡ b.law
  pub breaks : Any (λ f. (f.slot.0 ≡ b.slot.0) × (Keeps protocol list logical law f → ⊥)) list
  pub earlier_laws : (l : Law) → number l < number law → All (Keeps protocol list logical l) list
  pub earlier_slots : All (λ f. f.slot.0 < b.slot.0 → Keeps protocol list logical law f) list

-- the first law that is broken with the slot that it names, nothing where the list is sound
abbrev pub IsFirstBreach : Protocol → List Found → ℕ → Option Breach → Type 0
IsFirstBreach protocol list logical breach =
    MatchOption breach (IsSoundList protocol list logical) (IsLeastBreach protocol list logical)
