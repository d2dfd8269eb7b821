-- Law 9, on how many records a transaction has, as a fact on one record of the list, and what keeps it; the
-- discards of a transaction.
use Rattle.std.specs.Prelude.{◌≡◌, ◌≢◌, ℕ, ◌<◌, ◌≤◌, Bool, Option, MatchOption, List, All, Any, Contains}
use Rattle.std.specs.List.{zip}
use Rattle.tx_types.specs.declared.record.Link.{Link}
use Rattle.tx_types.specs.declared.record.Rec.{Rec}
use Rattle.tx_types.specs.declared.config.Protocol.{Protocol}
use Rattle.record_list.specs.declared.found.Found.{Found}
use Rattle.record_list.specs.declared.found.Breach.{Breach}
use Rattle.record_list.specs.Records.{name_of, IsScanned}
use Rattle.record_list.specs.SoundList.{CopiesAgree, follow}
use Rattle.record_list.specs.Transaction.{ShareNoPage}
use Rattle.record_list.specs.Changes.{IsInserted, IsWrite, IsCopy, left}

-- this many links lead back to the name, and no fewer do
pub record IsFirstReturn (list : List Found) (name : Link) (n : ℕ) : Type 0 where
  pub some : 1 ≤ n
  pub back : follow list name n ≡ name
  pub first : (m : ℕ) → 1 ≤ m → m < n → follow list name m ≢ name

-- law 9: a record that its link names has its count; and where it has a count, and its links lead back to it, they do
-- so after as many links as it counts
unfoldable pub KeepsCount : List Found → Found → Type 0
KeepsCount list f =
    All (λ g. name_of g.rec ≡ f.rec.next → g.rec.count ≡ f.rec.count) list
    × (f.rec.count ≢ 0 → (n : ℕ) → IsFirstReturn list (name_of f.rec) n → n ≡ f.rec.count)

-- each record keeps it
abbrev pub HasCounts : List Found → Type 0
HasCounts list = All (KeepsCount list) list

-- law 9 is broken at this slot, and at none below
pub record IsLeastMiscount (list : List Found) (b : Breach) : Type 0 where
  pub law : b.law ≡ 9
  pub breaks : Any (λ f. (f.slot.0 ≡ b.slot.0) × (KeepsCount list f → ⊥)) list
  pub earlier_slots : All (λ f. f.slot.0 < b.slot.0 → KeepsCount list f) list

-- the least slot at which law 9 is broken, nothing where it holds
abbrev pub IsFirstMiscount : List Found → Option Breach → Type 0
IsFirstMiscount list breach = MatchOption breach (HasCounts list) (IsLeastMiscount list)

-- law 9 stays where a record is written that a transaction asks for
abbrev pub WriteKeepsCounts : Type 0
WriteKeepsCounts =
    (protocol : Protocol) (list list' : List Found) (logical : ℕ) (names : List Link) (f : Found) →
    IsWrite protocol list list' logical names f →
    HasCounts list → HasCounts list'

-- and where a record is copied, of a list that keeps law 2
abbrev pub CopyKeepsCounts : Type 0
CopyKeepsCounts =
    (list list' : List Found) (f : Found) →
    All (CopiesAgree list) list →
    IsCopy list list' f →
    HasCounts list → HasCounts list'

-- and where records are lost, of a list that keeps law 2
abbrev pub LossKeepsCounts : Type 0
LossKeepsCounts =
    (list : List Found) (keep : ℕ → Bool) →
    All (CopiesAgree list) list →
    IsScanned list →
    HasCounts list → HasCounts (left keep list)

-- a record with one of the names discards its page exactly where the flag of the name says so
abbrev pub HasItsFlag : List Link → List Bool → Rec → Type 0
HasItsFlag names flags r = All (λ (name, flag). name_of r ≡ name → r.discard ≡ flag) (zip names flags)

-- so does each record of the list
abbrev pub HasFlags : List Found → List Link → List Bool → Type 0
HasFlags list names flags = All (λ f. HasItsFlag names flags f.rec) list

-- the flags of a transaction stay where a record of it is written with its flag
abbrev pub WriteKeepsFlags : Type 0
WriteKeepsFlags =
    (list list' : List Found) (names : List Link) (flags : List Bool) (f : Found) →
    IsInserted list f list' →
    HasItsFlag names flags f.rec →
    HasFlags list names flags → HasFlags list' names flags

-- and where a record of another transaction is written, which shares no page with it
abbrev pub OthersKeepFlags : Type 0
OthersKeepFlags =
    (list list' : List Found) (names others : List Link) (flags : List Bool) (f : Found) →
    IsInserted list f list' →
    Contains names (name_of f.rec) →
    ShareNoPage names others →
    HasFlags list others flags → HasFlags list' others flags

-- and where a record is copied
abbrev pub CopyKeepsFlags : Type 0
CopyKeepsFlags =
    (list list' : List Found) (names : List Link) (flags : List Bool) (f : Found) →
    IsCopy list list' f →
    HasFlags list names flags → HasFlags list' names flags

-- and where records are lost
abbrev pub LossKeepsFlags : Type 0
LossKeepsFlags =
    (list : List Found) (names : List Link) (flags : List Bool) (keep : ℕ → Bool) →
    HasFlags list names flags → HasFlags (left keep list) names flags
