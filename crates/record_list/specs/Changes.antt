-- The four commit laws of a list of records that keeps laws 1 to 7: what a partial write, a completing
-- write, a copy and the loss of slots keep.
use Rattle.std.specs.Prelude.{◌≡◌, ◌≢◌, ℕ, ◌<◌, ◌⊎◌, Bool, true, false, List, ◌∷◌, ◌++◌, All, Any, Contains, filter}
use Rattle.tx_types.specs.declared.record.Link.{Link}
use Rattle.tx_types.specs.declared.record.Rec.{Rec}
use Rattle.tx_types.specs.declared.config.Protocol.{Protocol}
use Rattle.tx_types.specs.declared.config.Protocol.TheVariants.{Scc, Bpcc}
use Rattle.record_list.specs.declared.found.Found.{Found}
use Rattle.record_list.specs.Records.{name_of, is_present, IsScanned}
use Rattle.record_list.specs.Current.{cur, IsCurrent, IsLoose, must_go, responsible, is_held}
use Rattle.record_list.specs.SoundList.{IsSoundList}
use Rattle.record_list.specs.Transaction.{IsAsked, InProgress, ShareNoPage}

-- one item more, anywhere in the list
pub record IsInserted {X : Type 0} (list : List X) (x : X) (list' : List X) : Type 0 where
  pub before : List X
  pub after : List X
  pub was : list ≡ before ++ after
  pub now : list' ≡ before ++ x ∷ after

-- no record of the list must go before this one is programmed
abbrev pub NothingMustGo : Protocol → List Found → ℕ → Rec → Type 0
NothingMustGo protocol list logical r =
    All (λ f. must_go protocol list logical r.page r.version f.rec ≡ false) list

-- a record that a transaction in progress asks for is added under a name that was absent
pub record IsWrite (protocol : Protocol) (list list' : List Found) (logical : ℕ) (names : List Link)
    (f : Found) : Type 0 where
  pub scanned : IsScanned list
  pub scanned' : IsScanned list'
  pub in_progress : InProgress protocol list logical names
  pub added : IsInserted list f list'
  pub named : Contains names (name_of f.rec)
  pub fresh : is_present list (name_of f.rec) ≡ false
  pub asked : IsAsked protocol list logical names f.rec
  pub clear : NothingMustGo protocol list logical f.rec

-- every current version stays
abbrev pub SameCurrent : Protocol → List Found → List Found → ℕ → Type 0
SameCurrent protocol list list' logical =
    (page : ℕ) → page < logical → cur protocol list' logical page ≡ cur protocol list logical page

-- the held records stay
abbrev pub SameHeld : Protocol → List Found → List Found → ℕ → Type 0
SameHeld protocol list list' logical =
    (r : Rec) → is_held protocol list' logical r ≡ is_held protocol list logical r

-- under Back Pointer Cyclic Commit each record that is loose afterwards has the responsible record that it
-- had, or none as before
abbrev pub SameResponsible : Protocol → List Found → List Found → ℕ → Type 0
SameResponsible Scc list list' logical = Unit {0}
SameResponsible Bpcc list list' logical =
    All
    (λ f. IsLoose Bpcc list' logical f.rec →
    responsible Bpcc list' logical f.rec.next ≡ responsible Bpcc list logical f.rec.next)
    list'

-- every other transaction in progress that shares no page with this one stays in progress
abbrev pub OthersStay : Protocol → List Found → List Found → ℕ → List Link → Type 0
OthersStay protocol list list' logical names =
    (others : List Link) → ShareNoPage names others →
    InProgress protocol list logical others → InProgress protocol list' logical others

-- what a write leaves that does not complete its cycle
pub record PartialWriteKeeps (protocol : Protocol) (list list' : List Found) (logical : ℕ)
    (names : List Link) : Type 0 where
  pub sound : IsSoundList protocol list' logical
  pub same_current : SameCurrent protocol list list' logical
  pub same_held : SameHeld protocol list list' logical
  pub responsible : SameResponsible protocol list list' logical
  pub in_progress : InProgress protocol list' logical names
  pub others : OthersStay protocol list list' logical names

abbrev pub PartialWriteLaw : Protocol → Type 0
PartialWriteLaw protocol =
    (list list' : List Found) (logical : ℕ) (names : List Link) (f : Found) →
    IsSoundList protocol list logical →
    IsWrite protocol list list' logical names f →
    Any (λ name. is_present list' name ≡ false) names →
    PartialWriteKeeps protocol list list' logical names

-- a link to the page of this name, above the version that was current there
abbrev pub IsOvertaken : List Found → ℕ → Link → Link → Type 0
IsOvertaken list logical link name =
    (name.page ≡ link.page) × (cur Bpcc list logical link.page < link.version)

-- which record is responsible for the loose record r once a transaction is whole
pub record IsAnsweredAfter (list list' : List Found) (logical : ℕ) (names : List Link)
    (r : Rec) : Type 0 where
  -- that of the transaction, where r links to one of its pages above the version that was current
  pub anew :
      All (λ name. IsOvertaken list logical r.next name →
      responsible Bpcc list' logical r.next ≡ name.version) names
  -- elsewhere the one of before
  pub still :
      All (λ name. IsOvertaken list logical r.next name → ⊥) names →
      responsible Bpcc list' logical r.next ≡ responsible Bpcc list logical r.next

-- under Back Pointer Cyclic Commit this is so of each record that is loose afterwards
abbrev pub NewResponsible : Protocol → List Found → List Found → ℕ → List Link → Type 0
NewResponsible Scc list list' logical names = Unit {0}
NewResponsible Bpcc list list' logical names =
    All (λ f. IsLoose Bpcc list' logical f.rec →
    IsAnsweredAfter list list' logical names f.rec) list'

-- what a write leaves that completes its cycle
pub record CompletingWriteKeeps (protocol : Protocol) (list list' : List Found) (logical : ℕ)
    (names : List Link) : Type 0 where
  pub sound : IsSoundList protocol list' logical
  pub committed : All (λ name. cur protocol list' logical name.page ≡ name.version) names
  pub rises : All (λ name. cur protocol list logical name.page < name.version) names
  pub elsewhere :
      (page : ℕ) → page < logical → All (λ name. name.page ≢ page) names →
      cur protocol list' logical page ≡ cur protocol list logical page
  pub held :
      (r : Rec) → is_held protocol list' logical r ≡ true →
      (is_held protocol list logical r ≡ true) ⊎ Contains names (name_of r)
  pub responsible : NewResponsible protocol list list' logical names
  pub others : OthersStay protocol list list' logical names

abbrev pub CompletingWriteLaw : Protocol → Type 0
CompletingWriteLaw protocol =
    (list list' : List Found) (logical : ℕ) (names : List Link) (f : Found) →
    IsSoundList protocol list logical →
    IsWrite protocol list list' logical names f →
    All (λ name. is_present list' name ≡ true) names →
    CompletingWriteKeeps protocol list list' logical names

-- an equal copy of a record is added
pub record IsCopy (list list' : List Found) (f : Found) : Type 0 where
  pub scanned : IsScanned list
  pub scanned' : IsScanned list'
  pub added : IsInserted list f list'
  pub source : Any (λ g. g.rec ≡ f.rec) list

-- what a copy leaves
pub record CopyKeeps (protocol : Protocol) (list list' : List Found) (logical : ℕ) : Type 0 where
  pub sound : IsSoundList protocol list' logical
  pub same_current : SameCurrent protocol list list' logical
  pub same_held : SameHeld protocol list list' logical
  pub responsible : SameResponsible protocol list list' logical
  pub in_progress : (names : List Link) → InProgress protocol list logical names →
      InProgress protocol list' logical names

abbrev pub CopyLaw : Protocol → Type 0
CopyLaw protocol =
    (list list' : List Found) (logical : ℕ) (f : Found) →
    IsSoundList protocol list logical →
    IsCopy list list' f →
    CopyKeeps protocol list list' logical

-- the records whose slots pass the test
abbrev pub left : (ℕ → Bool) → List Found → List Found
left keep list = filter (λ f. keep f.slot.0) list

-- each current and each held record has a slot that passes the test
abbrev pub KeepsCounted : Protocol → List Found → ℕ → (ℕ → Bool) → Type 0
KeepsCounted protocol list logical keep =
    All
    (λ f. IsCurrent protocol list logical f.rec
    ⊎ (is_held protocol list logical f.rec ≡ true) →
    is_present (left keep list) (name_of f.rec) ≡ true)
    list

-- what the loss of slots leaves
pub record LossKeeps (protocol : Protocol) (list list' : List Found) (logical : ℕ) : Type 0 where
  pub sound : IsSoundList protocol list' logical
  pub same_current : SameCurrent protocol list list' logical
  pub held : (r : Rec) → is_held protocol list' logical r ≡ true →
      is_held protocol list logical r ≡ true
  pub responsible : SameResponsible protocol list list' logical
  pub in_progress : (names : List Link) → InProgress protocol list logical names →
      InProgress protocol list' logical names

abbrev pub LossLaw : Protocol → Type 0
LossLaw protocol =
    (list : List Found) (logical : ℕ) (keep : ℕ → Bool) →
    IsSoundList protocol list logical →
    IsScanned list →
    KeepsCounted protocol list logical keep →
    LossKeeps protocol list (left keep list) logical
