-- A transaction, and when it is in progress among the records of a list.
use Rattle.std.specs.Prelude.{◌≡◌, ◌≢◌, ℕ, ◌<◌, ◌≤◌, false, List, [], ◌∷◌, ◌++◌, All, Any, AllPairs, Contains, length}
use Rattle.std.specs.List.{zip}
use Rattle.tx_types.specs.Limits.{max_pending, max_version}
use Rattle.tx_types.specs.declared.record.Link.{Link}
use Rattle.tx_types.specs.declared.record.Rec.{Rec}
use Rattle.tx_types.specs.declared.config.Protocol.{Protocol}
use Rattle.tx_types.specs.declared.config.Protocol.TheVariants.{Scc, Bpcc}
use Rattle.record_list.specs.declared.found.Found.{Found}
use Rattle.record_list.specs.Records.{mention_at, name_of, is_present}
use Rattle.record_list.specs.Current.{cur}

-- the names that a transaction writes: distinct pages, each at a version, no more than may be pending
pub record IsTransaction (logical : ℕ) (names : List Link) : Type 0 where
  pub distinct : AllPairs (λ a b. a.page ≢ b.page) names
  pub in_range : All (λ a. (a.page < logical) × (1 ≤ a.version) × (a.version ≤ max_version)) names
  pub few : length names ≤ max_pending

-- the names from the second on, and then the first: `zip names (next_names names)` has each name with the one that
-- follows it
abbrev pub next_names : List Link → List Link
next_names [] = []
next_names (name ∷ names) = names ++ name ∷ []

-- The back version of a record of this page that is written now. The list is the one before the record is added: of the
-- list with it the demand would be empty, since a newest record that is uncommitted makes its own back version current.
-- With 0.1 -> 0.1, 0.2 -> 1.1 with back version 0 could be added for pages 0 and 1, and page 0 would lose version 1.
abbrev pub back_version : Protocol → List Found → ℕ → ℕ → ℕ
back_version Scc list logical page = 0
back_version Bpcc list logical page = cur Bpcc list logical page

-- a record with a name that another follows links to that one, has the back version that the transaction asks for, as
-- the list stands, and counts the names
abbrev pub IsAskedAt : Protocol → List Found → ℕ → List Link → Rec → Link × Link → Type 0
IsAskedAt protocol list logical names r pair =
    name_of r ≡ pair.0 →
    (r.next ≡ pair.1) × (r.back ≡ back_version protocol list logical pair.0.page)
    × (r.count ≡ length names)

-- a record with one of the names is as the transaction asks
abbrev pub IsAsked : Protocol → List Found → ℕ → List Link → Rec → Type 0
IsAsked protocol list logical names r =
    All (IsAskedAt protocol list logical names r) (zip names (next_names names))

-- the records of the transaction are as it asks, and every other record mentions its pages below its versions
pub record IsBegun (protocol : Protocol) (list : List Found) (logical : ℕ)
    (names : List Link) : Type 0 where
  pub transaction : IsTransaction logical names
  pub asked : All (λ f. IsAsked protocol list logical names f.rec) list
  pub others :
      All (λ f. (Contains names (name_of f.rec) → ⊥) →
      All (λ name. mention_at name.page f.rec < name.version) names) list

-- it is begun, and a name is absent
pub record InProgress (protocol : Protocol) (list : List Found) (logical : ℕ)
    (names : List Link) : Type 0 where
  pub begun : IsBegun protocol list logical names
  pub absent : Any (λ name. is_present list name ≡ false) names

-- two transactions with no page in common
abbrev pub ShareNoPage : List Link → List Link → Type 0
ShareNoPage names others = All (λ a. All (λ b. a.page ≢ b.page) others) names
