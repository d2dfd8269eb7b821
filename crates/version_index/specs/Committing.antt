-- What is derived from the tables once a cycle is whole.
use Rattle.std.specs.Prelude.{◌≡◌, ◌≢◌, ℕ, true, false, ◌+◌, ◌<◌, ◌≤◌, ◌==◌, ◌⊎◌, if◌then◌else◌, List, length, slice_index_or, Option, Some, None}
use Rattle.std.specs.Prelude.{option_and_then}
use Rattle.std.specs.List.{slice_get}
use Rattle.tx_types.specs.declared.record.Link.{Link}
use Rattle.tx_types.specs.declared.record.Rec.{Rec}
use Rattle.record_list.specs.Records.{name_of}
use Rattle.slot_tables.specs.TablesState.{TablesState, record_at, number_at, numbers_at}
use Rattle.tx_types.specs.declared.config.Config.{Config}
use Rattle.tx_types.specs.declared.config.Protocol.{Protocol}
use Rattle.judged_records.specs.DerivedChanges.{Derived, all_current, all_answered, once_whole, completes}
use Rattle.judged_records.specs.IndexState.{IsNoted}
use Rattle.judged_records.specs.Numbered.{AreDerived}
use Rattle.version_index.specs.Tables.{version_at, numbered_of, noted_by, AreHeld}

-- each record links to a page that exists
abbrev pub LinksExist : TablesState → Type 0
LinksExist k = (x : ℕ) (r : Rec) → record_at k.records x ≡ Some r → r.next.page < length k.pages

-- the number of the newest record of a page
abbrev pub newest_at : TablesState → ℕ → Option ℕ
newest_at k page = slice_get (numbers_at k.pages page) 0

-- the newest record of a page, if it has this version
abbrev pub with_version : ℕ → Rec → Option Rec
with_version version r = if r.version == version then Some r else None

abbrev pub newest_with_name : TablesState → Link → Option Rec
newest_with_name k name =
    option_and_then (λ x. option_and_then (with_version name.version) (record_at k.records x)) (newest_at k name.page)

-- Nothing changes but the current records, the answerers and those that wait. For a number without a record that
-- does not wait nothing changes.
pub record OnlyDerives (k new : TablesState) : Type 0 where
  pub rest : new ≡ record k { current = new.current; answerers = new.answerers; waits = new.waits }
  pub unused :
      (y : ℕ) → record_at k.records y ≡ None → number_at k.waits y ≡ None →
      (number_at new.answerers y ≡ number_at k.answerers y) × (number_at new.waits y ≡ number_at k.waits y)

-- no record of a page above a version waits or has an answerer any more
pub record AreReleased (k new : TablesState) (page version : ℕ) : Type 0 where
  pub rest : new ≡ record k { answerers = new.answerers; waits = new.waits }
  pub let_go :
      (y : ℕ) (s : Rec) → record_at k.records y ≡ Some s → s.page ≡ page → version < s.version →
      (number_at new.answerers y ≡ None) × (number_at new.waits y ≡ None)
  pub others :
      (y : ℕ) → ((s : Rec) → record_at k.records y ≡ Some s → (s.page ≢ page) ⊎ (s.version ≤ version)) →
      (number_at new.answerers y ≡ number_at k.answerers y) × (number_at new.waits y ≡ number_at k.waits y)

-- the newest record of a page is current, and no other record of the page above the one before waits or has an
-- answerer
pub record IsTaken (k new : TablesState) (page : ℕ) : Type 0 where
  pub current : number_at new.current page ≡ newest_at k page
  pub elsewhere : (other : ℕ) → other ≢ page → number_at new.current other ≡ number_at k.current other
  pub let_go :
      (y : ℕ) (s : Rec) → record_at k.records y ≡ Some s → s.page ≡ page →
      version_at k (number_at k.current page) < s.version →
      (number_at new.answerers y ≡ None) × (number_at new.waits y ≡ None)
  pub others :
      (y : ℕ) (s : Rec) → record_at k.records y ≡ Some s →
      (s.page ≢ page) ⊎ (s.version ≤ version_at k (number_at k.current page)) →
      (number_at new.answerers y ≡ number_at k.answerers y) × (number_at new.waits y ≡ number_at k.waits y)

-- the newest record of a page answers for those that waited for the page
pub record IsAnswered (k new : TablesState) (page : ℕ) : Type 0 where
  pub current : new.current ≡ k.current
  pub answered :
      (y : ℕ) → number_at k.waits y ≡ Some page →
      (number_at new.answerers y ≡ newest_at k page) × (number_at new.waits y ≡ None)
  pub others :
      (y : ℕ) → number_at k.waits y ≢ Some page →
      (number_at new.answerers y ≡ number_at k.answerers y) × (number_at new.waits y ≡ number_at k.waits y)

-- a name is that of the newest record of its page, which links to the next one
pub record IsTop (k : TablesState) (name next : Link) : Type 0 where
  pub number : ℕ
  pub rec : Rec
  pub newest : newest_at k name.page ≡ Some number
  pub is : record_at k.records number ≡ Some rec
  pub its_name : name_of rec ≡ name
  pub positive : 0 < rec.version
  pub link : rec.next ≡ next

-- the names of a whole cycle, of which the first is behind the last again
pub record IsRoundIn (k : TablesState) (start : Link) (round : List Link) : Type 0 where
  pub first : slice_index_or round 0 start ≡ start
  pub some : 0 < length round
  pub before : (at : ℕ) → 0 < at → at < length round → (slice_index_or round at start).page ≢ start.page
  pub tops :
      (at : ℕ) → at < length round →
      IsTop k (slice_index_or round at start) (slice_index_or round (at + 1) start)

-- what is kept so may hold a record that completes its cycle
pub record MayComplete (protocol : Protocol) (its : Config) (m : List ℕ) (k : TablesState) (r : Rec) : Type 0 where
  pub noted : IsNoted protocol (noted_by its m k)
  pub held : AreHeld k
  pub own : (x : ℕ) × (record_at k.records x ≡ Some r)

-- no record at or below the current version of its page waits or has an answerer
abbrev pub Rests : Derived → Type 0
Rests j = (r : Rec) → r.version ≤ j.current r.page → (j.answerer r ≡ None) × (j.waits r ≡ false)

-- each record of a round is current then
abbrev pub CommitsRound : TablesState → TablesState → Link → ℕ → Type 0
CommitsRound k new start logical =
    (its_pages : ℕ) (j : Derived) (round : List Link) → IsRoundIn k start round → length round ≤ logical →
    its_pages ≡ length k.pages → Rests j → AreDerived (numbered_of k) its_pages j →
    AreDerived (numbered_of new) its_pages (all_current round j)

-- or answers
abbrev pub ResolvesRound : TablesState → TablesState → Link → ℕ → Type 0
ResolvesRound k new start logical =
    (its_pages : ℕ) (j : Derived) (round : List Link) → IsRoundIn k start round → length round ≤ logical →
    AreDerived (numbered_of k) its_pages j → AreDerived (numbered_of new) its_pages (all_answered round j)

-- the cycle of a round is whole
abbrev pub DerivesWhole : Protocol → TablesState → TablesState → Link → ℕ → Type 0
DerivesWhole protocol k new start logical =
    (its_pages : ℕ) (j : Derived) (round : List Link) → IsRoundIn k start round → length round ≤ logical →
    its_pages ≡ length k.pages → Rests j → AreDerived (numbered_of k) its_pages j →
    AreDerived (numbered_of new) its_pages (once_whole protocol round j)

-- nothing moves where a record leaves its cycle open, and else its cycle is whole
pub record CommitsIfComplete (its_protocol : Protocol) (k new : TablesState) (r : Rec) (logical : ℕ) : Type 0 where
  pub open_cycle :
      (protocol : Protocol) (its : Config) (m : List ℕ) → MayComplete protocol its m k r → its.logical ≡ logical →
      completes (noted_by its m k) r ≡ false → new ≡ k
  pub whole_cycle :
      (protocol : Protocol) (its : Config) (m : List ℕ) → MayComplete protocol its m k r → its.logical ≡ logical →
      completes (noted_by its m k) r ≡ true → DerivesWhole its_protocol k new (name_of r) logical
