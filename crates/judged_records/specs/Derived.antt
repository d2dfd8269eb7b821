-- What is derived from the noted records: which are loose, which record answers for each, and which wait.
use Rattle.std.specs.Prelude.{◌≡◌, ◌≢◌, ℕ, ◌<◌, ◌≤◌, Bool, true, false, ◌&&◌, nat_lt, if◌then◌else◌, List, Option, Some, None, All, Any}
use Rattle.tx_types.specs.declared.record.Link.{Link}
use Rattle.tx_types.specs.declared.record.Rec.{Rec}
use Rattle.tx_types.specs.declared.config.Protocol.{Protocol}
use Rattle.tx_types.specs.declared.config.Protocol.TheVariants.{Scc, Bpcc}
use Rattle.record_list.specs.declared.found.Found.{Found}
use Rattle.record_list.specs.Records.{newest}
use Rattle.record_list.specs.Current.{cur, is_loose, responsible, must_go}
use Rattle.record_list.specs.Written.{is_wanted}
use Rattle.judged_records.specs.declared.note.Note.TheVariants.{Holds}
use Rattle.judged_records.specs.Notes.{note_at, found_in}
use Rattle.judged_records.specs.IndexState.{IndexState, pinned_names}

-- the name of this page and version, nothing for version 0
abbrev pub name_at : ℕ → ℕ → Option Link
name_at page version =
    if nat_lt 0 version then Some (record { page = page; version = version }) else None

-- the name of the record that is responsible for a loose record; under Simple Cyclic Commit none is
abbrev pub answerer : Protocol → List Found → ℕ → Rec → Option Link
answerer Scc list logical r = None
answerer Bpcc list logical r =
    if is_loose Bpcc list logical r then name_at r.next.page (responsible Bpcc list logical r.next)
    else None

-- whether a loose record waits for the page of its link to become current at a version not below the
-- link's; under Simple Cyclic Commit each loose record waits
abbrev pub is_waiting : Protocol → List Found → ℕ → Rec → Bool
is_waiting Scc list logical r = is_loose Scc list logical r
is_waiting Bpcc list logical r =
    is_loose Bpcc list logical r && nat_lt (cur Bpcc list logical r.next.page) r.next.version

-- whether a record is loose
unfoldable pub loose_of : IndexState → Rec → Bool
loose_of n r = is_loose n.config.protocol (found_in n.notes) n.config.logical r

-- the name of the record that answers for a record, if one does
unfoldable pub answerer_of : IndexState → Rec → Option Link
answerer_of n r = answerer n.config.protocol (found_in n.notes) n.config.logical r

-- whether a record waits
unfoldable pub waits_of : IndexState → Rec → Bool
waits_of n r = is_waiting n.config.protocol (found_in n.notes) n.config.logical r

-- what is derived of a record is alike in two states
pub record IsDerivedAlike (n m : IndexState) (r : Rec) : Type 0 where
  pub loose : loose_of m r ≡ loose_of n r
  pub answerer : answerer_of m r ≡ answerer_of n r
  pub waits : waits_of m r ≡ waits_of n r

-- no record answers for it, and it does not wait, as it is not loose
pub record IsCommittedFor (n : IndexState) (r : Rec) : Type 0 where
  pub loose : loose_of n r ≡ false
  pub answerer : answerer_of n r ≡ None
  pub waits : waits_of n r ≡ false

-- it is loose and waits, and no record answers for it
pub record IsNewlyLoose (n : IndexState) (r : Rec) : Type 0 where
  pub loose : loose_of n r ≡ true
  pub answerer : answerer_of n r ≡ None
  pub waits : waits_of n r ≡ true

-- no record has this name as its answerer
abbrev pub AnswersForNone : IndexState → Link → Type 0
AnswersForNone n name = All (λ f. answerer_of n f.rec ≢ Some name) (found_in n.notes)

-- some record has this name as its answerer
abbrev pub AnswersForSome : IndexState → Link → Type 0
AnswersForSome n name = Any (λ f. answerer_of n f.rec ≡ Some name) (found_in n.notes)

-- whether a record is current, held or pinned
unfoldable pub wanted_of : IndexState → Rec → Bool
wanted_of n r =
    is_wanted n.config.protocol (found_in n.notes) n.config.logical (pinned_names n.pins) r

-- whether a record must go before this version of a page is programmed
unfoldable pub goes_of : IndexState → ℕ → ℕ → Rec → Bool
goes_of n page below r =
    must_go n.config.protocol (found_in n.notes) n.config.logical page below r

-- a record is loose, the newest of this page, and below this version
pub record IsNewestUncommitted (n : IndexState) (page below : ℕ) (r : Rec) : Type 0 where
  pub own_page : r.page ≡ page
  pub top : newest (found_in n.notes) page ≡ r.version
  pub loose : loose_of n r ≡ true
  pub low : r.version < below

-- a record waits for this page, and links to it below this version
pub record WaitsBelow (n : IndexState) (page below : ℕ) (r : Rec) : Type 0 where
  pub waits : waits_of n r ≡ true
  pub next_page : r.next.page ≡ page
  pub low : r.next.version < below

-- the lowest slot with a record that passes a test
pub record IsLowestSlot (n : IndexState) (test : Found → Bool) (at : ℕ) : Type 0 where
  pub rec : Rec
  pub holds : note_at n.notes at ≡ Holds rec
  pub passes : test (record { slot = record { 0 = at }; rec = rec }) ≡ true
  pub least :
      (slot : ℕ) (r : Rec) → note_at n.notes slot ≡ Holds r →
      test (record { slot = record { 0 = slot }; rec = r }) ≡ true → at ≤ slot

-- no slot has a record that passes the test
abbrev pub HasNoSlot : IndexState → (Found → Bool) → Type 0
HasNoSlot n test =
    (slot : ℕ) (r : Rec) → note_at n.notes slot ≡ Holds r →
    test (record { slot = record { 0 = slot }; rec = r }) ≡ false
