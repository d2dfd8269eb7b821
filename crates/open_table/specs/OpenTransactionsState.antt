-- What is kept of the open transactions, in the order of their opening.
use Rattle.std.specs.Prelude.{◌≡◌, ◌≢◌, ℕ, ◌+◌, ◌<◌, ◌≤◌, List, [], length, map, slice_index_or, slice_set, All}
use Rattle.tx_types.specs.Batch.{no_write, PageWrite, Writes, bytes_in}
use Rattle.tx_types.specs.Limits.{max_version}
use Rattle.tx_types.specs.declared.record.Link.{Link}
use Rattle.judged_records.specs.IndexState.{IndexState, mention_of}
use Rattle.array_machine.specs.ArrayState.{Entry, new_entry, pending_pages}
use Rattle.array_machine.specs.declared.mark.Mark.{Mark}
use Rattle.array_machine.specs.declared.mark.Mark.TheVariants.{Plain}

-- the names that an open transaction writes, one for each page, and how many of them, the first ones, are noted
pub record Naming : Type 0 where
  pub names : List Link
  pub noted_count : ℕ

-- what stands for a name where there is none
abbrev pub no_name : Link
no_name = record { page = 0; version = 0 }

-- the name that a transaction writes at this place, from 0
abbrev pub name_at : Naming → ℕ → Link
name_at x k = slice_index_or x.names k no_name

-- what it writes there
abbrev pub write_at : Entry → ℕ → PageWrite
write_at e k = slice_index_or e.writes k no_write

-- an open transaction, with the names that it writes
pub record TransactionState : Type 0 where
  pub entry : Entry
  pub naming : Naming

-- how many bytes a page has, how many pages there are and may be pending, and the open transactions
pub record OpenTransactionsState : Type 0 where
  pub page_bytes : ℕ
  pub logical : ℕ
  pub pending : ℕ
  pub all : List TransactionState

-- pages keep their size and their number, and as many pages may be pending
pub record HasLimitsOf (old new : OpenTransactionsState) : Type 0 where
  pub page_bytes : new.page_bytes ≡ old.page_bytes
  pub logical : new.logical ≡ old.logical
  pub pending : new.pending ≡ old.pending

-- what stands for an open transaction where there is none
abbrev pub no_transaction : TransactionState
no_transaction = record { entry = new_entry 0 []; naming = record { names = []; noted_count = 0 } }

-- the open transaction at an index
abbrev pub transaction_at : OpenTransactionsState → ℕ → TransactionState
transaction_at t i = slice_index_or t.all i no_transaction

abbrev pub entries_of : OpenTransactionsState → List Entry
entries_of t = map (λ o. o.entry) t.all

abbrev pub namings_of : OpenTransactionsState → List Naming
namings_of t = map (λ o. o.naming) t.all

-- each transaction has a name for each page that it writes, each page is whole, and no more pages are pending than may
-- be
pub record IsOpenTransactionsState (t : OpenTransactionsState) : Type 0 where
  pub named : All
      (λ o. map (λ name. name.page) o.naming.names ≡ map (λ w. w.page) o.entry.writes) t.all
  pub whole : All
      (λ o. All (λ w. length (bytes_in t.page_bytes w) ≡ t.page_bytes) o.entry.writes) t.all
  pub few : pending_pages (entries_of t) ≤ t.pending

-- the name that a transaction which is opened now writes for a page: one version above its mention
abbrev pub next_name : IndexState → PageWrite → Link
next_name n w = record { page = w.page; version = mention_of n w.page + 1 }

-- a transaction that is opened
abbrev pub begun : IndexState → ℕ → List PageWrite → TransactionState
begun n tag writes = record {
  entry = new_entry tag writes;
  naming = record { names = map (next_name n) writes; noted_count = 0 };
}

-- A batch may be opened: its pages are as long as those of the table, it has some, and as many may be pending yet. Each
-- page exists, no open transaction has it, and it has a version left.
pub record CanOpen (t : OpenTransactionsState) (n : IndexState) (batch : Writes) : Type 0 where
  pub pages : batch.page_bytes ≡ t.page_bytes
  pub some : 0 < length batch.entries
  pub free : pending_pages (entries_of t) + length batch.entries ≤ t.pending
  pub each : All (λ o. 0 < length o.entry.writes) t.all
  pub range : All (λ w. w.page < n.config.logical) batch.entries
  pub logical : t.logical ≡ n.config.logical
  pub apart : All (λ w. All (λ e. All (λ v. v.page ≢ w.page) e.writes) (entries_of t)) batch.entries
  pub unspent : All (λ w. mention_of n w.page < max_version) batch.entries

-- the table with another open transaction at an index
abbrev pub with_transaction : OpenTransactionsState → ℕ → TransactionState → OpenTransactionsState
with_transaction t i o = record t { all = slice_set t.all i o }

abbrev pub with_done : TransactionState → ℕ → TransactionState
with_done o count = record o { entry = record o.entry { done = count } }

abbrev pub with_mark : TransactionState → Mark → TransactionState
with_mark o its = record o { entry = record o.entry { mark = its } }

abbrev pub with_noted_count : TransactionState → ℕ → TransactionState
with_noted_count o count = record o { naming = record o.naming { noted_count = count } }

-- a transaction is open at an index, and has a page at this place of its own
pub record HasPlace (t : OpenTransactionsState) (at place : ℕ) : Type 0 where
  pub exists : at < length t.all
  pub within : place < length (transaction_at t at).entry.writes

-- A transaction is open at an index, and plain, and its next record is not noted.
pub record IsDueAt (t : OpenTransactionsState) (at : ℕ) : Type 0 where
  pub exists : at < length t.all
  pub plain : (transaction_at t at).entry.mark ≡ Plain
  pub unnoted : (transaction_at t at).naming.noted_count ≡ (transaction_at t at).entry.done

-- the name of the page that it writes next
abbrev pub name_due : OpenTransactionsState → ℕ → Link
name_due t at = name_at (transaction_at t at).naming (transaction_at t at).entry.done

-- the bytes of that page
abbrev pub bytes_due : OpenTransactionsState → ℕ → List ℕ
bytes_due t at = bytes_in t.page_bytes (write_at (transaction_at t at).entry (transaction_at t at).entry.done)
