-- The pages of an open transaction, and the room for those that may be pending beside them.
use Rattle.std.specs.Prelude.{◌≡◌, ℕ, ◌+◌, ◌<◌, ◌≤◌, List, ◌++◌, [], ◌∷◌, length, map, slice_set, slice_index_or, option_map, Option, None, vec_capacity, All}
use Rattle.std.specs.Prelude.{Vec}
use Rattle.std.specs.declared.alloc.Global.{Global}
use Rattle.tx_types.specs.Batch.{PageWrite, Writes, bytes_in}
use Rattle.tx_types.specs.Entries.{value_if}
use Rattle.tx_types.specs.Limits.{max_version}
use Rattle.tx_types.specs.declared.config.Config.{Config}
use Rattle.judged_records.specs.IndexState.{IndexState, mention_of}
use Rattle.open_table.specs.OpenTransactionsState.{TransactionState, next_name}
use Rattle.array_machine.specs.Submit.{first_refusal}
use Rattle.array_machine.specs.declared.answers.SubmitError.{SubmitError}
use Rattle.array_machine.specs.declared.answers.SubmitError.TheVariants as refused
use Rattle.open_table.specs.declared.pending_writes.Transaction.{Transaction}
use Rattle.open_table.specs.declared.pending_writes.PendingWrite.{PendingWrite}

abbrev pub write_held : PendingWrite → PageWrite
write_held p = record { page = p.name.page; value = value_if p.discard p.bytes.items }

-- how many pages a transaction has
abbrev pub pages_of : Transaction → ℕ
pages_of o = length o.pages.items

-- an open transaction as callers see it
abbrev pub transaction_of : Transaction → TransactionState
transaction_of o = record {
  entry = record { tag = o.tag; writes = map write_held o.pages.items; done = o.done; mark = o.mark };
  naming = record { names = map (λ p. p.name) o.pages.items; noted_count = o.noted_count };
}

-- the owners of all pages with another one for each of these
unfoldable pub with_owner : List (Option ℕ) → Option ℕ → List PendingWrite → List (Option ℕ)
with_owner owners owner [] = owners
with_owner owners owner (p ∷ ps) = with_owner (slice_set owners p.name.page owner) owner ps

-- the refusal of the first write of a page that has an owner
abbrev pub owned_page : List (Option ℕ) → List PageWrite → Option SubmitError
owned_page owners = first_refusal
    (λ w. option_map (λ tag. refused.Overlap w.page tag) (slice_index_or owners w.page None))

-- a page has this many bytes, zeros where it is discarded
pub record IsWhole (page_bytes : ℕ) (p : PendingWrite) : Type 0 where
  pub long : length p.bytes.items ≡ page_bytes
  pub bytes : p.bytes.items ≡ bytes_in page_bytes (write_held p)

-- room for this many bytes
abbrev pub HasRoom : ℕ → Vec ℕ Global → Type 0
HasRoom size r = length r.items ≡ size

-- room for each page that may be pending
pub record HasRooms (config : Config) (rooms : Vec (Vec ℕ Global) Global) : Type 0 where
  pub count : length rooms.items ≡ config.pending
  pub capacity : config.pending ≤ vec_capacity rooms
  pub sizes : All (λ r. length r.items ≡ config.page_bytes) rooms.items

-- for each transaction that may be open, an empty list with room for all pages that may be pending
pub record HasLists (config : Config) (lists : Vec (Vec PendingWrite Global) Global) : Type 0 where
  pub count : length lists.items ≡ config.pending
  pub capacity : config.pending ≤ vec_capacity lists
  pub empty : All (λ l. (l.items ≡ []) × (config.pending ≤ vec_capacity l)) lists.items

-- There is room for the pages of a batch: a free room for each, and place in the list. The pages exist, and have a
-- version left.
pub record CanStore (n : IndexState) (pages : Vec PendingWrite Global) (rooms : Vec (Vec ℕ Global) Global)
    (batch : Writes) : Type 0 where
  pub room : length batch.entries ≤ length rooms.items
  pub capacity : length pages.items + length batch.entries ≤ vec_capacity pages
  pub sizes : All (λ r. length r.items ≡ batch.page_bytes) rooms.items
  pub range : All (λ w. w.page < n.config.logical) batch.entries
  pub unspent : All (λ w. mention_of n w.page < max_version) batch.entries

-- the pages of a batch came behind the others, each with its next name, in rooms that were free
pub record StoresPages (n : IndexState) (old new : Vec PendingWrite Global)
    (rooms rooms' : Vec (Vec ℕ Global) Global) (batch : Writes)
    (held : List PendingWrite) : Type 0 where
  pub behind : new.items ≡ old.items ++ held
  pub writes : map write_held held ≡ batch.entries
  pub names : map (λ p. p.name) held ≡ map (next_name n) batch.entries
  pub whole : All (IsWhole batch.page_bytes) held
  pub fewer : length rooms'.items + length held ≡ length rooms.items
  pub capacity : vec_capacity old ≤ vec_capacity new
  pub rooms_capacity : vec_capacity rooms' ≡ vec_capacity rooms
  pub sizes : All (HasRoom batch.page_bytes) rooms'.items

-- the pages went, and their rooms are free
pub record FreesPages (old new : Vec PendingWrite Global) (rooms rooms' : Vec (Vec ℕ Global) Global)
    : Type 0 where
  pub none : new.items ≡ []
  pub more : length rooms'.items ≡ length rooms.items + length old.items
  pub capacity : vec_capacity new ≡ vec_capacity old
  pub rooms_capacity : vec_capacity rooms ≤ vec_capacity rooms'
  pub sizes : (size : ℕ) → All (HasRoom size) rooms.items → All (IsWhole size) old.items →
      All (HasRoom size) rooms'.items
