-- How the open transactions are kept: each with its pages, who owns a page, and room for all that may be pending.
use Rattle.std.specs.Prelude.{◌≡◌, ◌+◌, ◌<◌, ◌≤◌, ℕ, List, [], length, map, find, sum_by, slice_index_or, vec_capacity, All, Option, None, option_map}
use Rattle.tx_types.specs.Limits.{max_pending}
use Rattle.open_table.specs.OpenTransactionsState.{OpenTransactionsState}
use Rattle.open_table.specs.PendingWrites.{transaction_of, pages_of, IsWhole, HasRoom}
use Rattle.array_machine.specs.Submit.{is_owner}
use Rattle.open_table.specs.declared.open_transactions.OpenTransactions.TheInside.{Inside}
use Rattle.open_table.specs.declared.pending_writes.Transaction.{Transaction}

abbrev pub table_of : Inside → OpenTransactionsState
table_of t = record {
  page_bytes = t.page_bytes;
  logical = length t.owners.items;
  pending = t.pending;
  all = map transaction_of t.all.items;
}

-- An open transaction has a page, its pages exist and are whole, and there is room for them.
pub record TransactionInvariant (page_bytes logical pending : ℕ) (o : Transaction) : Type 0 where
  pub some : 0 < pages_of o
  pub exist : All (λ p. p.name.page < logical) o.pages.items
  pub whole : All (IsWhole page_bytes) o.pages.items
  pub capacity : pending ≤ vec_capacity o.pages

-- the tag of the first open transaction that writes a page
abbrev pub owner_in : List Transaction → ℕ → Option ℕ
owner_in all page =
    option_map (λ e. e.tag) (find (is_owner page) (map (λ o. o.entry) (map transaction_of all)))

-- Each page has its owner, and there is room for all that may be pending, and for as many transactions.
pub record OpenTransactionsInvariant (t : Inside) : Type 0 where
  pub few : t.pending ≤ max_pending
  pub each : All (TransactionInvariant t.page_bytes (length t.owners.items) t.pending) t.all.items
  pub owned : (page : ℕ) → page < length t.owners.items →
      slice_index_or t.owners.items page None ≡ owner_in t.all.items page
  pub rooms : sum_by pages_of t.all.items + length t.rooms.items ≡ t.pending
  pub sizes : All (HasRoom t.page_bytes) t.rooms.items
  pub lists : length t.all.items + length t.lists.items ≡ t.pending
  pub empty : All (λ l. (l.items ≡ []) × (t.pending ≤ vec_capacity l)) t.lists.items
  pub all_capacity : t.pending ≤ vec_capacity t.all
  pub rooms_capacity : t.pending ≤ vec_capacity t.rooms
  pub lists_capacity : t.pending ≤ vec_capacity t.lists
