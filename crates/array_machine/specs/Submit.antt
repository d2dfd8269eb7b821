-- Opening a transaction: the seven refusals, in the order in which they are tried.
use Rattle.std.specs.Prelude.{◌≡◌, ℕ, ◌-◌, ◌==◌, ◌++◌, Bool, List, [], ◌∷◌, length, nat_lt, nat_le, find, Option, option_map, None, Some, Result, Ok, Err}
use Rattle.std.specs.Prelude.{if◌then◌else◌}
use Rattle.std.specs.List.{list_any}
use Rattle.tx_types.specs.Batch.{PageWrite}
use Rattle.array_machine.specs.ArrayState.{ArrayState, Entry, has_tag, pending_pages, new_entry}
use Rattle.array_machine.specs.declared.answers.SubmitError.{SubmitError}
use Rattle.array_machine.specs.declared.answers.SubmitError.TheVariants as refused

-- what a device has room for: its logical pages, and the pages that may be pending
pub record Limits : Type 0 where
  pub logical : ℕ
  pub pending : ℕ

abbrev pub is_of : ℕ → PageWrite → Bool
is_of page w = w.page == page

-- the transaction has a write of this page
abbrev pub is_owner : ℕ → Entry → Bool
is_owner page e = list_any (is_of page) e.writes

-- the first, and the second only where there is no first
abbrev pub or_else : Option SubmitError → Option SubmitError → Option SubmitError
or_else None second = second
or_else (Some first) second = Some first

-- the refusal that a write's page gives, for the first write that gives one
abbrev pub first_refusal : (PageWrite → Option SubmitError) → List PageWrite → Option SubmitError
first_refusal refusal [] = None
first_refusal refusal (w ∷ ws) = or_else (refusal w) (first_refusal refusal ws)

-- no write at all
abbrev pub empty : List PageWrite → Option SubmitError
empty [] = Some refused.Empty
empty (w ∷ ws) = None

-- the first page that is not below the number of logical pages
abbrev pub range : ℕ → List PageWrite → Option SubmitError
range logical =
    first_refusal (λ w. if nat_lt w.page logical then None else Some (refused.Range w.page))

-- the first page that stood earlier in the batch, where `earlier` are the writes before these
abbrev pub repeated : List PageWrite → List PageWrite → Option SubmitError
repeated earlier [] = None
repeated earlier (w ∷ ws) =
    if list_any (is_of w.page) earlier then Some (refused.Repeated w.page)
    else repeated (earlier ++ w ∷ []) ws

abbrev pub tag_used : ℕ → List Entry → Option SubmitError
tag_used tag entries = if list_any (has_tag tag) entries then Some refused.Tag else None

-- the first page that belongs to an open transaction, and that transaction's tag
abbrev pub overlap : List Entry → List PageWrite → Option SubmitError
overlap entries =
    first_refusal
    (λ w. option_map (λ e. refused.Overlap w.page e.tag) (find (is_owner w.page) entries))

-- how many pages more may be pending
abbrev pub free_of : ℕ → List Entry → ℕ
free_of pending entries = pending - pending_pages entries

abbrev pub full : ℕ → List PageWrite → Option SubmitError
full free writes = if nat_le (length writes) free then None else Some (refused.Full free)

-- the first page that has no version left
abbrev pub spent_page : (ℕ → Bool) → List PageWrite → Option SubmitError
spent_page spent = first_refusal (λ w. if spent w.page then Some (refused.Spent w.page) else None)

-- the first refusal of a batch for which the limits and the open transactions are enough
abbrev pub first_refusals : Limits → List Entry → ℕ → List PageWrite → Option SubmitError
first_refusals limits entries tag writes =
    or_else (empty writes) (or_else (range limits.logical writes) (or_else (repeated [] writes)
    (or_else (tag_used tag entries)
    (or_else (overlap entries writes) (full (free_of limits.pending entries) writes)))))

-- the refusal of a batch, or none where it is opened
abbrev pub refusal : Limits → (ℕ → Bool) → List Entry → ℕ → List PageWrite → Option SubmitError
refusal limits spent entries tag writes =
    or_else (first_refusals limits entries tag writes) (spent_page spent writes)

-- the answer to a batch
abbrev pub answer : Option SubmitError → Result (Unit {0}) SubmitError
answer None = Ok tt
answer (Some e) = Err e

-- the state after the answer: a batch that is not refused is opened
abbrev pub opened : Option SubmitError → ℕ → List PageWrite → ArrayState → ArrayState
opened None tag writes s = record s { entries = s.entries ++ new_entry tag writes ∷ [] }
opened (Some e) tag writes s = s

-- a transaction is submitted
pub record Submits (limits : Limits) (spent : ℕ → Bool) (old new : ArrayState) (tag : ℕ)
    (writes : List PageWrite) (result : Result (Unit {0}) SubmitError) : Type 0 where
  pub answers : result ≡ answer (refusal limits spent old.entries tag writes)
  pub opens : new ≡ opened (refusal limits spent old.entries tag writes) tag writes old
