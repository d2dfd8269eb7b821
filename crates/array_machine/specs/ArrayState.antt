-- The array machine: pages, and transactions that are open. It knows nothing of slots, links or tables.
use Rattle.std.specs.Prelude.{◌≡◌, ◌⊎◌, ℕ, ◌==◌, Bool, true, false, List, [], ◌∷◌, length, sum_by, find, slice_set, Contains, slice_index_or, Option, None}
use Rattle.std.specs.Prelude.{if◌then◌else◌}
use Rattle.tx_types.specs.Batch.{PageWrite}
use Rattle.array_machine.specs.declared.mark.Mark.{Mark}
use Rattle.array_machine.specs.declared.mark.Mark.TheVariants.{Plain, Doubt, Whole}

-- each logical page: its bytes, or none where it is blank
abbrev pub Pages : Type 0
Pages = List (Option (List ℕ))

abbrev pub is_doubted : Mark → Bool
is_doubted Plain = false
is_doubted Doubt = true
is_doubted Whole = false

-- an open transaction: its tag, what it writes, and how many of its pages are written
pub record Entry : Type 0 where
  pub tag : ℕ
  pub writes : List PageWrite
  pub done : ℕ
  pub mark : Mark

-- the array, and the open transactions in the order of their opening
pub record ArrayState : Type 0 where
  pub pages : Pages
  pub entries : List Entry

-- the array with all the writes taken at once
abbrev pub put : Pages → List PageWrite → Pages
put pages [] = pages
put pages (w ∷ ws) = put (slice_set pages w.page w.value) ws

-- what the array has at a page
abbrev pub page_at : Pages → ℕ → Option (List ℕ)
page_at pages page = slice_index_or pages page None

-- an array with nothing open
abbrev pub idle : Pages → ArrayState
idle pages = record { pages = pages; entries = [] }

-- a transaction that was just opened
abbrev pub new_entry : ℕ → List PageWrite → Entry
new_entry tag writes = record { tag = tag; writes = writes; done = 0; mark = Plain }

abbrev pub has_tag : ℕ → Entry → Bool
has_tag tag e = e.tag == tag

-- the open transaction with a tag
abbrev pub entry_of : ℕ → List Entry → Option Entry
entry_of tag entries = find (has_tag tag) entries

-- the open transactions without the one with a tag
abbrev pub without : ℕ → List Entry → List Entry
without tag [] = []
without tag (e ∷ es) = if has_tag tag e then es else e ∷ without tag es

-- the open transactions with another one in the place of the one with a tag
abbrev pub with_entry : ℕ → Entry → List Entry → List Entry
with_entry tag new [] = []
with_entry tag new (e ∷ es) = if has_tag tag e then new ∷ es else e ∷ with_entry tag new es

-- the pages of all open transactions
abbrev pub pending_pages : List Entry → ℕ
pending_pages entries = sum_by (λ e. length e.writes) entries

-- the array of the image is the device's, or that with the pages of the transaction in doubt
abbrev pub Represents : ArrayState → Pages → Type 0
Represents s pages =
    (pages ≡ s.pages)
    ⊎ ((e : Entry) × Contains s.entries e × (e.mark ≡ Doubt) × (pages ≡ put s.pages e.writes))
