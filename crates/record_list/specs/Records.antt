-- What a list of records says of pages: newest versions, mentions, and which names are present.
use Rattle.std.specs.Prelude.{ℕ, ◌<◌, ◌≤◌, ◌==◌, max, Bool, false, ◌&&◌, ◌||◌, nat_lt, if◌then◌else◌, List, [], ◌∷◌, slice_index_or, All, AllPairs}
use Rattle.std.specs.List.{list_any}
use Rattle.tx_types.specs.declared.record.Link.{Link}
use Rattle.tx_types.specs.declared.record.Rec.{Rec}
pub use Rattle.tx_types.specs.Names.{name_of, has_name}
use Rattle.record_list.specs.declared.found.Found.{Found}

-- the greatest number that `of` gives a record, 0 for no record
abbrev pub greatest : (Rec → ℕ) → List Found → ℕ
greatest of [] = 0
greatest of (f ∷ fs) = max (of f.rec) (greatest of fs)

-- the version of a record of this page, 0 for one of another page
abbrev pub version_of : ℕ → Rec → ℕ
version_of page r = if r.page == page then r.version else 0

-- the version at which a record links to this page, 0 for a link to another page
abbrev pub linked_at : ℕ → Rec → ℕ
linked_at page r = if r.next.page == page then r.next.version else 0

-- the greatest version at which a record mentions this page, as its own or as its link's
abbrev pub mention_at : ℕ → Rec → ℕ
mention_at page r = max (version_of page r) (linked_at page r)

-- whether a record mentions this page below a version, by either mention
abbrev pub mentions_below : ℕ → ℕ → Rec → Bool
mentions_below page below r =
    ((r.page == page) && nat_lt r.version below)
    || ((r.next.page == page) && nat_lt r.next.version below)

-- the version of a record of this page that is below a version, else 0
abbrev pub version_below : ℕ → ℕ → Rec → ℕ
version_below page below r = if (r.page == page) && nat_lt r.version below then r.version else 0

-- the greatest version of a page, 0 for none
abbrev pub newest : List Found → ℕ → ℕ
newest list page = greatest (version_of page) list

-- the greatest version at which a record mentions a page, 0 for none
abbrev pub mention : List Found → ℕ → ℕ
mention list page = greatest (mention_at page) list

-- the greatest version of a page below a version, 0 for none
abbrev pub next_older : List Found → ℕ → ℕ → ℕ
next_older list page below = greatest (version_below page below) list

abbrev pub is_same : Link → Link → Bool
is_same a b = (a.page == b.page) && (a.version == b.version)

-- whether some record has the name
abbrev pub is_present : List Found → Link → Bool
is_present list name = list_any (λ f. has_name name f.rec) list

-- what stands for the record at an index where there is none
abbrev pub nothing : Found
nothing = record {
  slot = record { 0 = 0 };
  rec = record {
    page = 0;
    version = 0;
    next = record { page = 0; version = 0 };
    back = 0;
    count = 0;
    discard = false;
  };
}

-- the record at this index
abbrev pub record_at : List Found → ℕ → Rec
record_at list at = (slice_index_or list at nothing).rec

-- a list as a scan of the flash gives it
pub record IsScanned (list : List Found) : Type 0 where
  pub ascending : AllPairs (λ f g. f.slot.0 < g.slot.0) list
  pub versions : All (λ f. (1 ≤ f.rec.version) × (1 ≤ f.rec.next.version)) list
