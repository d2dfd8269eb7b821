-- A cache of pages, of which the least recently used one goes first.
use Rattle.std.specs.Prelude.{ℕ, ◌≤◌, ◌==◌, Bool, ◌&&◌, if◌then◌else◌, List, [], ◌∷◌, length, take, find, IsTrue, Option}
use Rattle.std.specs.List.{list_all}
use Rattle.std.specs.Option.{option_map_or}

-- a logical page at one of its versions, and its bytes
pub record CachedPage : Type 0 where
  pub page : ℕ
  pub version : ℕ
  pub bytes : List ℕ

-- how many bytes a page has, and the pages that are held, the latest used first
pub record PageCacheState : Type 0 where
  pub page_bytes : ℕ
  pub entries : List CachedPage

-- whether an entry has as many bytes as a page
abbrev pub has_page_size : ℕ → CachedPage → Bool
has_page_size page_bytes e = length e.bytes == page_bytes

-- the most pages that are held
abbrev pub max_cached : ℕ
max_cached = 16

-- at most this many pages are held, each whole
pub record IsPageCacheState (c : PageCacheState) : Type 0 where
  pub most : length c.entries ≤ max_cached
  pub whole : IsTrue (list_all (has_page_size c.page_bytes) c.entries)

-- whether an entry is of this page at this version
abbrev pub has_key : ℕ → ℕ → CachedPage → Bool
has_key page version e = (page == e.page) && (version == e.version)

-- the entry of a page at a version
unfoldable pub cached_page : ℕ → ℕ → List CachedPage → Option CachedPage
cached_page page version entries = find (has_key page version) entries

-- the entries without that of a page at a version
unfoldable pub without_page : ℕ → ℕ → List CachedPage → List CachedPage
without_page page version [] = []
without_page page version (e ∷ es) =
    if has_key page version e then es else e ∷ without_page page version es

-- the entry of a page at a version comes to the front, if there is one
unfoldable pub promoted : ℕ → ℕ → List CachedPage → List CachedPage
promoted page version entries =
    option_map_or (λ e. e ∷ without_page page version entries)
    (cached_page page version entries) entries

-- a page at a version comes in front with these bytes, in place of its entry, and of 17 entries the last one goes
unfoldable pub kept : ℕ → ℕ → List ℕ → List CachedPage → List CachedPage
kept its_page its_version its_bytes entries =
    take max_cached (record { page = its_page; version = its_version; bytes = its_bytes }
    ∷ without_page its_page its_version entries)
