-- A map in the order of use, as the pages that it holds.
use Rattle.std.specs.Prelude.{ℕ, List, map, Vec}
use Rattle.std.specs.declared.alloc.Global.{Global}
use Rattle.lru.specs.LruCache.{LruCache}
use Rattle.page_cache.specs.PageCacheState.{CachedPage}
use Rattle.page_cache.specs.declared.entries.Key.{Key}

-- the page of an entry
abbrev pub page_in : Key × Vec ℕ Global → CachedPage
page_in e = record { page = e.0.page; version = e.0.version; bytes = e.1.items }

-- the pages of a map, the latest used first
unfoldable pub pages_in : LruCache Key (Vec ℕ Global) → List CachedPage
pages_in c = map page_in c.entries
