-- How a cache keeps its pages.
use Rattle.std.specs.Prelude.{◌≡◌}
use Rattle.page_cache.specs.PageCacheState.{PageCacheState, IsPageCacheState, max_cached}
use Rattle.page_cache.specs.Entries.{pages_in}
use Rattle.page_cache.specs.declared.cache.PageCache.TheInside.{Inside}

abbrev pub pages_of : Inside → PageCacheState
pages_of c = record { page_bytes = c.page_bytes; entries = pages_in c.pages }

pub record PageCacheInvariant (c : Inside) : Type 0 where
  pub capacity : c.pages.cap ≡ max_cached
  pub cache : IsPageCacheState (pages_of c)
