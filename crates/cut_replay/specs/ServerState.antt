-- A flash on which commands are served one at a time, as its callers see it.
use Rattle.tx_types.specs.declared.config.Config.{Config}
use Rattle.page_cache.specs.PageCacheState.{PageCacheState}
use Rattle.cut_replay.specs.Sessions.{DeviceSession}

-- its configuration, its session, and the pages that were read
pub record ServerState (F : Type 0) : Type 0 where
  pub config : Config
  pub session : DeviceSession F
  pub cache : PageCacheState
