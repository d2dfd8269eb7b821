-- How a server keeps what it stands for.
use Rattle.std.specs.Prelude.{◌≡◌, length}
use Rattle.tx_types.specs.declared.config.Protocol.{Protocol}
use Rattle.flash_model.specs.Flash.{FlashState}
use Rattle.cut_replay.specs.ServerState.{ServerState}
use Rattle.cut_replay.specs.Sessions.{Fits}
use Rattle.cut_replay.specs.declared.server.Server.TheInside.{Inside}

abbrev pub server_of : {F R : Type 0} → Inside F R → ServerState F
server_of s = record { config = s.config; session = s.session; cache = s.cache }

-- Its session is one on a flash of its configuration, and there is room for a page. This is so whatever was served,
-- also where serving ended for an error.
pub record ServerInvariant {F R : Type 0} (state : F → FlashState) (protocol : Protocol) (s : Inside F R) : Type 0 where
  pub rule : s.config.protocol ≡ protocol
  pub fits : Fits state s.config s.cache.entries s.session
  pub room : length s.room.items ≡ s.config.page_bytes
  pub size : s.cache.page_bytes ≡ s.config.page_bytes
