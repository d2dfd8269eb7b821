-- Records of which is known where their pages stand.
use Rattle.std.specs.Prelude.{ℕ, List}
use Rattle.tx_types.specs.declared.config.Protocol.{Protocol}
use Rattle.record_list.specs.declared.found.Found.{Found}

-- a list of records, and the protocol and the number of pages that decide which of them are current
pub record CurrentVersionsState : Type 0 where
  pub protocol : Protocol
  pub logical : ℕ
  pub list : List Found
