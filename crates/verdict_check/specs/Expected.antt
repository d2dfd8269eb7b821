-- What the line of a page is to say.
use Rattle.std.specs.Prelude.{◌≡◌, ℕ, List, length}
use Rattle.tx_types.specs.declared.config.Protocol.{Protocol}
use Rattle.record_list.specs.declared.found.Found.{Found}
use Rattle.record_list.specs.Records.{newest}
use Rattle.record_list.specs.Verdict.{why}
use Rattle.record_list.specs.Current.{cur}
use Rattle.verdict_report.specs.Walks.{links_of}
use Rattle.verdict_check.specs.declared.expected.Expected.{Expected}

-- it says what the list says of the page
pub record IsExpected (protocol : Protocol) (list : List Found) (logical : ℕ) (line : Expected) : Type 0 where
  pub newest_is : line.newest ≡ newest list line.page
  pub why_is : line.why ≡ why protocol list logical line.page
  pub current_is : line.current ≡ cur protocol list logical line.page
  pub links_are : line.links ≡ length (links_of list logical line.page)
