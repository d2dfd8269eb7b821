-- What a true report says of a page.
use Rattle.std.specs.Prelude.{◌≡◌, ℕ, ◌<◌, ◌^◌, true, List, All}
use Rattle.tx_types.specs.declared.record.Link.{Link}
use Rattle.tx_types.specs.declared.config.Protocol.{Protocol}
use Rattle.record_list.specs.declared.found.Found.{Found}
use Rattle.record_list.specs.declared.found.Why.{Why}
use Rattle.record_list.specs.Records.{newest}
use Rattle.record_list.specs.Verdict.{why}
use Rattle.record_list.specs.Current.{cur}
use Rattle.verdict_report.specs.Walks.{links_of}
use Rattle.verdict_report.specs.Report.{has_record, walk_words}
use Rattle.verdict_report.specs.Lines.{IsReason}

-- the versions of the records are those of their types
abbrev pub HaveVersions : List Found → Type 0
HaveVersions list = All (λ f. (f.rec.version < 2 ^ 64) × (f.rec.back < 2 ^ 64)) list

-- the numbers that a line says are those of their types
pub record AreNumbers (page version : ℕ) (reason : Why) (current : ℕ) : Type 0 where
  pub page_fits : page < 2 ^ 64
  pub version_fits : version < 2 ^ 64
  pub reason_fits : IsReason reason
  pub current_fits : current < 2 ^ 64

-- what a line says of a page is so: it has a record, and this is its newest version, what decides the verdict on that,
-- and its current version; and the links that are named are those of the walk
pub record IsMeant (protocol : Protocol) (list : List Found) (logical page version : ℕ) (reason : Why) (current : ℕ)
    (links : List Link) : Type 0 where
  pub exists : page < logical
  pub recorded : has_record list page ≡ true
  pub newest_is : version ≡ newest list page
  pub reason_is : reason ≡ why protocol list logical page
  pub current_is : current ≡ cur protocol list logical page
  pub walk_is : walk_words links ≡ walk_words (links_of list logical page)
