-- Which records are held in a later image: those that were held in an earlier one, and those that came into force
-- since.
use Rattle.std.specs.Prelude.{◌≡◌, ◌⊎◌, ℕ, ◌<◌, ◌≤◌, true, List}
use Rattle.tx_types.specs.declared.config.Protocol.{Protocol}
use Rattle.tx_types.specs.declared.record.Rec.{Rec}
use Rattle.flash_model.specs.Flash.{Contents}
use Rattle.record_list.specs.declared.found.Found.{Found}
use Rattle.record_list.specs.Current.{cur, is_held}
use Rattle.judged_records.specs.Images.{records_in}

-- No current version falls. A record that is held afterwards was held before, or came into force since: its version is
-- above the one that was current.
pub record AddsNoHeld (protocol : Protocol) (logical : ℕ) (old new : List Found) : Type 0 where
  pub versions : (page : ℕ) → page < logical → cur protocol old logical page ≤ cur protocol new logical page
  pub held : (r : Rec) → r.page < logical → is_held protocol new logical r ≡ true →
      (is_held protocol old logical r ≡ true) ⊎ (cur protocol old logical r.page < r.version)

-- so of the records of two images
abbrev pub AddsNoHeldIn : Protocol → ℕ → List Contents → List Contents → Type 0
AddsNoHeldIn protocol logical old new =
    AddsNoHeld protocol logical (records_in protocol old) (records_in protocol new)
