-- An image in which there is nothing to collect.
use Rattle.std.specs.Prelude.{◌≡◌, ◌≢◌, ◌⊎◌, ℕ, true, List, All, AllPairs, Contains}
use Rattle.tx_types.specs.declared.config.Protocol.{Protocol}
use Rattle.tx_types.specs.declared.record.Link.{Link}
use Rattle.flash_model.specs.Flash.{Contents, damaged}
use Rattle.record_list.specs.Records.{name_of}
use Rattle.record_list.specs.Current.{IsCurrent, is_held}
use Rattle.judged_records.specs.Images.{records_in}

-- no slot is damaged, no record stands in two slots, and each record is current, or held, or has one of these names
pub record IsTidy (protocol : Protocol) (logical : ℕ) (image : List Contents)
    (names : List Link) : Type 0 where
  pub whole : All (λ contents. contents ≢ damaged) image
  pub once : AllPairs (λ f g. name_of f.rec ≢ name_of g.rec) (records_in protocol image)
  pub wanted : All (λ f. IsCurrent protocol (records_in protocol image) logical f.rec
      ⊎ ((is_held protocol (records_in protocol image) logical f.rec ≡ true)
      ⊎ Contains names (name_of f.rec)))
      (records_in protocol image)
