-- What stays of what is noted, and of the texts, while blocks are collected.
use Rattle.std.specs.Prelude.{◌≡◌, ℕ, ◌<◌, true, List, Contains}
use Rattle.tx_types.specs.declared.config.Protocol.{Protocol}
use Rattle.tx_types.specs.declared.record.Link.{Link}
use Rattle.tx_types.specs.declared.record.Rec.{Rec}
use Rattle.flash_model.specs.Flash.{Contents}
use Rattle.record_list.specs.Changes.{SameCurrent}
use Rattle.record_list.specs.Current.{is_held}
use Rattle.record_list.specs.Records.{is_present}
use Rattle.record_list.specs.Transaction.{InProgress}
use Rattle.record_list.specs.Written.{text_at}
use Rattle.judged_records.specs.Images.{written_in, records_in, array_in}
use Rattle.judged_records.specs.Notes.{found_in}
use Rattle.judged_records.specs.IndexState.{IndexState, current_of, current_name_of, held_of, pinned_names}

-- a name that some noted record has
abbrev pub IsThere : IndexState → Link → Type 0
IsThere n name = is_present (found_in n.notes) name ≡ true

-- Current versions, pins and mentions stay. No name is added; those that are current or pinned stay, and so do the
-- transactions in progress. No record is held that was not.
pub record Preserves (old new : IndexState) : Type 0 where
  pub config : new.config ≡ old.config
  pub pins : new.pins ≡ old.pins
  pub mentions : new.mentions ≡ old.mentions
  pub current : (page : ℕ) → page < old.config.logical → current_of new page ≡ current_of old page
  pub fewer : (name : Link) → IsThere new name → IsThere old name
  pub pinned : (name : Link) → Contains (pinned_names old.pins) name → IsThere old name →
      IsThere new name
  pub present :
      (page : ℕ) → page < old.config.logical → IsThere old (current_name_of old page) →
      IsThere new (current_name_of old page)
  pub held : (rec : Rec) → held_of new rec ≡ true → held_of old rec ≡ true
  pub in_progress : (names : List Link) →
      InProgress old.config.protocol (found_in old.notes) old.config.logical names →
      InProgress old.config.protocol (found_in new.notes) old.config.logical names

-- The image stands for the same array, with the same current versions, and a name that it has now has the text that it
-- had. No record is held that was not.
pub record KeepsArray (protocol : Protocol) (logical : ℕ) (old new : List Contents) : Type 0 where
  pub array : array_in protocol logical new ≡ array_in protocol logical old
  pub versions : SameCurrent protocol (records_in protocol old) (records_in protocol new) logical
  pub held : (r : Rec) → is_held protocol (records_in protocol new) logical r ≡ true →
      is_held protocol (records_in protocol old) logical r ≡ true
  pub texts : (name : Link) → is_present (records_in protocol new) name ≡ true →
      text_at (written_in protocol new) name ≡ text_at (written_in protocol old) name
