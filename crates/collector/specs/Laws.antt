-- What follows where the tables of a device match its flash, under the rule of a protocol.
use Rattle.std.specs.Prelude.{◌≡◌, ◌≢◌, ◌<◌, ◌↔◌, ◌⊎◌, ℕ, List, Any, All, Contains, Ok, length, true, false}
use Rattle.tx_types.specs.Config.{checked, shape_of, slots_of}
use Rattle.tx_types.specs.declared.config.Config.{Config}
use Rattle.tx_types.specs.declared.config.Protocol.{Protocol}
use Rattle.tx_types.specs.declared.record.Link.{Link}
use Rattle.tx_types.specs.declared.record.Rec.{Rec}
use Rattle.flash_model.specs.Flash.{FlashState, IsFlash}
use Rattle.flash_model.specs.Operations.{moment_of}
use Rattle.flash_model.specs.Readings.{seen_in}
use Rattle.record_list.specs.Records.{is_present, name_of}
use Rattle.record_list.specs.Changes.{PartialWriteKeeps, CompletingWriteKeeps}
use Rattle.record_list.specs.Written.{text_at}
use Rattle.judged_records.specs.declared.note.Note.TheVariants as note
use Rattle.judged_records.specs.Images.{IsSoundImage, array_in, current_in, records_in, written_in}
use Rattle.judged_records.specs.Notes.{notes_of, note_at, found_in}
use Rattle.judged_records.specs.IndexState.{IndexState, IsNoted, IsNextRecord, current_of, pinned_names, programmed}
use Rattle.judged_records.specs.Opening.{IsChosenSpare, opening_noted}
use Rattle.die_alloc.specs.BlocksState.{BlocksState}
use Rattle.die_alloc.specs.Opening.{opening_table}
use Rattle.collector.specs.declared.unsure.Unsure.{Unsure}
use Rattle.collector.specs.declared.unsure.Unsure.TheVariants as unsure
use Rattle.collector.specs.declared.unsure.Settled.TheVariants as settled
use Rattle.collector.specs.Going.{IsNextName}
use Rattle.collector.specs.Known.{known_image, array_known}
use Rattle.collector.specs.Matches.{Matches, CanTake}
use Rattle.collector.specs.Preserves.{Preserves, KeepsArray, IsThere}
use Rattle.collector.specs.Settling.{settlement}

-- The tables of a sound image, with the block that is chosen as the spare, match the flash that they were read from.
abbrev pub OpenedTablesMatch : Type 0
OpenedTablesMatch = (its : Config) (s s' : FlashState) (spare : ℕ) →
    checked its ≡ Ok s.shape → IsFlash s →
    IsSoundImage its.protocol its.logical s.shape s.image → IsChosenSpare its s.image spare →
    s'.shape ≡ s.shape → moment_of s' ≡ moment_of s →
    Matches s' (opening_noted its s.image spare)
    (opening_table (shape_of its) (seen_in s.image) spare) unsure.Nothing

-- The known image is sound, its notes are those of the tables, and it stands for the array that is known.
pub record KnownImageIsSound (p : Protocol) : Type 0 where
  pub sound : (s : FlashState) (n : IndexState) (t : BlocksState) (u : Unsure) →
      Matches s n t u → n.config.protocol ≡ p →
      IsSoundImage p n.config.logical s.shape (known_image n t.spare u s.image)
  pub notes : (s : FlashState) (n : IndexState) (t : BlocksState) (u : Unsure) →
      Matches s n t u → n.config.protocol ≡ p →
      notes_of p (known_image n t.spare u s.image) ≡ n.notes
  pub array : (s : FlashState) (n : IndexState) (t : BlocksState) (u : Unsure) →
      Matches s n t u → n.config.protocol ≡ p →
      array_in p n.config.logical (known_image n t.spare u s.image) ≡ array_known n s.image

-- The image has the records, the current versions and the array that will be known of it once the place is settled
-- whose contents are not known.
pub record ImageIsSound (p : Protocol) : Type 0 where
  pub matches : (s : FlashState) (n : IndexState) (t : BlocksState) (u : Unsure) →
      Matches s n t u → CanTake n t u → n.config.protocol ≡ p →
      Matches s (settlement n t s.image u).noted (settlement n t s.image u).table unsure.Nothing
  pub records : (s : FlashState) (n : IndexState) (t : BlocksState) (u : Unsure) →
      Matches s n t u → CanTake n t u → n.config.protocol ≡ p →
      records_in p s.image ≡ found_in (settlement n t s.image u).noted.notes
  pub current : (s : FlashState) (n : IndexState) (t : BlocksState) (u : Unsure) (page : ℕ) →
      Matches s n t u → CanTake n t u → n.config.protocol ≡ p →
      current_in p n.config.logical s.image page
      ≡ current_of (settlement n t s.image u).noted page
  pub array : (s : FlashState) (n : IndexState) (t : BlocksState) (u : Unsure) →
      Matches s n t u → CanTake n t u → n.config.protocol ≡ p →
      array_in p n.config.logical s.image
      ≡ array_known (settlement n t s.image u).noted s.image
  -- All but the record of an open transaction that is found changes nothing that is known of
  -- pages.
  pub preserves : (s : FlashState) (n : IndexState) (t : BlocksState) (u : Unsure) →
      Matches s n t u → CanTake n t u → n.config.protocol ≡ p →
      (settlement n t s.image u).answer ≢ settled.Present →
      Preserves n (settlement n t s.image u).noted
      × (array_in p n.config.logical s.image ≡ array_known n s.image)

-- What is kept is known too: the array, and the text of each pinned name that is there.
pub record ArrayStays (p : Protocol) : Type 0 where
  pub array : (s s' : FlashState) (n n' : IndexState) (t t' : BlocksState) (u u' : Unsure) →
      Matches s n t u → Matches s' n' t' u' → n.config.protocol ≡ p →
      Preserves n n' → KeepsArray p n.config.logical s.image s'.image →
      array_known n' s'.image ≡ array_known n s.image
  pub texts : (s s' : FlashState) (n n' : IndexState) (t t' : BlocksState) (u u' : Unsure)
      (name : Link) →
      Matches s n t u → Matches s' n' t' u' → n.config.protocol ≡ p →
      Preserves n n' → KeepsArray p n.config.logical s.image s'.image →
      Contains (pinned_names n.pins) name → IsThere n name →
      text_at (written_in p s'.image) name ≡ text_at (written_in p s.image) name
  -- Each pinned name is of a page.
  pub next : (n n' : IndexState) (names : List Link) (name : Link) →
      length n.pins ≡ n.config.logical → Preserves n n' →
      IsNextName n names name → IsNextName n' names name

-- What the tables keep where the next record of a transaction is noted, which leaves a name absent, or completes the
-- cycle.
pub record NotingKeeps (p : Protocol) : Type 0 where
  pub names : (n : IndexState) (at : ℕ) (rec : Rec) (name : Link) →
      IsNoted p n → at < slots_of (shape_of n.config) → note_at n.notes at ≡ note.Blank →
      IsThere (programmed n at rec) name ↔ (IsThere n name ⊎ (name ≡ name_of rec))
  pub partial : (n : IndexState) (at : ℕ) (rec : Rec) (next : IsNextRecord n rec) →
      IsNoted p n → at < slots_of (shape_of n.config) → note_at n.notes at ≡ note.Blank →
      Any (λ name. is_present (found_in (programmed n at rec).notes) name ≡ false) next.names →
      PartialWriteKeeps p (found_in n.notes) (found_in (programmed n at rec).notes)
      n.config.logical next.names
  pub completing : (n : IndexState) (at : ℕ) (rec : Rec) (next : IsNextRecord n rec) →
      IsNoted p n → at < slots_of (shape_of n.config) → note_at n.notes at ≡ note.Blank →
      All (λ name. is_present (found_in (programmed n at rec).notes) name ≡ true) next.names →
      CompletingWriteKeeps p (found_in n.notes) (found_in (programmed n at rec).notes)
      n.config.logical next.names
