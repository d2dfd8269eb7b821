-- The names that most proofs of this crate cite, passed on from one place. Declares nothing.
pub use Rattle.std.proofs.Common.{◌≡◌, ℕ, ◌<◌, ◌≤◌, Bool, true, List, [], ◌∷◌, length, get_or, find, All, AllPairs, Some, IfSome, refl, sym, ap, ◌∙◌, subst, inl, inr, arith, Contains, ◌≢◌, zero, suc, ◌⊎◌, Option, None, ap₂, ◌==◌, ◌&&◌, not, false, cond, ◌||◌, ◌+◌, ◌-◌, position, nat_lt, eq-eqb, ◌*◌, take, count_by, eqb-true, map}
pub use Rattle.std.proofs.lemmas.Bool.{false≢true, cases_Bool, cond-true, cond-false, cases_lt, and_parts, cases_eq}
pub use Rattle.std.proofs.lemmas.List.{length-map, get_or-map, get_or_default}
pub use Rattle.std.proofs.lemmas.List.Elements.{All-contains, Contains-get_or}
pub use Rattle.std.proofs.lemmas.List.Sorted.{Contains-permutation, IsPermutation-sym}
pub use Rattle.std.specs.List.{list_any}
pub use Rattle.die_alloc.specs.Opening.{opening_table}
pub use Rattle.flash_model.specs.Flash.{Contents, slot_at, FlashState}
pub use Rattle.flash_model.specs.Readings.{reads_blank}
pub use Rattle.flash_model.specs.declared.flash.Seen.{Seen}
pub use Rattle.flash_model.specs.declared.flash.Seen.TheVariants.{Blank}
pub use Rattle.judged_records.proofs.OfLaws.ImageScans.{records_scanned}
pub use Rattle.judged_records.specs.Images.{written_in, records_in, SlotReads, IsLeastImageBreach}
pub use Rattle.judged_records.specs.Notes.{complete_slots}
pub use Rattle.judged_records.specs.Opening.{IsChosenFrom}
pub use Rattle.list_lemmas.proofs.Membership.{all_from}
pub use Rattle.list_lemmas.proofs.Pairs.{pairs_head, pairs_tail}
pub use Rattle.record_list.proofs.OfFacts.Names.{has_name_true, has_own_name, same_name}
pub use Rattle.record_list.specs.Changes.{left}
pub use Rattle.record_list.specs.Current.{cur, IsCurrent, is_held}
pub use Rattle.record_list.specs.Records.{nothing, name_of, has_name, is_present, IsScanned, record_at}
pub use Rattle.record_list.specs.Search.{FindsFirst}
pub use Rattle.record_list.specs.SoundList.{Pages, Copies, Links, Present, Loose, Ending, CurrentIsPresent, CopiesAgree, LinksDiffer, IsSoundList}
unfoldable pub use Rattle.record_list.specs.SoundList.{LinkHasCounted, LooseIsShown, LooseEnds}
pub use Rattle.record_list.specs.Written.{KeepsWritten, is_outside, IsRemovable, HasRemovable}
pub use Rattle.record_list.specs.declared.found.Found.{Found}
pub use Rattle.scan_recovery.specs.Opening.{FindsHighest}
pub use Rattle.scan_recovery.specs.Reading.{ReadsAll, ReadsSome}
pub use Rattle.scan_recovery.specs.Scans.{IsScanOf}
pub use Rattle.scan_recovery.specs.Searches.{IsLowestSharer}
pub use Rattle.scan_recovery.specs.Twins.{bytes_shown, AgreesWithLowest, is_compared, compared_to}
unfoldable pub use Rattle.scan_recovery.specs.Twins.{compared}
pub use Rattle.sorted_records.proofs.OfWalk.WalkOrbits.{absent_at}
pub use Rattle.sorted_records.specs.Names.{NextDiffers}
pub use Rattle.sorted_records.specs.SortedRecords.{Sorts, list_of}
pub use Rattle.tx_types.specs.Config.{IsShape, slots_of, blocks_of}
pub use Rattle.tx_types.specs.declared.config.Block.{Block}
pub use Rattle.tx_types.specs.declared.config.Protocol.{Protocol}
pub use Rattle.tx_types.specs.declared.config.Protocol.TheVariants.{Scc, Bpcc}
pub use Rattle.tx_types.specs.declared.config.Shape.{Shape}
pub use Rattle.tx_types.specs.declared.config.Slot.{Slot}
pub use Rattle.tx_types.specs.declared.record.Link.{Link}
pub use Rattle.tx_types.specs.declared.record.Rec.{Rec}
