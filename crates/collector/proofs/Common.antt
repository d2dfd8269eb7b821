-- The names that most proofs of this crate cite, passed on from one place. Declares nothing.
pub use Rattle.std.proofs.Common.{◌≡◌, ℕ, zero, suc, ◌+◌, ◌*◌, ◌≤◌, ◌&&◌, Bool, true, false, cond, refl, ap, ◌∙◌, arith, eq-eqb, eqb-true, ◌<◌, [], ◌∷◌, length, Option, Some, None, Ok, Err, sym, subst, inl, inr, ◌≢◌, ◌-◌, List, ◌++◌, Contains, Result, ap₂, ◌⊎◌, set, ◌/◌, not, ◌||◌, find, ◌%◌, map, eqb, count_by, All, if◌then◌else◌, get_or, AllPairs}
pub use Rattle.std.proofs.Math.Nat.{mul_comm}
pub use Rattle.std.proofs.lemmas.Bool.{ne_eqb, cases_lt, cond-true, cond-false, cases_Bool, both_ways, eqb-false, and_parts, and_from, false_from_ne_true, false≢true, not-true, cases_eq}
pub use Rattle.std.proofs.lemmas.List.{ext_get_or, get_or-set_same, get_or-set_other, length-map, get_or-map}
pub use Rattle.std.proofs.lemmas.List.Elements.{All-contains}
pub use Rattle.std.proofs.lemmas.Option.{same_Some, none-some}
pub use Rattle.std.specs.List.{list_all, range_with_len}
pub use Rattle.std.specs.Option.{option_map_or, option_map}
pub use Rattle.std.specs.Prelude.{◌==◌, is_err}
pub use Rattle.collector.specs.Best.{IsBest}
pub use Rattle.collector.specs.BreakingOff.{BreaksOff}
pub use Rattle.collector.specs.Calls.{Cleans, Collects, CopiesNeeded, ErasesVictim, Keeps, CopiesRecord, CollectsVictim}
pub use Rattle.collector.specs.Collecting.{is_noted_blank, is_blank_slot, is_blank_block, cleaning, copies, copied_from, copy_program, needed_slots, CopiesDone, collected, swapped, HasUnneeded, noted_cleaned, slots_in, open_state}
pub use Rattle.collector.specs.Going.{CostsAtMost, HasNoNewRecord, is_going, IsNextName, IsPinBeside}
unfoldable pub use Rattle.collector.specs.Going.{blocks_to_go}
pub use Rattle.collector.specs.Known.{page_known, is_unsure}
unfoldable pub use Rattle.collector.specs.Known.{array_known}
pub use Rattle.collector.specs.Looking.{Looks}
pub use Rattle.collector.specs.Matches.{Matches, IsNextOfSpare, IsNotedAt, CanSpare, IsErasing, IsFilledTo, AllOfBlock, CanTakeOwn}
pub use Rattle.collector.specs.Preserves.{KeepsArray, IsThere, Preserves}
pub use Rattle.collector.specs.Retiring.{KeepsStore, RetiresVictim}
pub use Rattle.collector.specs.Settling.{reads_alike, holds_record, settlement, Finds}
pub use Rattle.collector.specs.StoreParts.{StoreParts, store_parts}
pub use Rattle.collector.specs.Victim.{IsVictim, HasNoGarbage, is_shut}
pub use Rattle.collector.specs.declared.unsure.Unsure.{Unsure}
pub use Rattle.die_alloc.proofs.Changes.{has_room_not_spare}
pub use Rattle.die_alloc.specs.BlocksState.{BlocksState, IsFree, block_of_slot, IsBlocksState, table_with_spare, HasRoom, use_of, used_of, IsFull, block_state, with_slot}
pub use Rattle.die_alloc.specs.declared.block_use.BlockUse.{BlockUse}
pub use Rattle.flash_model.proofs.CallLemmas.{Carries-then}
pub use Rattle.flash_model.proofs.ImageLemmas.{block_within}
pub use Rattle.flash_model.proofs.MoveLemmas.{same_moments, same_done, same_read, operation_started, FlashMoves-operates}
pub use Rattle.flash_model.specs.Calls.{Erases, spare_area_of, Programs, Reads}
pub use Rattle.flash_model.specs.Flash.{FlashState, Contents, blank, damaged, complete, slot_at, IsFlash, IsImage, counted_times}
pub use Rattle.flash_model.specs.Moves.{Does}
pub use Rattle.flash_model.specs.Operations.{moment_of, erase, CanDo, Moment, Torn, BreaksIn, program, Operation, image_left}
pub use Rattle.flash_model.specs.Retiring.{Retires}
pub use Rattle.flash_model.specs.declared.flash.Broken.{Broken}
pub use Rattle.flash_model.specs.declared.flash.Seen.{Seen}
pub use Rattle.flash_model.specs.declared.outcome.Outcome.{Outcome}
pub use Rattle.judged_records.proofs.OfChanges.NotedChanges.{block_noted}
pub use Rattle.judged_records.proofs.OfLaws.ImageScans.{records_scanned}
pub use Rattle.judged_records.proofs.OfLaws.NotedImages.{found_in_notes}
pub use Rattle.judged_records.proofs.OfNotes.Blocks.{in_it, inside_block}
pub use Rattle.judged_records.proofs.OfNotes.FoundIn.{found, noted_from, found_in_programmed}
pub use Rattle.judged_records.specs.Images.{IsSoundImage, records_in, written_in}
unfoldable pub use Rattle.judged_records.specs.Images.{array_in}
pub use Rattle.judged_records.specs.IndexState.{IndexState, is_blank, erased, with_spare, copied, IsNoted, current_name_of, pinned_names, damaged_at, programmed}
unfoldable pub use Rattle.judged_records.specs.IndexState.{needed_of, current_of, held_of, home_of, block_to_go}
pub use Rattle.judged_records.specs.Notes.{note_at, note_of, with_block_noted, found_in, rec_of, notes_of}
pub use Rattle.judged_records.specs.declared.note.Note.{Note}
pub use Rattle.judged_records.specs.declared.note.Note.TheVariants.{Blank, Damaged, Holds}
pub use Rattle.list_lemmas.proofs.Membership.{Contains-first, all_from, from_filter, Contains-rest, Contains-nil, in_filter, Contains-cases}
pub use Rattle.list_lemmas.proofs.Ranges.{all_range, in_range}
pub use Rattle.list_lemmas.proofs.Tests.{any_of}
pub use Rattle.page_record.specs.Rules.{record_of}
pub use Rattle.page_record.specs.Spelling.{CanBeSpelled}
pub use Rattle.record_list.proofs.OfFacts.Names.{found_named, present_as, has_own_name}
pub use Rattle.record_list.proofs.OfFacts.Wanted.{wanted_cases, counted_wanted, pinned_wanted, dispensable_removable}
pub use Rattle.record_list.specs.Changes.{LossLaw, CopyLaw, IsInserted, left, PartialWriteLaw, CompletingWriteLaw}
pub use Rattle.record_list.specs.Current.{cur, is_held, IsCurrent, must_go}
pub use Rattle.record_list.specs.Records.{name_of, is_present, has_name}
pub use Rattle.record_list.specs.SoundList.{Pages, PagesExist}
pub use Rattle.record_list.specs.Transaction.{InProgress}
pub use Rattle.record_list.specs.Written.{is_outside, text_at, is_wanted, first_slot, is_slot, value_at, Written, IsRemovable}
pub use Rattle.record_list.specs.WrittenChanges.{WrittenLossLaw}
pub use Rattle.record_list.specs.declared.found.Found.{Found}
pub use Rattle.tx_types.specs.Config.{shape_of, slots_of, blocks_of}
pub use Rattle.tx_types.specs.declared.config.Block.{Block}
pub use Rattle.tx_types.specs.declared.config.BlockState.TheVariants.{Spare, Part}
pub use Rattle.tx_types.specs.declared.config.Config.{Config}
pub use Rattle.tx_types.specs.declared.config.Protocol.{Protocol}
pub use Rattle.tx_types.specs.declared.config.Protocol.TheVariants.{Scc, Bpcc}
pub use Rattle.tx_types.specs.declared.config.Shape.{Shape}
pub use Rattle.tx_types.specs.declared.config.Slot.{Slot}
pub use Rattle.tx_types.specs.declared.record.Link.{Link}
pub use Rattle.tx_types.specs.declared.record.Rec.{Rec}
