-- The names that most proofs of this crate cite, passed on from one place. Declares nothing.
pub use Rattle.std.proofs.Common.{◌≡◌, ◌≢◌, ◌⊎◌, ℕ, ◌<◌, Bool, false, List, length, map, get_or, Option, Some, None, Result, Ok, Err, refl, sym, ap, ap₂, ◌∙◌, subst, inl, inr, arith, eqb-true, suc, ◌+◌, ◌≤◌, drop, All, Contains, true, [], ◌∷◌, ◌++◌, ◌==◌, cond, set, eq-eqb, ne_eqb, AllPairs, ◌^◌, zero, replicate, not, ◌&&◌, ◌-◌, ◌*◌, ◌/◌, eqb, ◌||◌, is_some, count_by, vec_capacity, rules}
pub use Rattle.std.proofs.Math.Seq.{map-set_same}
pub use Rattle.std.proofs.lemmas.Bool.{cond_both, cases_eq, cond-true, cond-false, lt-ltb, cases_Bool, cases_lt, le-ltb, both_ways, eqb-false, and_from}
pub use Rattle.std.proofs.lemmas.List.{length-map, get_or-map, get_or_default, length-set, get_or-set_same, get_or-set_other, append-nil, append_assoc, drop_all, drop_more, take_more, length-append, map-append, map_push}
pub use Rattle.std.proofs.lemmas.List.Elements.{All-from_get_or, All-map, All-append, All-nil, All-head, All-tail, All-cons, Contains-get_or, All-contains, All-push}
pub use Rattle.std.proofs.lemmas.List.Quantifiers.{position-Some}
pub use Rattle.std.proofs.lemmas.List.Sums.{sum-map}
pub use Rattle.std.proofs.lemmas.Option.{none-some}
pub use Rattle.std.specs.List.{sum, range_with_len, zip, AllZip, list_any, flat_map, cons_option}
pub use Rattle.std.specs.Option.{option_map}
pub use Rattle.std.specs.Prelude.{position, remove, Any, ◌↔◌, option_and_then, is_none, slice_set, nat_lt, slice_index, if◌then◌else◌, find}
pub use Rattle.std.specs.Result.{is_err}
pub use Rattle.std.specs.Vec.{with_items}
pub use Rattle.array_machine.specs.ArrayState.{ArrayState, Entry, entry_of, has_tag, without, page_at, pending_pages, is_doubted, put, Pages, idle, with_entry, Represents}
pub use Rattle.array_machine.specs.Batches.{GoInTurn, MayTakeEach}
pub use Rattle.array_machine.specs.Step.{settled, settled_entry, settled_mark, GoesOn, StepsAs, CutLeaves, IsAtLast}
pub use Rattle.array_machine.specs.Submit.{spent_page, or_else}
pub use Rattle.array_machine.specs.declared.answers.Collected.TheVariants.{Nothing}
pub use Rattle.array_machine.specs.declared.answers.Moved.{Moved}
pub use Rattle.array_machine.specs.declared.answers.Progress.{Progress}
pub use Rattle.array_machine.specs.declared.answers.StepError.{StepError}
pub use Rattle.array_machine.specs.declared.mark.Mark.{Mark}
pub use Rattle.array_machine.specs.declared.mark.Mark.TheVariants.{Plain, Doubt, Whole}
pub use Rattle.collector.proofs.OfNotes.KeepsLemmas.{by_err}
pub use Rattle.collector.proofs.OfSettle.SettledExits.{matches_still}
pub use Rattle.collector.specs.Going.{IsNextName}
unfoldable pub use Rattle.collector.specs.Going.{blocks_to_go}
pub use Rattle.collector.specs.Known.{page_known, known_image}
unfoldable pub use Rattle.collector.specs.Known.{array_known}
pub use Rattle.collector.specs.Laws.{NotingKeeps, ArrayStays, ImageIsSound}
pub use Rattle.collector.specs.Matches.{Matches, CanSpare, CanTake, CanTakeOwn}
pub use Rattle.collector.specs.Preserves.{IsThere, Preserves, KeepsArray}
pub use Rattle.collector.specs.Settling.{settlement, Settlement, slots_read}
pub use Rattle.collector.specs.StoreParts.{StoreParts}
pub use Rattle.collector.specs.declared.unsure.Unsure.{Unsure}
pub use Rattle.die_alloc.specs.BlocksState.{BlocksState, IsBlocksState, IsFirstFree, with_slot, IsFree}
unfoldable pub use Rattle.die_alloc.specs.NextSlot.{next_slot_in}
pub use Rattle.flash_model.proofs.CallLemmas.{Carries-nothing, Carries-then}
pub use Rattle.flash_model.proofs.MoveLemmas.{FlashMoves-nothing, FlashMoves-then}
pub use Rattle.flash_model.specs.Calls.{Carries}
pub use Rattle.flash_model.specs.Flash.{FlashState, Contents, complete, slot_at, blank, damaged, IsImage, counted_times}
pub use Rattle.flash_model.specs.Moves.{Does, FlashMoves}
pub use Rattle.flash_model.specs.Operations.{Moment, moment_of, die_of, Load, load_left, CanDo, image_left, program, fire, left_each}
pub use Rattle.flash_model.specs.declared.flash.Broken.{Broken}
pub use Rattle.flash_model.specs.declared.outcome.Outcome.{Outcome}
pub use Rattle.judged_records.proofs.OfLaws.ImageScans.{written}
pub use Rattle.judged_records.proofs.OfNotes.NotedFacts.{noted_present}
pub use Rattle.judged_records.specs.ImageChanges.{TextsStay}
pub use Rattle.judged_records.specs.ImageLaws.{ImagePartialLaw, ImageCompletingLaw}
pub use Rattle.judged_records.specs.Images.{written_in, records_in, IsSoundImage}
unfoldable pub use Rattle.judged_records.specs.Images.{array_in, current_in}
pub use Rattle.judged_records.specs.IndexState.{IndexState, pinned_names, mention_of, IsNoted, current_name_of, IsNextRecord, programmed, pinned_at, damaged_at}
unfoldable pub use Rattle.judged_records.specs.IndexState.{current_of, block_to_go, discarded_of}
pub use Rattle.judged_records.specs.Notes.{found_in, note_at}
pub use Rattle.judged_records.specs.declared.note.Note.TheVariants.{Blank}
pub use Rattle.list_lemmas.proofs.Membership.{all_from, Contains-cases, Contains-nil, Contains-rest}
pub use Rattle.list_lemmas.proofs.Pairs.{pairs_head, pairs_tail, pairs_cons}
pub use Rattle.list_lemmas.proofs.Quantifiers.{all_remove}
pub use Rattle.open_table.specs.OpenTransactionsState.{Naming, no_name, name_at, write_at, OpenTransactionsState, TransactionState, no_transaction, transaction_at, entries_of, namings_of, with_transaction, HasLimitsOf, with_noted_count, with_mark, with_done, HasPlace, bytes_due, name_due, IsDueAt, begun}
pub use Rattle.open_table.specs.PendingWrites.{transaction_of, write_held, IsWhole}
unfoldable pub use Rattle.open_table.specs.PendingWrites.{with_owner}
pub use Rattle.open_table.specs.declared.pending_writes.PendingWrite.{PendingWrite}
pub use Rattle.open_table.specs.declared.pending_writes.Transaction.{Transaction}
pub use Rattle.page_record.specs.Spelling.{CanBeSpelled, spelling}
pub use Rattle.record_list.proofs.OfFacts.Names.{found_named}
pub use Rattle.record_list.proofs.OfFacts.Wanted.{counted_wanted}
pub use Rattle.record_list.specs.Current.{cur, must_go}
pub use Rattle.record_list.specs.Records.{name_of, is_present, version_of, mention, mention_at}
pub use Rattle.record_list.specs.Transaction.{ShareNoPage, InProgress, back_version}
pub use Rattle.record_list.specs.Written.{text_at, value_of, value_at, is_outside}
pub use Rattle.record_list.specs.declared.found.Found.{Found}
pub use Rattle.tx_engine.specs.BatchCalls.{AcknowledgeInTurn, AreJobsDue, CanWriteAll, InOrderOfDies, IsJobDue, CanAcknowledgeAll, load_of, loads_for, CanNoteEach, nexts_noted, AcknowledgesAll, DroppedAll, StepsTogether, WrittenAll, chosen_now}
pub use Rattle.tx_engine.specs.Batches.{taken_writes, takes_each, chosen_from, is_ready, jobs_of, record_due, noted_each, used_each, DropsDevice, MovesDevice, chosen_of}
pub use Rattle.tx_engine.specs.Breaking.{WritingBreaks}
pub use Rattle.tx_engine.specs.Calls.{IsReady, SettlesDevice, WritesPage, AdvancesTo}
pub use Rattle.tx_engine.specs.Costs.{StepCosts}
pub use Rattle.tx_engine.specs.DeviceCalls.{ArmsDevice, StepsDevice}
pub use Rattle.tx_engine.specs.DeviceState.{DeviceState, Stands, IsUnderWay, IsAsMarked, IsNamed, text_in, text_with, IsOpenAs, DoubtsAs, IsOwn, limits_of}
pub use Rattle.tx_engine.specs.Exits.{Exits, VersionsRise, settled_writes, ExitsTables, IsNamedAt, is_there, is_plain, done_writes, MentionsAtMost}
pub use Rattle.tx_engine.specs.Naming.{with_pins, is_spent}
pub use Rattle.tx_engine.specs.Settling.{with_next, is_writing, is_at_last, next_writes, must_program, CountsOn, Counts, Advances, AdvanceRises, WriteFails, AddsOnly, settlement_of, with_settlement}
pub use Rattle.tx_engine.specs.StoreState.{StoreState, IsStoreState, store_in, CanWrite, WritesOwn, WritesStored}
pub use Rattle.tx_engine.specs.Tables.{device_in, DeviceInvariant, device_of}
pub use Rattle.tx_engine.specs.Writing.{BringsPage, due_record}
pub use Rattle.tx_engine.specs.declared.device.Device.TheInside.{Inside}
pub use Rattle.tx_engine.specs.declared.jobs.Job.{Job}
pub use Rattle.tx_types.specs.Batch.{PageWrite, no_write, bytes_in, Writes}
pub use Rattle.tx_types.specs.Config.{shape_of, slots_of, blocks_of}
pub use Rattle.tx_types.specs.declared.config.Config.{Config}
pub use Rattle.tx_types.specs.declared.config.Protocol.{Protocol}
pub use Rattle.tx_types.specs.declared.config.Shape.{Shape}
pub use Rattle.tx_types.specs.declared.config.Slot.{Slot}
pub use Rattle.tx_types.specs.declared.record.Link.{Link}
pub use Rattle.tx_types.specs.declared.record.Rec.{Rec}
