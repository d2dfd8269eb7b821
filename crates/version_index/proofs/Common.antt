-- The names that most proofs of this crate cite, passed on from one place. Declares nothing.
pub use Rattle.std.proofs.Common.{◌≡◌, ℕ, ◌<◌, length, set, IsSome, refl, sym, ap, ◌∙◌, subst, arith, ◌≢◌, List, Some, ap₂, inl, inr, ◌≤◌, ◌+◌, [], ◌∷◌, map, take, get_or, eqb, eq-eqb, ◌*◌, All, None, IfSome, Contains, zero, suc, Bool, true, false, ◌&&◌, Option, ◌↔◌, ◌++◌, Any, eqb-true, ◌⊎◌, not, ◌/◌, count_by, cond, ◌-◌}
pub use Rattle.std.proofs.Math.ListN.{get_or-map}
pub use Rattle.std.proofs.lemmas.Bool.{false≢true, cases_eq, cond-true, cond-false, cases_Bool, and_parts, and_from, cases_lt}
pub use Rattle.std.proofs.lemmas.List.{length-set, get_or-set_same, get_or-set_other, ext_get_or, length-map, length-replicate, get_or_past, take_all, length-append}
pub use Rattle.std.proofs.lemmas.List.Elements.{All-contains, Contains-get_or, at_from_Contains}
pub use Rattle.std.proofs.lemmas.List.Sorted.{Contains-permutation, IsPermutation-sym}
pub use Rattle.std.proofs.lemmas.Option.{none-some, same_Some}
pub use Rattle.std.specs.List.{range_with_len, slice_get}
pub use Rattle.std.specs.Option.{option_map, option_map_or}
pub use Rattle.std.specs.Prelude.{position}
pub use Rattle.flash_model.specs.declared.flash.Seen.{Seen}
pub use Rattle.judged_records.specs.Derived.{answerer, is_waiting, name_at}
unfoldable pub use Rattle.judged_records.specs.Derived.{answerer_of, waits_of}
pub use Rattle.judged_records.specs.DerivedChanges.{Derived, derived_of, all_answered, comes_back, with_answers}
unfoldable pub use Rattle.judged_records.specs.DerivedChanges.{completes}
pub use Rattle.judged_records.specs.IndexState.{IndexState, IsNoted, CanLose, current_name_of, IsMostAmong}
unfoldable pub use Rattle.judged_records.specs.IndexState.{current_of, block_to_go, garbage_of, needed_of, home_of, slot_off, discarded_of}
pub use Rattle.judged_records.specs.Notes.{note_at, rec_of}
unfoldable pub use Rattle.judged_records.specs.Notes.{found_in}
pub use Rattle.judged_records.specs.Numbered.{rec_at, AreDerived, named, awaited}
pub use Rattle.judged_records.specs.declared.note.Note.{Note}
pub use Rattle.list_lemmas.proofs.Membership.{all_from, Contains-first, Contains-cases, Contains-here, Contains-nil, in_any}
pub use Rattle.list_lemmas.proofs.Options.{cases_Option}
pub use Rattle.list_lemmas.proofs.Pairs.{pairs_head}
pub use Rattle.record_list.proofs.OfFacts.Names.{same_name, present_in, found_named, has_name_true}
pub use Rattle.record_list.specs.Current.{cur}
pub use Rattle.record_list.specs.Records.{name_of, nothing, has_name, newest, is_present}
pub use Rattle.record_list.specs.SoundList.{PagesExist}
pub use Rattle.record_list.specs.Verdict.{link_of}
pub use Rattle.record_list.specs.Written.{is_outside}
pub use Rattle.record_list.specs.declared.found.Found.{Found}
pub use Rattle.slot_tables.specs.Gathered.{AreGathered}
pub use Rattle.slot_tables.specs.TablesState.{TablesState, use_at, record_at, numbers_at, number_at, IsTablesState, holds, number_in, is_number}
unfoldable pub use Rattle.slot_tables.specs.TablesState.{copies_of}
pub use Rattle.slot_tables.specs.Versions.{HasFree}
pub use Rattle.slot_tables.specs.declared.slots.SlotUse.{SlotUse}
pub use Rattle.sorted_records.specs.SortedRecords.{Sorts}
pub use Rattle.tx_types.specs.Config.{shape_of, slots_of, blocks_of}
pub use Rattle.tx_types.specs.declared.config.Block.{Block}
pub use Rattle.tx_types.specs.declared.config.Config.{Config}
pub use Rattle.tx_types.specs.declared.config.Protocol.{Protocol}
pub use Rattle.tx_types.specs.declared.config.Protocol.TheVariants.{Scc, Bpcc}
pub use Rattle.tx_types.specs.declared.config.Shape.{Shape}
pub use Rattle.tx_types.specs.declared.record.Link.{Link}
pub use Rattle.tx_types.specs.declared.record.Rec.{Rec}
pub use Rattle.version_index.specs.Committing.{LinksExist, newest_at, newest_with_name, OnlyDerives, IsTaken, IsRoundIn}
pub use Rattle.version_index.specs.Filling.{derived_by, number_by, AreNumbered, AreDecided, NamesAgree, AreBlankBut, AreFilled}
pub use Rattle.version_index.specs.Going.{Goes, AreRising}
pub use Rattle.version_index.specs.Losing.{freed, used_so}
unfoldable pub use Rattle.version_index.specs.Losing.{used_from}
pub use Rattle.version_index.specs.Tables.{note_in, notes_in, noted_by, numbered_of, AreHeld, AreIndexed, version_at}
