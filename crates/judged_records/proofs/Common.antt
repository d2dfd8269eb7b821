-- The names that most proofs of this crate cite, passed on from one place. Declares nothing.
pub use Rattle.std.proofs.Common.{◌≡◌, ℕ, ◌<◌, length, set, IsSome, refl, sym, ap, ◌∙◌, subst, arith, ◌≢◌, List, Some, ap₂, inl, inr, ◌≤◌, ◌+◌, [], ◌∷◌, map, take, get_or, eqb, eq-eqb, ne_eqb, if◌then◌else◌, ◌*◌, zip, All, None, Contains, zero, suc, Bool, true, false, ◌&&◌, ◌||◌, Option, ◌↔◌, ◌++◌, Any, eqb-true, le-ltb, AllPairs, ◌⊎◌, not, ltb, lt-ltb, ltb-true, drop, find, IsSomeAnd, filter, cond}
pub use Rattle.std.proofs.lemmas.Bool.{false≢true, cases_eq, cond-true, cond-false, cases_Bool, and_parts, and_from, and_left, or_cases, cases_lt, and_right, cond_both}
pub use Rattle.std.proofs.lemmas.List.{length-map, take_more, length-take-le}
pub use Rattle.std.proofs.lemmas.List.Elements.{All-contains, Contains-get_or}
pub use Rattle.std.proofs.lemmas.List.FromFn.{get_or-map-range_with_len}
pub use Rattle.std.proofs.lemmas.Option.{none-some, same_Some}
pub use Rattle.std.specs.List.{range_with_len, cons_option}
pub use Rattle.std.specs.Option.{option_map}
pub use Rattle.flash_model.proofs.ImageLemmas.{block_within}
pub use Rattle.flash_model.specs.Flash.{Contents, blank, damaged, complete, slot_at}
pub use Rattle.flash_model.specs.declared.flash.Seen.{Seen}
pub use Rattle.judged_records.specs.Derived.{IsDerivedAlike, answerer, is_waiting, IsCommittedFor, name_at}
unfoldable pub use Rattle.judged_records.specs.Derived.{answerer_of, waits_of, loose_of, goes_of}
pub use Rattle.judged_records.specs.DerivedChanges.{NothingMoves, Derived, derived_of, all_current, all_answered, with_current, with_answers}
pub use Rattle.judged_records.specs.Images.{records_in, SlotReads}
unfoldable pub use Rattle.judged_records.specs.Images.{written_in}
pub use Rattle.judged_records.specs.IndexState.{IndexState, IsNoted, IsNextRecord, programmed}
unfoldable pub use Rattle.judged_records.specs.IndexState.{current_of, garbage_of, needed_of, home_of, slot_off}
pub use Rattle.judged_records.specs.Notes.{note_at, rec_of, seen_as, with_block_noted, found_at}
unfoldable pub use Rattle.judged_records.specs.Notes.{found_in}
pub use Rattle.judged_records.specs.declared.note.Note.{Note}
pub use Rattle.judged_records.specs.declared.note.Note.TheVariants.{Blank, Damaged, Holds}
pub use Rattle.list_lemmas.proofs.Membership.{all_from, from_filter, Contains-first, Contains-rest, Contains-cases, Contains-nil, in_any}
pub use Rattle.list_lemmas.proofs.Options.{cases_Option}
pub use Rattle.list_lemmas.proofs.Pairs.{pairs_head, pairs_tail}
pub use Rattle.list_lemmas.proofs.Tests.{any_of}
unfoldable pub use Rattle.page_record.specs.Rules.{record_of}
pub use Rattle.record_list.proofs.OfChanges.Keeping.{step_of}
pub use Rattle.record_list.proofs.OfChanges.OneMore.{inserted_in, step_underway}
pub use Rattle.record_list.proofs.OfChanges.Progress.{name_newest}
pub use Rattle.record_list.proofs.OfFacts.Names.{greatest_least, same_name, present_in}
pub use Rattle.record_list.proofs.OfFacts.SoundNames.{sound_map, IsSoundMap}
pub use Rattle.record_list.proofs.OfWalks.Rounds.{Follows, follows_of, follows_in, Apart}
pub use Rattle.record_list.specs.Changes.{CopyLaw, IsInserted, IsWrite, PartialWriteLaw, CompletingWriteLaw, LossLaw, left}
pub use Rattle.record_list.specs.Current.{cur, is_loose, must_go, is_held}
pub use Rattle.record_list.specs.Records.{name_of, nothing, has_name, newest, is_present}
pub use Rattle.record_list.specs.SoundList.{IsSoundList, Pages, PagesExist}
pub use Rattle.record_list.specs.Transaction.{next_names}
pub use Rattle.record_list.specs.Verdict.{link_of, record_named}
pub use Rattle.record_list.specs.Written.{is_outside, first_slot, found_of, Written, records_of, is_slot, home}
pub use Rattle.record_list.specs.declared.found.Found.{Found}
pub use Rattle.tx_types.specs.Config.{shape_of, slots_of, blocks_of}
pub use Rattle.tx_types.specs.declared.config.Protocol.{Protocol}
pub use Rattle.tx_types.specs.declared.config.Protocol.TheVariants.{Scc, Bpcc}
pub use Rattle.tx_types.specs.declared.config.Shape.{Shape}
pub use Rattle.tx_types.specs.declared.record.Link.{Link}
pub use Rattle.tx_types.specs.declared.record.Rec.{Rec}
