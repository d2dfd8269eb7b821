-- The names that most proofs of this crate cite, passed on from one place. Declares nothing.
pub use Rattle.std.proofs.Common.{◌≡◌, ◌≢◌, ℕ, ◌<◌, ◌≤◌, ◌⊎◌, Bool, true, false, not, ◌&&◌, List, [], ◌∷◌, ◌++◌, length, map, set, get_or, All, Any, AllPairs, Contains, Option, None, refl, sym, ap, ◌∙◌, subst, inl, inr, arith, ⊎_elim, cond}
pub use Rattle.std.proofs.lemmas.Bool.{cases_Bool, cases_eq, cases_lt, and_parts, and_from, both_ways, false≢true}
pub use Rattle.std.proofs.lemmas.List.{length-set, get_or_past, get_or-set_same, get_or-set_other}
pub use Rattle.std.proofs.lemmas.List.Elements.{All-cons, All-head, All-tail, All-contains}
pub use Rattle.list_lemmas.proofs.Membership.{all_from, from_filter, in_filter, in_map, map_in, Contains-first, Contains-rest, Contains-cases, Contains-nil}
pub use Rattle.list_lemmas.proofs.Pairs.{pairs_head, pairs_tail}
pub use Rattle.flash_model.specs.Flash.{Contents, blank, damaged, complete, slot_at}
pub use Rattle.judged_records.specs.Images.{records_in}
unfoldable pub use Rattle.judged_records.specs.Images.{written_in, array_in}
pub use Rattle.judged_records.specs.SlotLosses.{LosesSlots, ImageSlotLossLaw}
pub use Rattle.record_list.specs.Changes.{left, KeepsCounted, SameCurrent, LossLaw, PartialWriteLaw, CompletingWriteLaw}
pub use Rattle.record_list.specs.Current.{cur, is_held, IsCurrent}
pub use Rattle.record_list.specs.Losses.{IsSpared}
pub use Rattle.record_list.specs.Records.{name_of, is_present}
pub use Rattle.record_list.specs.Written.{found_of, records_of, is_outside}
pub use Rattle.record_list.specs.declared.found.Found.{Found}
pub use Rattle.tx_types.specs.Config.{blocks_of}
pub use Rattle.tx_types.specs.declared.config.Protocol.{Protocol}
pub use Rattle.tx_types.specs.declared.config.Protocol.TheVariants.{Scc, Bpcc}
pub use Rattle.tx_types.specs.declared.config.Shape.{Shape}
pub use Rattle.tx_types.specs.declared.record.Link.{Link}
pub use Rattle.tx_types.specs.declared.record.Rec.{Rec}
