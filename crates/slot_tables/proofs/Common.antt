-- The names that most proofs of this crate cite, passed on from one place. Declares nothing.
pub use Rattle.std.proofs.Common.{◌≡◌, ◌≢◌, ℕ, ◌+◌, ◌<◌, ◌≤◌, Bool, true, false, ◌||◌, ltb, eqb, inl, inr, Option, Some, None, List, [], ◌∷◌, length, get_or, set, count_by, refl, sym, ◌∙◌, ap, arith, length-set, zero, suc, ◌-◌, ◌↔◌, cond, ◌++◌, replicate, ap₂, map, eqb-true, ◌⊎◌, ◌*◌, not, ◌&&◌, ◌/◌, subst, vec_len}
pub use Rattle.std.proofs.Math.Nat.{lt-div-mul-add}
pub use Rattle.std.proofs.lemmas.Bool.{cases_eq, cases_lt, false≢true}
pub use Rattle.std.proofs.lemmas.Bool.Decides.{nat_tests}
pub use Rattle.std.proofs.lemmas.List.{get_or-set_same, get_or-set_other, get_or-replicate, get_or_past, length-replicate, length-map, get_or_read, set-set}
pub use Rattle.std.proofs.lemmas.List.Sums.{sum_by-set}
pub use Rattle.std.proofs.lemmas.Nat.{row_fits}
pub use Rattle.std.specs.List.{AllPairs, Contains, range_with_len, position_or_len, remove, slice_get, find, flat_map}
pub use Rattle.std.specs.Option.{IfSome, IsSomeAnd, option_and_then, option_map}
pub use Rattle.std.specs.Vec.{with_item}
pub use Rattle.dense_tables.specs.LinkedLists.{index_in, list_of, LinkedListsState, AreDisjoint, with_first, rest_from}
pub use Rattle.list_lemmas.proofs.Counts.{one_of}
pub use Rattle.list_lemmas.proofs.Membership.{Contains-nil, got_within, Contains-first, Contains-rest, Contains-cases}
pub use Rattle.list_lemmas.proofs.Options.{cases_Option}
pub use Rattle.list_lemmas.proofs.Pairs.{pairs_cons}
pub use Rattle.record_list.specs.Written.{is_slot, is_outside_spare}
pub use Rattle.slot_tables.specs.BaseTables.{tables_state, refreshed, IsSized, IsRefreshedFrom}
pub use Rattle.slot_tables.specs.Copies.{is_above, HoldsNone}
unfoldable pub use Rattle.slot_tables.specs.Copies.{Rises}
pub use Rattle.slot_tables.specs.Counts.{LiveSlotsState, is_marked}
unfoldable pub use Rattle.slot_tables.specs.Counts.{marked_in}
pub use Rattle.slot_tables.specs.Gathered.{block_at, copies_below}
pub use Rattle.slot_tables.specs.Tables.{AreMarked, TablesInvariant}
pub use Rattle.slot_tables.specs.TablesState.{number_at, is_number, use_at, holds, TablesState, IsTablesState, number_in, home, is_wanted, is_needed_for, record_at, is_blank, numbers_at}
unfoldable pub use Rattle.slot_tables.specs.TablesState.{copies_of, is_needed}
pub use Rattle.slot_tables.specs.declared.base_tables.BaseTables.{BaseTables}
pub use Rattle.slot_tables.specs.declared.slots.SlotUse.{SlotUse}
pub use Rattle.slot_tables.specs.declared.slots.SlotUse.TheVariants.{Blank, Damaged, Holds}
pub use Rattle.slot_tables.specs.declared.tables.Tables.TheInside.{Inside}
pub use Rattle.tx_types.specs.Config.{blocks_of, slots_of}
pub use Rattle.tx_types.specs.declared.config.Block.{Block}
pub use Rattle.tx_types.specs.declared.record.Rec.{Rec}
