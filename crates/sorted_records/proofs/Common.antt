-- The names that most proofs of this crate cite, passed on from one place. Declares nothing.
pub use Rattle.std.proofs.Common.{◌≡◌, ℕ, ◌<◌, ◌⊎◌, inl, inr, true, false, Bool, Option, Some, None, List, position, length, get_or, sym, ap, ◌∙◌, eqb-true, eq-eqb, arith, ◌≢◌, ◌+◌, ◌-◌, ◌≤◌, refl, ne_eqb, subst, subst₂, zero, suc, lt-ltb, le-ltb, leb, [], nat_lt, ◌==◌, ◌∷◌, filter, ap₂, ◌++◌, take, map, take_all, not, drop, IfSome, rules}
pub use Rattle.std.proofs.lemmas.Bool.{false≢true, cases_lt, cases_Bool, cases_eq, cond-true, cond-false, cases_order}
pub use Rattle.std.proofs.lemmas.List.{get_or_default, length-set}
pub use Rattle.std.proofs.lemmas.List.Edits.{length-between, get_or-between}
pub use Rattle.std.proofs.lemmas.List.FromFn.{length-map-range_with_len}
pub use Rattle.std.proofs.lemmas.List.Quantifiers.{position-Some}
pub use Rattle.std.proofs.lemmas.List.Sorted.{IsPermutation-sym, IsPartitionPoint-from_clause}
pub use Rattle.std.specs.List.{slice_range, list_any}
pub use Rattle.std.specs.List.Sorted.{IsPartitionPoint, IsPermutation}
pub use Rattle.record_list.proofs.OfFacts.Names.{has_name_true, greatest_bound, greatest_least}
pub use Rattle.record_list.specs.Counts.{KeepsCount}
pub use Rattle.record_list.specs.Current.{straddling_upto, cur}
pub use Rattle.record_list.specs.Records.{name_of, has_name, record_at, nothing, greatest, newest, version_of, is_present, is_same}
pub use Rattle.record_list.specs.Verdict.{straddling_version, straddling, link_of}
pub use Rattle.record_list.specs.declared.found.Found.{Found}
pub use Rattle.sorted_records.specs.Minima.{AreMinimaFrom}
pub use Rattle.sorted_records.specs.NameGraph.{name_graph}
pub use Rattle.sorted_records.specs.Orbits.{next_of, IsEnd, IsRound, IsGraph, IsOrbit}
unfoldable pub use Rattle.sorted_records.specs.Orbits.{steps}
pub use Rattle.sorted_records.specs.Seen.{seen_at, IsFollowed, IsBehind, ComesAfterPath, StaysSeen}
pub use Rattle.sorted_records.specs.SortedRecords.{Sorts, is_below, IsInOrder, link_graph}
pub use Rattle.sorted_records.specs.declared.orbit.Orbit.{Orbit}
pub use Rattle.sorted_records.specs.declared.orbit.Orbit.TheVariants.{Ends, Round, Aside}
pub use Rattle.sorted_records.specs.declared.seen.Seen.{Seen}
pub use Rattle.sorted_records.specs.declared.seen.Seen.TheVariants.{New, Known, OnPath}
pub use Rattle.tx_types.specs.declared.record.Link.{Link}
pub use Rattle.tx_types.specs.declared.record.Rec.{Rec}
