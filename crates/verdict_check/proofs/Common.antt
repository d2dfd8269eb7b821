-- The names that most proofs of this crate cite, passed on from one place. Declares nothing.
pub use Rattle.std.proofs.Common.{◌≡◌, ◌≢◌, ℕ, suc, ◌+◌, ◌<◌, ◌≤◌, ◌==◌, eqb-true, Option, None, Some, List, length, set, get_or, sym, ap, ◌∙◌, subst, inl, inr, arith, get_or-set_same, get_or-set_other, zero, ◌-◌, Bool, true, false, [], ◌∷◌, ◌++◌, refl, append_assoc, append-nil, map, codes, decimal, eq-eqb, if◌then◌else◌}
pub use Rattle.std.proofs.lemmas.Bool.{cases_eq, cond-true, cond-false, cases_Bool, and_parts}
pub use Rattle.std.proofs.lemmas.Bool.Decides.{nat_tests}
pub use Rattle.std.proofs.lemmas.List.{get_or_default, length-set}
pub use Rattle.std.proofs.lemmas.List.Elements.{Contains-get_or}
pub use Rattle.std.proofs.lemmas.List.Quantifiers.{position-Some}
pub use Rattle.std.specs.List.{list_all, concat, AllByRecursion}
pub use Rattle.std.specs.Option.{option_map}
pub use Rattle.record_list.proofs.OfFacts.Names.{same_name}
pub use Rattle.record_list.specs.Current.{cur}
pub use Rattle.record_list.specs.Records.{newest, version_of, nothing, record_at, has_name, IsScanned}
pub use Rattle.record_list.specs.Verdict.{is_behind, newest_name, link_of, verdict_of, is_ahead, why}
pub use Rattle.record_list.specs.declared.found.Found.{Found}
pub use Rattle.record_list.specs.declared.found.Why.{Why}
pub use Rattle.record_list.specs.declared.found.Why.TheVariants.{Cycle, Absent}
pub use Rattle.sorted_records.proofs.OfRecords.Steps.{steps_none}
pub use Rattle.sorted_records.specs.Orbits.{steps}
pub use Rattle.sorted_records.specs.SortedRecords.{link_graph}
pub use Rattle.tx_types.specs.declared.config.Protocol.{Protocol}
pub use Rattle.tx_types.specs.declared.config.Protocol.TheVariants.{Scc}
pub use Rattle.tx_types.specs.declared.record.Link.{Link}
pub use Rattle.tx_types.specs.declared.record.Rec.{Rec}
pub use Rattle.verdict_check.specs.Older.{AreOlder}
pub use Rattle.verdict_check.specs.Places.{place_at, newest_place, IsNewestAt, AreNewestOf}
pub use Rattle.verdict_check.specs.Texts.{left_behind, left}
unfoldable pub use Rattle.verdict_check.specs.Texts.{behind}
pub use Rattle.verdict_check.specs.WalkEnds.{IsWalkEnd, AreWalkEnds}
pub use Rattle.verdict_check.specs.declared.walk_end.WalkEnd.TheVariants.{Ends}
pub use Rattle.verdict_report.specs.Lines.{after_spaces}
pub use Rattle.verdict_report.specs.Report.{verdict_word, reason_words, walk_words, verdict_line, last_line}
pub use Rattle.verdict_report.specs.Walks.{links_of}
