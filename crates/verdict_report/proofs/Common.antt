-- The names that most proofs of this crate cite, passed on from one place. Declares nothing.
pub use Rattle.std.proofs.Common.{◌≡◌, ℕ, cond, List, [], ◌∷◌, ◌++◌, map, sym, ap, ap₂, ◌∙◌, append-nil, append_assoc, ◌+◌, ◌<◌, ◌≤◌, Bool, true, false, ◌||◌, Some, None, length, take, refl, subst, inl, inr, arith, zero, suc, min}
pub use Rattle.std.proofs.lemmas.Bool.{cases_Bool, cases_lt, cond-true, cond-false}
pub use Rattle.record_list.specs.Records.{newest, is_same}
pub use Rattle.record_list.specs.Verdict.{newest_name, link_of}
pub use Rattle.record_list.specs.declared.found.Found.{Found}
pub use Rattle.tx_types.specs.declared.config.Protocol.{Protocol}
pub use Rattle.tx_types.specs.declared.record.Link.{Link}
pub use Rattle.verdict_report.specs.Lines.{after_spaces}
pub use Rattle.verdict_report.specs.Report.{verdict_word, link_word, walk_words, page_line, verdict_line, has_record, pages}
unfoldable pub use Rattle.verdict_report.specs.Report.{report}
pub use Rattle.verdict_report.specs.Walks.{links_of, walk_links}
