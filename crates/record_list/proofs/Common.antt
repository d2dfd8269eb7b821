-- The names that most proofs of this crate cite, passed on from one place. Declares nothing.
pub use Rattle.std.proofs.Common.{◌≡◌, ℕ, ◌<◌, ◌≤◌, ◌⊎◌, Bool, true, false, List, [], ◌∷◌, All, refl, sym, ap, ◌∙◌, subst, inl, inr, arith, Contains, ◌&&◌, eqb, ltb, le-ltb, ne_eqb, zero, suc, ⊎_elim, if◌then◌else◌, ◌≢◌, ◌-◌, zip, length, ◌^◌, cond, ◌||◌, eq-eqb, Any, lt-ltb, ◌+◌, get_or, add-one, take, eqb-true, ltb-true}
pub use Rattle.std.proofs.lemmas.Bool.{cases_Bool, cases_lt, cond-true, cond-false, both_ways, cases_eq, and_left, and_right, false_from_ne_true, false≢true, or_cases, or_left, or_right, and_from, and_parts, cases_order}
pub use Rattle.std.proofs.lemmas.List.Elements.{All-contains}
pub use Rattle.list_lemmas.proofs.Membership.{all_from, from_filter, Contains-first, Contains-rest, Contains-nil, Contains-cases}
pub use Rattle.list_lemmas.proofs.Pairs.{in_order}
pub use Rattle.list_lemmas.proofs.Tests.{any_of, any_from}
pub use Rattle.record_list.specs.Changes.{IsInserted, IsWrite, SameCurrent, left, KeepsCounted, PartialWriteLaw, CompletingWriteLaw, CopyLaw, LossLaw, LossKeeps}
unfoldable pub use Rattle.record_list.specs.Counts.{KeepsCount}
pub use Rattle.record_list.specs.Current.{cur, IsCurrent, is_held, fallback, must_go, responsible, answers_for, straddling_upto}
pub use Rattle.record_list.specs.Losses.{left_written}
pub use Rattle.record_list.specs.Records.{name_of, has_name, is_present, IsScanned, newest, version_of, version_below, next_older, is_same, mention_at, greatest, nothing}
pub use Rattle.record_list.specs.SoundList.{current_name, IsSoundList, CopiesAgree, follow, PagesExist, Pages, Copies, CurrentIsPresent}
pub use Rattle.record_list.specs.Transaction.{back_version, next_names, IsAsked, IsAskedAt, InProgress}
pub use Rattle.record_list.specs.Verdict.{newest_name, link_of, straddles, straddling_version, straddling, back_of, why_below_newest, is_ahead, is_behind, walk, why, is_committed, record_named}
pub use Rattle.record_list.specs.Written.{Written, found_of, records_of, BytesAgree, is_outside}
pub use Rattle.record_list.specs.declared.found.Found.{Found}
pub use Rattle.record_list.specs.declared.found.Why.TheVariants.{Cycle, Passed, Absent, Straddled}
pub use Rattle.tx_types.specs.declared.config.Protocol.{Protocol}
pub use Rattle.tx_types.specs.declared.config.Protocol.TheVariants.{Scc, Bpcc}
pub use Rattle.tx_types.specs.declared.config.Shape.{Shape}
pub use Rattle.tx_types.specs.declared.record.Link.{Link}
pub use Rattle.tx_types.specs.declared.record.Rec.{Rec}
