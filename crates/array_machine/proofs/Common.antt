-- The names that most proofs of this crate cite, passed on from one place. Declares nothing.
pub use Rattle.std.proofs.Common.{◌≡◌, ◌≢◌, ℕ, ◌+◌, ◌≤◌, Bool, true, false, cond, List, [], ◌∷◌, ◌++◌, length, All, Option, Some, None, Result, Ok, Err, refl, sym, ap, ◌∙◌, subst, inl, inr, arith, take, ◌<◌, AllPairs, Contains, map}
pub use Rattle.std.proofs.lemmas.Bool.{cases_Bool}
pub use Rattle.std.proofs.lemmas.List.Elements.{All-nil, All-head, All-tail, All-contains, All-cons, All-take}
pub use Rattle.std.proofs.lemmas.List.Sums.{sum_by-cons}
pub use Rattle.std.specs.Prelude.{MatchOption, count_by}
pub use Rattle.array_machine.specs.ArrayState.{ArrayState, Entry, entry_of, has_tag, put, with_entry, without}
pub use Rattle.array_machine.specs.Batches.{GoInTurn, StepsAll}
pub use Rattle.array_machine.specs.Step.{Steps, StepGives, GoesOn, Aborts, AbortGives, settled, settled_entry, doubted, settled_mark}
pub use Rattle.array_machine.specs.Submit.{Limits, first_refusals, spent_page}
pub use Rattle.array_machine.specs.UnbrokenCalls.{finish_answer}
pub use Rattle.array_machine.specs.declared.answers.Aborted.{Aborted}
pub use Rattle.array_machine.specs.declared.answers.Moved.{Moved}
pub use Rattle.array_machine.specs.declared.answers.Progress.{Progress}
pub use Rattle.array_machine.specs.declared.answers.StepError.{StepError}
pub use Rattle.array_machine.specs.declared.answers.SubmitError.{SubmitError}
pub use Rattle.array_machine.specs.declared.mark.Mark.{Mark}
pub use Rattle.array_machine.specs.declared.mark.Mark.TheVariants.{Doubt, Whole, Plain}
pub use Rattle.list_lemmas.proofs.Membership.{all_from, Contains-cases, Contains-nil}
pub use Rattle.tx_types.specs.Batch.{PageWrite}
