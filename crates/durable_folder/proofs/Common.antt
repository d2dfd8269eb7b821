-- The names that most proofs of this crate cite, passed on from one place. Declares nothing.
pub use Rattle.std.proofs.Common.{◌≡◌, ◌≢◌, ◌⊎◌, inl, inr, ℕ, ◌<◌, ◌++◌, Bool, true, false, List, [], ◌∷◌, Option, None, Some, Result, Ok, Err, refl, sym, ap, ◌∙◌, arith, ◌+◌, ◌≤◌, max, length, cond, take, drop, rules}
pub use Rattle.std.proofs.lemmas.Bool.{cases_lt}
pub use Rattle.std.proofs.lemmas.List.{ext_get_or}
pub use Rattle.std.specs.Global.{Global}
pub use Rattle.std.specs.IoError.{error_kind}
pub use Rattle.std.specs.Path.{path_buf_bytes}
pub use Rattle.std.specs.Result.{IsErr}
pub use Rattle.std.specs.declared.io.Error.{Error}
pub use Rattle.durable_folder.specs.Answers.{IsLate, refusal_of}
pub use Rattle.durable_folder.specs.Calls.{Handle, SparesNames, OfFile, Finds, FindsOpen, Opens, Written, Writes, Synced, SyncsFile, SparesFiles}
pub use Rattle.durable_folder.specs.Causes.{IsLater, AtNow, AllTaken}
pub use Rattle.durable_folder.specs.Counting.{quiet, is_refusal, is_absence, error_answer, never}
pub use Rattle.durable_folder.specs.FolderState.{FolderState, SomeOf, MayHold, LeavesOf, IsFree, file_of, newest, target, byte_at}
pub use Rattle.durable_folder.specs.Histories.{History, Answer, Turns, Runs, HasFile, IsSaved, Learns, Rests}
pub use Rattle.durable_folder.specs.InPlace.{AfterOk, Overwrites, WritesOver, OneSuch, MayTear, AllTorn, WholeOrTorn, IsCleared, IsHeadless, FileRuns}
pub use Rattle.durable_folder.specs.Locking.{IsStale}
pub use Rattle.durable_folder.specs.NewFiles.{beside_of, handle_of}
pub use Rattle.durable_folder.specs.Places.{folder_of}
pub use Rattle.durable_folder.specs.Saving.{Prepares, ReplaceOrNotEnds, ReplacesOrNot, IsMade, Fills, KeepsOrReplaces, IsNew, Shifts}
pub use Rattle.durable_folder.specs.Ways.{IsInPlace, SavesAt, IsSeen, WasFound}
pub use Rattle.durable_folder.specs.declared.answers.Replaced.{Replaced}
pub use Rattle.durable_folder.specs.declared.folder.Found.{Found}
