-- The names that most proofs of this crate cite, passed on from one place. Declares nothing.
pub use Rattle.std.proofs.Common.{◌≡◌, ℕ, Bool, true, false, not, cond, List, [], ◌∷◌, filter, Option, Some, None, sym, ap, subst, ◌∙◌, ◌≢◌, suc, ◌+◌, ◌<◌, ◌&&◌, ◌++◌, length, take, drop, set, ◌==◌, IsTrue, get_or, refl, arith, length-take, zero, ◌-◌, ◌≤◌, replicate, flat_map, length-append, append_assoc, ◌⊎◌, inl, inr, if◌then◌else◌, Result, Ok, Err, nat_le, map, ◌||◌, nat_lt, option_map}
pub use Rattle.std.proofs.Math.Seq.{drop-cons, take-append_seam, drop-append_seam, take-length}
pub use Rattle.std.proofs.lemmas.Bool.{cases_lt}
pub use Rattle.std.proofs.lemmas.Bool.Decides.{nat_tests}
pub use Rattle.std.proofs.lemmas.List.{take-append-drop, take_more, append-nil}
pub use Rattle.std.proofs.lemmas.List.Folds.{list_any-append}
pub use Rattle.std.specs.Cmp.Lexicographic.{nat_list_cmp_total}
pub use Rattle.std.specs.FinMap.{slice_cmp-IsAntisymmetric, nat_cmp-IsAntisymmetric}
pub use Rattle.std.specs.List.{AllByRecursion, list_any, range_with_len, find, list_all}
pub use Rattle.std.specs.Ordering.{eq_by_cmp, is_lt, is_eq, nat_cmp}
pub use Rattle.std.specs.Prelude.{IsErr, IfSome, OnOk, count_by}
pub use Rattle.std.specs.Result.{IsErrAnd}
pub use Rattle.std.specs.Str.{bytes_eq}
pub use Rattle.std.specs.declared.cmp.Ordering.{Ordering}
pub use Rattle.std.specs.declared.cmp.Ordering.TheVariants.{Less, Equal, Greater}
pub use Rattle.array_machine.specs.ArrayState.{Pages, page_at, ArrayState, Represents, put, idle}
pub use Rattle.array_machine.specs.Step.{StepsAs}
pub use Rattle.array_machine.specs.Submit.{spent_page, first_refusals}
pub use Rattle.array_machine.specs.declared.answers.SubmitError.{SubmitError}
pub use Rattle.flash_model.proofs.CallLemmas.{Carries-nothing, Carries-then}
pub use Rattle.flash_model.specs.Calls.{Carries, BothTell, NoMoreToCome, Spends}
pub use Rattle.flash_model.specs.Flash.{FlashState, Contents, Told}
pub use Rattle.flash_model.specs.Operations.{Moment, moment_of}
pub use Rattle.host_protocol.specs.Lines.{lines_of}
pub use Rattle.judged_records.specs.Images.{IsSoundImage}
unfoldable pub use Rattle.judged_records.specs.Images.{array_in}
pub use Rattle.judged_records.specs.IndexState.{IndexState}
pub use Rattle.page_keys.specs.Buckets.{IsEntry, HoldsEntries, IsBucketOf, AreOfPage, AreBuckets, EncodesMap, entry_bytes, IsBucket, encodes}
pub use Rattle.page_keys.specs.Entries.{with_pair, changed, AreBelow}
pub use Rattle.page_keys.specs.Groups.{changes_of, puts_value}
pub use Rattle.page_keys.specs.KeyMaps.{KeyMap, Pair, key_order, apply, part, of_page, is_ascending, is_in, bucket_of, value_of, is_touched, pages_of}
pub use Rattle.page_keys.specs.KeyRuns.{IsKeyPoint, KeyPoint, ServesKeys, mentions_in, is_key_cut, is_key_fault, seen_after}
pub use Rattle.page_keys.specs.KeyServed.{BeginsKeys}
pub use Rattle.page_keys.specs.KeySessions.{KeySession, Ends, Fits, IsKeyImage, ServesOne, flash_in, DoesHere}
pub use Rattle.page_keys.specs.Pages.{with_page}
pub use Rattle.page_keys.specs.PutAnswers.{PutGives}
pub use Rattle.page_keys.specs.Puts.{IsKeyChange, early_refusal, has_key, repeated, put_writes, is_over, write_of}
pub use Rattle.page_keys.specs.Putting.{IsFull, is_put_fault}
unfoldable pub use Rattle.page_keys.specs.Scripts.{change_of}
pub use Rattle.page_keys.specs.Stores.{KeyStoreState, OnlyReads, HasKeys}
pub use Rattle.page_keys.specs.Writing.{Moved, writing}
pub use Rattle.page_keys.specs.declared.answers.PutError.{PutError}
pub use Rattle.page_keys.specs.declared.changes.Change.{Change}
pub use Rattle.page_keys.specs.declared.command.KeyCommand.{KeyCommand}
pub use Rattle.page_keys.specs.declared.key_error.KeyServeError.{KeyServeError}
pub use Rattle.page_keys.specs.declared.key_reply.KeyReply.{KeyReply}
pub use Rattle.tx_engine.proofs.OfDevice.Seen.{seen_flash}
pub use Rattle.tx_engine.specs.Always.{IsSeen, HoldsAlways}
pub use Rattle.tx_engine.specs.DeviceState.{DeviceState, limits_of}
pub use Rattle.tx_engine.specs.Naming.{is_spent}
pub use Rattle.tx_types.specs.Batch.{PageWrite}
pub use Rattle.tx_types.specs.Config.{checked, shape_of}
pub use Rattle.tx_types.specs.declared.config.Config.{Config}
pub use Rattle.tx_types.specs.declared.config.Protocol.{Protocol}
pub use Rattle.tx_types.specs.declared.config.Shape.{Shape}
