-- The names that most proofs of this crate cite, passed on from one place. Declares nothing.
pub use Rattle.std.proofs.Common.{◌≡◌, ◌⊎◌, ℕ, ◌≤◌, Bool, true, false, not, ◌||◌, List, Option, Some, None, Ok, refl, sym, ap, ◌∙◌, subst, inr, arith, inl, [], Result, Err, ◌<◌, cond, ◌∷◌, ◌+◌, ◌++◌, length, take}
pub use Rattle.std.proofs.lemmas.Bool.{cases_Bool}
pub use Rattle.std.specs.Prelude.{MatchBool, IfSome, IfOk, OnOk, count_by}
pub use Rattle.array_machine.specs.ArrayState.{ArrayState, page_at, idle}
pub use Rattle.array_runs.specs.Breaks.{is_cut, is_lost, is_fault}
pub use Rattle.array_runs.specs.Run.{is_arm, seen_after, DoesCommand, is_break, CutLeavesOf, LosesOpen, MayLose, NotDone, RunState}
pub use Rattle.cut_replay.specs.Beginning.{Begins}
pub use Rattle.cut_replay.specs.Bounds.{IsSet, IsSpentBy, CountsBreaks, CountsBreak}
pub use Rattle.cut_replay.specs.EndsLost.{EndsLost}
pub use Rattle.cut_replay.specs.FlashCalls.{ArmsFlash, MountsFlash, ComesUp, BeginsFlash}
pub use Rattle.cut_replay.specs.FlashRun.{Point, IsPoint, ServesFlash, DoesFlash, IsArmed, IsNotDone, IsLost, first_point, first_state, last_point, mentions_in, Tells, MovesBy, IsDone, last_state, FlashRun}
pub use Rattle.cut_replay.specs.Mounted.{point_at, IsCachedAs, IsCached, ServesHere}
pub use Rattle.mounted_session.specs.Mounting.{MomentStays, StaysQuiet, powered}
pub use Rattle.mounted_session.specs.Devices.{MountsIn}
pub use Rattle.cut_replay.specs.MountedAgain.{MountsAfter}
pub use Rattle.cut_replay.specs.Served.{Watched, ServesUnsound}
pub use Rattle.cut_replay.specs.Sessions.{DeviceSession, flash_in, point_of, Fits, StandsAt, StandsMounted, ServesSession, CachesSession, Serves, IsSoundFlash, IsSoundOrSame, Mounted, Unmounted, ServesIn, EndsServing}
pub use Rattle.cut_replay.specs.Watching.{Grew}
pub use Rattle.cut_replay.specs.declared.serving.ServeError.{ServeError}
pub use Rattle.flash_model.specs.Calls.{BothTell, NoMoreToCome, Spends, Carries, Rose}
pub use Rattle.flash_model.specs.Flash.{FlashState, Told, counted_by}
pub use Rattle.flash_model.specs.Operations.{Moment, moment_of}
pub use Rattle.host_protocol.specs.Replies.{text_of}
pub use Rattle.host_protocol.specs.declared.command.Command.{Command}
pub use Rattle.host_protocol.specs.declared.reply.Reply.{Reply}
pub use Rattle.judged_records.proofs.OfNotes.OneBreach.{sound_unbroken}
pub use Rattle.judged_records.specs.Images.{IsSoundImage, records_in}
unfoldable pub use Rattle.judged_records.specs.Images.{array_in}
pub use Rattle.judged_records.specs.IndexState.{IndexState}
pub use Rattle.page_cache.specs.PageCacheState.{CachedPage, PageCacheState}
pub use Rattle.record_list.specs.Records.{mention}
pub use Rattle.tx_engine.specs.Always.{HoldsAlways, IsSeen}
pub use Rattle.tx_engine.specs.DeviceState.{DeviceState, limits_of}
pub use Rattle.tx_engine.specs.Naming.{is_spent}
pub use Rattle.tx_types.specs.Config.{shape_of, checked}
pub use Rattle.tx_types.specs.declared.config.Config.{Config}
pub use Rattle.tx_types.specs.declared.config.Protocol.{Protocol}
pub use Rattle.tx_types.specs.declared.config.Shape.{Shape}
pub use Rattle.tx_types.specs.declared.memory.Memory.{Memory}
