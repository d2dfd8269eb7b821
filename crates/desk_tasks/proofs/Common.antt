-- The names that most proofs of this crate cite, passed on from one place. Declares nothing.
pub use Rattle.std.proofs.Common.{◌≡◌, ℕ, suc, ◌*◌, ◌<◌, List, [], ◌∷◌, length, refl, ap, sym, ◌∙◌, arith, Result, Ok, Err, inl, inr, Option, None, Some, subst, false, take, append_assoc}
pub use Rattle.std.specs.Prelude.{All}
pub use Rattle.desk_io.specs.Desk.{after_answer, as_before, Bytes, Missing, TooLong}
pub use Rattle.desk_tasks.specs.Checking.{array_of_device}
pub use Rattle.desk_tasks.specs.Differences.{ComesTo}
pub use Rattle.desk_tasks.specs.Ending.{Ending, Same, Image, Keyed, Ran}
pub use Rattle.desk_tasks.specs.KeyWork.{OpensStore}
pub use Rattle.desk_tasks.specs.Steps.{Comparing, Judging, Opening, Keying, Explaining, OpensAndServes, Running, Trying, Retiring, Reading}
pub use Rattle.desk_tasks.specs.Stops.{RefusesDevice, RefusesLine, RefusesRetirement}
pub use Rattle.durable_folder.proofs.Learning.{rests_then}
pub use Rattle.flash_model.specs.Flash.{Contents, Extras}
pub use Rattle.judged_records.specs.Images.{IsSoundImage, records_in}
unfoldable pub use Rattle.judged_records.specs.Images.{array_in}
pub use Rattle.mem_flash.specs.MemFlashState.{MemFlashState, loaded, state_of}
pub use Rattle.program_base.specs.Loading.{ReadsImage}
pub use Rattle.tx_types.specs.Config.{shape_of}
pub use Rattle.tx_types.specs.declared.config.Config.{Config}
pub use Rattle.tx_types.specs.declared.config.Protocol.{Protocol}
