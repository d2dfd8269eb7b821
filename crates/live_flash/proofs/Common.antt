-- The names that most proofs of this crate cite, passed on from one place. Declares nothing.
pub use Rattle.std.proofs.Common.{◌≡◌, ◌≢◌, ◌⊎◌, ℕ, zero, suc, ◌+◌, ◌-◌, ◌*◌, ◌<◌, ◌≤◌, Bool, true, false, List, [], ◌∷◌, ◌++◌, length, take, drop, get_or, set, map, replicate, Option, Some, None, Result, Ok, Err, All, Contains, refl, sym, ap, subst, ◌∙◌, inl, inr, ⊎_elim, arith, rules}
pub use Rattle.std.specs.Prelude.{IfSome, OnOk, ◌==◌, ◌||◌, slice_index}
pub use Rattle.tx_types.specs.Config.{slots_of, IsShape}
pub use Rattle.tx_types.specs.declared.config.Shape.{Shape}
pub use Rattle.tx_types.specs.declared.config.Slot.{Slot}
pub use Rattle.flash_model.specs.Flash.{Contents, blank, damaged, complete, slot_at, IsWhole, IsImage}
pub use Rattle.mem_flash.specs.Slots.{cell_bytes, cell_of}
pub use Rattle.file_flash.specs.declared.store.StoreError.{StoreError}
pub use Rattle.file_flash.specs.Files.{FileState, values_at, LeavesBytes, Writes, MayWrite, Syncs, WritesFile, SyncsFile, BothTell}
pub use Rattle.file_flash.specs.Following.{slots_in, AreProgrammed, IsProgrammed}
pub use Rattle.zero_count.specs.Zeros.{zeros, counted, own_of, number_of, erased}
pub use Rattle.live_image.specs.Slots.{slot_bytes, live_contents, live_seen, last_of, IsCounted}
pub use Rattle.live_image.specs.Layout.{live_bytes, slot_offset, slot_in, live_image}
pub use Rattle.live_flash.specs.Following.{IsOpened, IsLiveFile, slot_values, LeavesSlot, IsSlot, Holds, LeavesEither, IsTurning, TurnsSlot, TurnsSlots, Follows}
pub use Rattle.live_flash.specs.Losing.{AreCounted, LeavesCounted, LeavesLive, LosesOnly, LosesBetween, AreWrittenAnew}
