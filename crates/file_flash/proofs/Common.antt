-- The names that most proofs of this crate cite, passed on from one place. Declares nothing.
pub use Rattle.std.proofs.Common.{◌≡◌, ◌≢◌, ◌⊎◌, ℕ, zero, suc, ◌+◌, ◌-◌, ◌*◌, ◌<◌, ◌≤◌, Bool, true, false, List, [], ◌∷◌, ◌++◌, length, take, drop, get_or, map, slice_range, Option, Some, None, Result, Ok, Err, All, Contains, refl, sym, ap, subst, ◌∙◌, inl, inr, ⊎_elim, arith, rules}
pub use Rattle.std.specs.Prelude.{IfSome, OnOk, ◌==◌, ◌||◌, slice_index, slice_index_or}
pub use Rattle.tx_types.specs.Config.{slots_of, image_bytes, shape_of}
pub use Rattle.tx_types.specs.declared.config.Shape.{Shape}
pub use Rattle.tx_types.specs.declared.config.Slot.{Slot}
pub use Rattle.flash_model.specs.Flash.{Contents, blank, damaged, complete, slot_at, IsWhole, IsImage}
pub use Rattle.flash_model.specs.Calls.{seen_of}
pub use Rattle.flash_model.specs.declared.flash.Seen.{Seen}
pub use Rattle.flash_model.specs.declared.flash.Seen.TheVariants.{Blank, Complete, Damaged}
pub use Rattle.mem_flash.specs.Slots.{cell_bytes, cell_of, contents_of, image_of}
pub use Rattle.image_file.specs.Spelling.{state_byte}
pub use Rattle.image_file.specs.States.{head_bytes}
pub use Rattle.file_flash.specs.declared.store.StoreError.{StoreError}
pub use Rattle.file_flash.specs.Files.{FileState, values_at, LeavesBytes, Writes, MayWrite, Syncs, WritesFile, SyncsFile, ReadsFile, BothTell}
pub use Rattle.file_flash.specs.Following.{slots_in, IsProgrammed, AreProgrammed}
pub use Rattle.file_flash.specs.Losing.{IsWithout, IsBetween}
