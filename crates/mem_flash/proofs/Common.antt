-- The names that most proofs of this crate cite, passed on from one place. Declares nothing.
pub use Rattle.std.proofs.Common.{◌≡◌, ℕ, ◌+◌, ◌-◌, ◌*◌, ◌<◌, ◌≤◌, List, length, get_or, drop, arith, rules, ◌≢◌, [], replicate, refl, ap, sym, ◌∙◌, take, ◌++◌, set, map, Option, None, ap₂, subst, All}
pub use Rattle.std.proofs.Math.Nat.{mul-le-mul_right}
pub use Rattle.std.proofs.lemmas.List.{length-append, length-drop, length-replicate, length-set, length-map, with_items_is}
pub use Rattle.std.specs.Fork.{slice_chunk}
pub use Rattle.flash_model.specs.Flash.{Contents, blank}
pub use Rattle.flash_model.specs.Operations.{Load}
pub use Rattle.flash_model.specs.declared.flash.Seen.{Seen}
pub use Rattle.flash_model.specs.declared.flash.Seen.TheVariants.{Blank, Complete}
pub use Rattle.list_lemmas.proofs.Chunks.{chunk_end}
pub use Rattle.mem_flash.specs.Registers.{load_in, loads_of, AreRegisters}
pub use Rattle.mem_flash.specs.Slots.{overwritten, cell_bytes, contents_of, image_of, IsFilled, AreFilled, SlotsState}
pub use Rattle.tx_types.specs.Config.{slots_of}
pub use Rattle.tx_types.specs.declared.config.Shape.{Shape}
