-- The names that most proofs of this crate cite, passed on from one place. Declares nothing.
pub use Rattle.std.proofs.Common.{◌≡◌, ℕ, zero, suc, ◌+◌, ◌-◌, ◌*◌, ◌<◌, ◌≤◌, true, false, not, eqb, List, [], ◌∷◌, ◌++◌, length, take, drop, replicate, slice_range, Option, Some, None, Ok, Err, refl, sym, ap, subst, ◌∙◌, arith, map, get_or}
pub use Rattle.std.proofs.lemmas.Bool.{eq-eqb}
pub use Rattle.std.proofs.lemmas.List.{length-append, length-take, length-drop, take_all}
pub use Rattle.std.specs.List.{flat_map}
pub use Rattle.std.specs.Option.{option_map}
pub use Rattle.std.specs.Prelude.{is_none}
pub use Rattle.flash_model.specs.Calls.{seen_of}
pub use Rattle.flash_model.specs.Flash.{Extras, Contents}
pub use Rattle.flash_model.specs.declared.flash.Seen.{Seen}
pub use Rattle.flash_model.specs.declared.flash.Seen.TheVariants.{Blank}
pub use Rattle.image_file.specs.Rules.{config_in, extras_in, shape_in, broken_header, seen_from, all_seen, is_filled, wrong_state, wrong_bytes, image_in, states_in, cells_in, broken_slots}
unfoldable pub use Rattle.image_file.specs.Rules.{number_at}
pub use Rattle.image_file.specs.Spelling.{state_byte}
unfoldable pub use Rattle.image_file.specs.Spelling.{header_of}
pub use Rattle.image_file.specs.declared.error.ImageError.{ImageError}
pub use Rattle.mem_flash.specs.Slots.{cell_bytes, cell_of}
pub use Rattle.tx_types.proofs.ConfigLemmas.{checked_config}
pub use Rattle.tx_types.specs.Config.{checked, shape_of, slots_of, image_bytes}
pub use Rattle.tx_types.specs.declared.config.Config.{Config}
pub use Rattle.tx_types.specs.declared.config.Shape.{Shape}
