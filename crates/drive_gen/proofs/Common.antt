-- The names that most proofs of this crate cite, passed on from one place. Declares nothing.
pub use Rattle.std.proofs.Common.{◌≡◌, ℕ, suc, ◌+◌, ◌∷◌, length, refl, ◌<◌, ◌≤◌, List, [], drop, arith, codes, ◌++◌, ap, ◌∙◌, append_assoc, sym, Bool, true, false, cond, map, flat_map}
pub use Rattle.std.specs.List.{range_with_len}
pub use Rattle.drive_gen.specs.Generator.{next_state}
unfoldable pub use Rattle.drive_gen.specs.Generator.{generator_after}
pub use Rattle.drive_gen.specs.Summary.{last_stats}
unfoldable pub use Rattle.drive_gen.specs.Summary.{sum_of_bytes}
pub use Rattle.drive_gen.specs.Tally.{plus, tally_of}
pub use Rattle.drive_gen.specs.Work.{drawn_batch, drawn_write, page_count, fill, numbered}
unfoldable pub use Rattle.drive_gen.specs.Work.{generated}
unfoldable pub use Rattle.host_protocol.specs.Lines.{lines_of, words_of}
pub use Rattle.tx_types.specs.declared.config.Config.{Config}
