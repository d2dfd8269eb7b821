-- The names that most proofs of this crate cite, passed on from one place. Declares nothing.
pub use Rattle.std.proofs.Common.{◌≡◌, ℕ, ◌≤◌, List, [], ◌∷◌, map, refl, sym, ap, ◌∙◌, arith, Some, ◌+◌, ◌*◌, ◌/◌, ◌<◌, ◌≢◌, true, false, ◌⊎◌, inl, inr, length, take, drop, Option, None, Result, Ok, Err, ◌-◌, ◌++◌, length-append, not, get_or, slice_index, length-drop, unwrap_or, Bool, suc, rules, codes, ◌%◌, append_assoc, ◌^◌}
pub use Rattle.std.proofs.lemmas.Bool.{eqb-true, cases_lt}
pub use Rattle.std.proofs.lemmas.Bool.Decides.{nat_tests}
pub use Rattle.std.proofs.lemmas.List.{get_or-take, length-take}
pub use Rattle.std.proofs.lemmas.List.Sums.{passes_at_first, prefix_len-le-length}
pub use Rattle.std.proofs.lemmas.Result.{err_from_is_err_and}
pub use Rattle.std.specs.Fmt.{decimal}
pub use Rattle.std.specs.List.{slice_split, position_or_len, flat_map}
pub use Rattle.std.specs.Option.{option_map}
pub use Rattle.std.specs.Prelude.{position}
pub use Rattle.std.specs.Str.{bytes_eq}
unfoldable pub use Rattle.host_protocol.specs.Commands.{page_write_of, page_value}
pub use Rattle.host_protocol.specs.Files.{entries_in}
pub use Rattle.host_protocol.specs.Lines.{is_space_or_tab}
unfoldable pub use Rattle.host_protocol.specs.Lines.{lines_of, words_of}
pub use Rattle.host_protocol.specs.Numbers.{is_digit, digits_in}
unfoldable pub use Rattle.host_protocol.specs.Numbers.{number_of}
pub use Rattle.host_protocol.specs.Replies.{line_of}
pub use Rattle.host_protocol.specs.declared.error.LineError.{LineError}
pub use Rattle.host_protocol.specs.declared.error.LineError.TheVariants.{Bad, Memory}
pub use Rattle.list_lemmas.proofs.Positions.{position_some}
