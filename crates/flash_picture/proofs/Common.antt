-- The names that most proofs of this crate cite, passed on from one place. Declares nothing.
pub use Rattle.std.proofs.Common.{◌≡◌, ℕ, ◌==◌, nat_lt, List, ◌++◌, sym, Bool, map, ap, ap₂, ◌∙◌, refl, ◌+◌, ◌<◌, true, ◌||◌, Option, Some, None, [], ◌∷◌, length, get_or, position, take, cond, inl, inr, arith, lt-ltb, zero, suc, ◌-◌, ◌≤◌, false, append-nil, append_assoc, codes}
pub use Rattle.std.proofs.lemmas.Bool.{false≢true, cases_Bool, cases_lt, cond-true, cond-false, le-ltb}
pub use Rattle.std.proofs.lemmas.Result.{on_ok_weaker}
pub use Rattle.std.specs.List.{flat_map, list_any, range_with_len, join_with_byte}
pub use Rattle.flash_picture.specs.Cells.{cell_of, cell_words, is_named, word_if, cell_at, name_word}
unfoldable pub use Rattle.flash_picture.specs.Cells.{slot_text}
pub use Rattle.flash_picture.specs.Grid.{height}
pub use Rattle.flash_picture.specs.Picture.{cells_of}
pub use Rattle.flash_picture.specs.Pieces.{words_begin}
pub use Rattle.flash_picture.specs.Svg.{steps_rows, walk_rows, walk_takes, above, arrow_svg, cell_svg, cells_svg, die_heading, visible_arrow_svg, visible_arrows_svg, grid_of, label_svg, lines_svg, walk_svg, walks_svg, walks_take, drawing}
pub use Rattle.flash_picture.specs.Walks.{end_of, line_end, walk_line, leaving_link_at, left_from, step_text}
pub use Rattle.flash_picture.specs.declared.cell.Cell.{Cell}
pub use Rattle.flash_picture.specs.declared.cell.Cell.TheVariants.{Holds, Blank, Damaged}
pub use Rattle.flash_picture.specs.declared.marks.Marks.{Marks}
pub use Rattle.flash_picture.specs.declared.walk.Step.TheVariants.{To}
pub use Rattle.judged_records.specs.Notes.{found_in, note_at}
pub use Rattle.judged_records.specs.declared.note.Note.{Note}
pub use Rattle.record_list.specs.Current.{is_held}
pub use Rattle.record_list.specs.Records.{has_name, is_same, name_of}
pub use Rattle.record_list.specs.Verdict.{newest_name, link_of}
pub use Rattle.record_list.specs.declared.found.Found.{Found}
pub use Rattle.sorted_records.specs.SortedRecords.{Sorts}
pub use Rattle.tx_types.specs.Config.{shape_of}
pub use Rattle.tx_types.specs.declared.config.Config.{Config}
pub use Rattle.tx_types.specs.declared.config.Protocol.{Protocol}
pub use Rattle.tx_types.specs.declared.config.Protocol.TheVariants.{Scc, Bpcc}
pub use Rattle.tx_types.specs.declared.record.Link.{Link}
pub use Rattle.tx_types.specs.declared.record.Rec.{Rec}
