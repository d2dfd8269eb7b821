-- What is said of the slots that a selection names.
use Rattle.flash_picture.proofs.Common.{◌≡◌, ℕ, ◌<◌, true, List, [], ◌++◌, refl, sym, ap, ◌∙◌, inl, inr, arith, cond-true, cond-false, false≢true, Config, Rec, shape_of, Note, found_in, note_at, is_held, Cell, Marks, cell_at, cell_of, cells_of}
use Rattle.std.proofs.Common.{◌/◌, ◌↔◌, eq-eqb, eqb-true, subst}
use Rattle.std.proofs.lemmas.Bool.{false_from_ne_true, or_cases}
use Rattle.tx_types.specs.Config.{slots_of}
use Rattle.judged_records.specs.declared.note.Note.TheVariants as note
use Rattle.record_list.specs.Current.{cur}
use Rattle.flash_picture.specs.declared.selection.Selection.{Selection}
use Rattle.flash_picture.specs.declared.selection.Selection.TheVariants as chosen
use Rattle.flash_picture.specs.Cells.{rank_by}
use Rattle.flash_picture.specs.Laws.{HoldsInView, HoldsPage, IsInView, Names, SelectionTells, line_of}
use Rattle.flash_picture.specs.Picture.{breach_line, heading}
use Rattle.flash_picture.specs.Selection.{is_of_page, is_selected, selected, selected_line, selected_lines, selected_walks, slot_line}
use Rattle.flash_picture.specs.Svg.{is_loose_rank, is_in_view}
use Rattle.flash_picture.proofs.SvgTells.{above_loose, held_shown, loose_shown, shows_left, shows_piece, shows_right}
use Rattle.flash_picture.proofs.Tells.{cell_noted, rank_loose}

module _ (its : Config) (notes : List Note) (slot : ℕ) where
  abbrev cell : Cell
  cell = cell_at (cells_of its notes) slot

  -- the cell of a slot of which this is noted
  abbrev noted : Note → Cell
  noted n = cell_of its.protocol (found_in notes) its.logical n

  one_record : (r s : Rec) → note_at notes slot ≡ note.Holds r → note_at notes slot ≡ note.Holds s → r ≡ s
  one_record r s e f = cc

  page_by : (page : ℕ) (n : Note) → note_at notes slot ≡ n →
      (is_of_page page (noted n) ≡ true) ↔ HoldsPage notes page slot
  page_by page note.Blank e = (λ t. absurd (false≢true t), λ (r, holds, is). absurd (let f = sym e ∙ holds in cc))
  page_by page note.Damaged e = (λ t. absurd (false≢true t), λ (r, holds, is). absurd (let f = sym e ∙ holds in cc))
  page_by page (note.Holds r) e = (
    λ t. (r, e, eqb-true r.page page t),
    λ (s, holds, is). eq-eqb r.page page (ap (λ (x : Rec). x.page) (one_record r s e holds) ∙ is),
  )

  view_by : (n : Note) → note_at notes slot ≡ n → (is_in_view (noted n) ≡ true) ↔ HoldsInView its notes slot
  view_by note.Blank e = (λ t. absurd (false≢true t), λ (r, holds, is). absurd (let f = sym e ∙ holds in cc))
  view_by note.Damaged e = (λ t. absurd (false≢true t), λ (r, holds, is). absurd (let f = sym e ∙ holds in cc))
  view_by (note.Holds r) e =
      let c = cur its.protocol (found_in notes) its.logical r.page in
      let held = is_held its.protocol (found_in notes) its.logical r in
      let rank = rank_by c r.version in (
        λ t. elim (or_cases (is_loose_rank rank) held t) [
          | inl above ↦ (r, e, inl ((rank_loose c r.version).0 (above_loose rank above)))
          | inr holds ↦ (r, e, inr holds)
        ],
        λ (s, holds, is). elim (subst (λ (x : Rec). IsInView its notes x) (sym (one_record r s e holds)) is) [
          | inl loose ↦ loose_shown c r.version held loose
          | inr there ↦ held_shown c r.version held there
        ],
      )

  names_by : (selection : Selection) → (is_selected (shape_of its) selection cell slot ≡ true)
      ↔ Names its notes selection slot
  names_by (chosen.Block block) = (
    λ t. eqb-true (slot / its.pages_per_block) block t,
    λ is. eq-eqb (slot / its.pages_per_block) block is,
  )
  names_by (chosen.Page page) =
      let by = page_by page (note_at notes slot) refl in
      let is = ap (is_of_page page) (cell_noted its notes slot) in
      (λ t. by.0 (sym is ∙ t), λ holds. is ∙ by.1 holds)
  names_by chosen.Loose =
      let by = view_by (note_at notes slot) refl in
      let is = ap is_in_view (cell_noted its notes slot) in
      (λ t. by.0 (sym is ∙ t), λ holds. is ∙ by.1 holds)

pub selection_tells : (its : Config) (notes : List Note) (marks : Marks) (selection : Selection) (slot : ℕ) →
    slot < slots_of (shape_of its) → SelectionTells its notes marks selection slot
unfolding selected
selection_tells its notes marks selection slot within =
    let shape = shape_of its in
    let cells = cells_of its notes in
    let names = names_by its notes slot selection in
    let named_so = is_selected shape selection (cell_at cells slot) slot in
    let line = slot_line shape cells marks slot in
    let part = line_of its notes marks selection slot in
    let lines = selected_lines shape cells marks selection in
    let walks = selected_walks its.protocol (found_in notes) its.logical selection in
    record {
      shown = shows_left (heading its ++ lines ++ walks) (breach_line marks.breach) part
          (shows_left (heading its ++ lines) walks part
          (shows_right (heading its) lines part
          (shows_piece (selected_line shape cells marks selection) 0 (slots_of shape) slot (omega arith)
          (omega arith))));
      line = λ is. cond-true named_so line [] (names.1 is);
      none = λ no. cond-false named_so line [] (false_from_ne_true named_so (λ t. no (names.0 t)));
    }
