-- The picture of records in order of their names is that of the list.
use Rattle.flash_picture.proofs.Common.{◌≡◌, ℕ, ◌==◌, nat_lt, List, ◌++◌, sym, Bool, map, ap, ap₂, ◌∙◌, refl, flat_map, list_any, range_with_len, Rec, Config, Protocol, shape_of, Scc, Bpcc, Found, is_held, Sorts, Note, found_in, Cell, Holds, Marks, cell_of, cells_of, line_end, walk_line}
use Rattle.std.proofs.Common.{◌&&◌}
use mathlib.Core.Path.{fun_ext}
use Rattle.std.proofs.lemmas.List.Sorted.{list_any-IsPermutation}
use Rattle.record_list.specs.Verdict.{straddles}
use Rattle.record_list.specs.Current.{answers_for}
use Rattle.sorted_records.proofs.OfSort.Alike.{cur_alike, responsible_alike}
use Rattle.judged_records.specs.declared.note.Note.TheVariants as note
use Rattle.flash_picture.specs.Cells.{rank_by}
use Rattle.flash_picture.specs.Map.{map_text}
use Rattle.flash_picture.specs.Picture.{breach_line, heading, parts, picture}
use Rattle.flash_picture.specs.Walks.{walks_text}
use Rattle.flash_picture.proofs.Shown.{line_alike, line_end_alike}

module _ (list sorted : List Found) (is : Sorts list sorted) where
  held_alike : (protocol : Protocol) (logical : ℕ) (r : Rec) →
      is_held protocol sorted logical r ≡ is_held protocol list logical r
  held_alike Scc logical r = refl
  held_alike Bpcc logical r =
      ap (λ test. list_any test sorted)
      (fun_ext (λ f. ap₂ (λ a b. nat_lt a f.rec.version && (r.page == f.rec.next.page)
      && straddles r f.rec.next.version &&
      (r.version == b))
      (cur_alike list sorted is Bpcc logical f.rec.page) (responsible_alike list sorted is Bpcc logical f.rec.next)))
      ∙ list_any-back (λ f. answers_for Bpcc list logical r f.rec)
    where
      list_any-back : (test : Found → Bool) → list_any test sorted ≡ list_any test list
      list_any-back test = sym (list_any-IsPermutation test list sorted is.records)

  pub cell_alike : (protocol : Protocol) (logical : ℕ) (n : Note) →
      cell_of protocol sorted logical n ≡ cell_of protocol list logical n
  cell_alike protocol logical note.Blank = refl
  cell_alike protocol logical note.Damaged = refl
  cell_alike protocol logical (note.Holds rec) =
      ap₂ (λ c h. Holds rec (rank_by c rec.version) h) (cur_alike list sorted is protocol logical rec.page)
      (held_alike protocol logical rec)

  pub walks_alike : (protocol : Protocol) (logical : ℕ) → walks_text protocol sorted logical
      ≡ walks_text protocol list logical
  walks_alike protocol logical =
      ap (λ f. flat_map f (range_with_len 0 logical))
      (fun_ext (λ page. line_alike list sorted is logical page (line_end protocol sorted logical page)
      ∙ ap (walk_line list logical page) (line_end_alike list sorted is protocol logical page)))

  pub cells_alike : (its : Config) (notes : List Note) → list ≡ found_in notes →
      map (cell_of its.protocol sorted its.logical) notes ≡ cells_of its notes
  cells_alike its notes e =
      ap (λ f. map f notes) (fun_ext (cell_alike its.protocol its.logical))
      ∙ ap (λ l. map (cell_of its.protocol l its.logical) notes) e

-- a picture that is drawn of the records in order of their names
pub picture_drawn : (its : Config) (notes : List Note) (marks : Marks) (sorted : List Found) (cells : List Cell)
    (old new : List ℕ) →
    Sorts (found_in notes) sorted → cells ≡ map (cell_of its.protocol sorted its.logical) notes →
    new ≡ old ++ parts its (shape_of its) sorted cells marks → new ≡ old ++ picture its notes marks
unfolding picture
picture_drawn its notes marks sorted cells old new is cells_are drawn =
    let list = found_in notes in
    drawn ∙ ap (λ t. old ++ t)
    (ap (λ w. heading its ++ map_text (shape_of its) cells marks ++ w ++ breach_line marks.breach)
    (walks_alike list sorted is its.protocol its.logical)
    ∙ ap (λ cs. parts its (shape_of its) list cs marks) (cells_are ∙ cells_alike list sorted is its notes refl))
