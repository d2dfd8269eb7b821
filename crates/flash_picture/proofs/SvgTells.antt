-- The cells and labels of a picture in SVG are those of which the words tell.
use Rattle.flash_picture.proofs.Common.{◌≡◌, ℕ, zero, suc, ◌+◌, ◌<◌, ◌≤◌, Bool, true, false, Option, None, Some, List, [], ◌∷◌, ◌++◌, ◌||◌, refl, sym, ap, ◌∙◌, append_assoc, codes, arith, inl, inr, join_with_byte, range_with_len, false≢true, cases_Bool, cases_lt, cond-true, cond-false, Config, Link, Rec, shape_of, Note, found_in, note_at, Found, has_name, Cell, Marks, cell_at, cell_of, cell_words, is_named, slot_text, word_if, height, cells_of, above, append-nil, arrow_svg, cell_svg, cells_svg, die_heading, grid_of, is_held, label_svg, lines_svg, visible_arrow_svg, visible_arrows_svg, walk_svg, walks_svg, walks_take}
use Rattle.std.proofs.Common.{filter, flat_map, AllPairs, Contains}
use Rattle.record_list.specs.Current.{cur}
use Rattle.flash_picture.specs.declared.cell.Rank.{Rank}
use Rattle.flash_picture.specs.declared.cell.Rank.TheVariants.{Current, Loose, Stale}
use Rattle.flash_picture.specs.Cells.{rank_by}
use Rattle.list_lemmas.proofs.Membership.{Contains-cases, Contains-first, Contains-nil, Contains-rest}
use Rattle.list_lemmas.proofs.Pairs.{pairs_head, pairs_tail}
use Rattle.tx_types.specs.Config.{blocks_of, slots_of}
use Rattle.tx_types.specs.declared.config.Slot.{Slot}
use Rattle.judged_records.specs.declared.note.Note.TheVariants as note
use Rattle.judged_records.proofs.OfNotes.FoundIn.{found, found_in_ascending, holds_within, noted_from, noted_in}
use Rattle.record_list.proofs.OfFacts.Names.{has_name_true, has_own_name}
use Rattle.flash_picture.specs.declared.grid.Grid.{Grid}
use Rattle.flash_picture.specs.Grid.{bottom, cell_width, spot_of, width}
use Rattle.flash_picture.specs.Laws.{ArrowTells, HoldsName, IsInView, IsLowest, Shows, SvgCellTells, SvgLabelTells, SvgWalkTells, arrow_of, view_of}
use Rattle.flash_picture.specs.Pieces.{attribute, beside, group_begin, rectangle, title, words_at}
use Rattle.flash_picture.proofs.Tells.{cell_noted, rank_loose}
use Rattle.flash_picture.specs.Svg.{arrow_to, breach_svg, first_slot, is_loose_rank, is_in_view, map_svg, slot_named, slot_title, svg, target, visible_arrow_to}

-- what a part of a text shows, the text shows
pub shows_left : (x y part : List ℕ) → Shows x part → Shows (x ++ y) part
shows_left x y part s = (s.0, s.1 ++ y, ap (λ t. t ++ y) s.2 ∙ append_assoc (s.0 ++ part) s.1 y)

pub shows_right : (x y part : List ℕ) → Shows y part → Shows (x ++ y) part
shows_right x y part s = (
  x ++ s.0,
  s.1,
  ap (λ t. x ++ t) s.2 ∙ sym (append_assoc x (s.0 ++ part) s.1)
      ∙ ap (λ t. t ++ s.1) (sym (append_assoc x s.0 part)),
)

pub shows_self : (x : List ℕ) → Shows x x
shows_self x = ([], [], sym (append-nil x))

-- what a part shows that a text shows
pub shows_through : (x y part : List ℕ) → Shows x y → Shows y part → Shows x part
shows_through x y part (before, behind, e) s =
    let t = shows_left (before ++ y) behind part (shows_right before y part s) in (t.0, t.1, e ∙ t.2)

-- pieces for the numbers of a range show each of them
pub shows_piece : (f : ℕ → List ℕ) (a n k : ℕ) → a ≤ k → k < a + n → Shows (flat_map f (range_with_len a n)) (f k)
shows_piece f a zero k low high = absurd (omega arith)
shows_piece f a (suc n) k low high = elim (cases_lt a k) [
  | inl later ↦ shows_right (f a) (flat_map f (range_with_len (a + 1) n)) (f k)
      (shows_piece f (a + 1) n k (omega arith) (omega arith))
  | inr here ↦ (
      let same : a ≡ k = omega arith in
      ([], flat_map f (range_with_len (a + 1) n), ap (λ j. f j ++ flat_map f (range_with_len (a + 1) n)) same))
]

-- ---- the lowest slot of a name

module _ (name : Link) where
  abbrev test : Found → Bool
  test f = has_name name f.rec

  -- the first record of the name, in the order of slots, is in the lowest slot
  first_least : (l : List Found) (f : Found) → AllPairs (λ g h. g.slot.0 < h.slot.0) l → Contains l f → test f ≡ true →
      ((g : Found) → Contains l g → test g ≡ true → f.slot.0 ≤ g.slot.0) → first_slot (filter test l) ≡ Some f.slot
  first_least [] f up i pass least = absurd (Contains-nil f i)
  first_least (x ∷ xs) f up i pass least = elim (cases_Bool (test x)) [
    | inl here ↦ (
        let found : first_slot (filter test (x ∷ xs)) ≡ Some x.slot =
        ap first_slot (cond-true (test x) (x ∷ filter test xs) (filter test xs) here) in
        elim (Contains-cases x xs f i) [
          | inl e ↦ found ∙ ap (λ g. Some g.slot) e
          | inr later ↦ (
              let behind = pairs_head (λ g h. g.slot.0 < h.slot.0) x xs f up later in
              let low = least x (Contains-first x xs) here in
              absurd (omega arith))
        ])
    | inr fail ↦ elim (Contains-cases x xs f i) [
      | inl e ↦ absurd (false≢true (sym fail ∙ ap test e ∙ pass))
      | inr later ↦ ap first_slot (cond-false (test x) (x ∷ filter test xs) (filter test xs) fail)
          ∙ first_least xs f (pairs_tail (λ g h. g.slot.0 < h.slot.0) x xs up) later pass
          (λ g j. least g (Contains-rest x xs g j))
    ]
  ]

  first_none : (l : List Found) → ((g : Found) → Contains l g → test g ≡ true → ⊥) → first_slot (filter test l) ≡ None
  first_none [] none = refl
  first_none (x ∷ xs) none = elim (cases_Bool (test x)) [
    | inl here ↦ absurd (none x (Contains-first x xs) here)
    | inr fail ↦ ap first_slot (cond-false (test x) (x ∷ filter test xs) (filter test xs) fail)
        ∙ first_none xs (λ g j. none g (Contains-rest x xs g j))
  ]

  -- a noted record of the name
  noted : (notes : List Note) (g : Found) → Contains (found_in notes) g → test g ≡ true → HoldsName notes name g.slot.0
  noted notes g i pass = (g.rec, (noted_from notes g i).1, has_name_true name g.rec pass)

lowest_named : (notes : List Note) (name : Link) (slot : ℕ) → IsLowest notes name slot →
    slot_named (found_in notes) name ≡ Some (record { 0 = slot })
lowest_named notes name slot ((r, holds, named), least) =
    first_least name (found_in notes) (found slot r) (found_in_ascending notes)
    (noted_in notes slot r (holds_within notes slot r holds) holds)
    (has_own_name name r named) (λ g i pass. least g.slot.0 (noted name notes g i pass))

nowhere_named : (notes : List Note) (name : Link) → ((slot : ℕ) → HoldsName notes name slot → ⊥) →
    slot_named (found_in notes) name ≡ None
nowhere_named notes name none = first_none name (found_in notes) (λ g i pass. none g.slot.0 (noted name notes g i pass))

-- ---- which arrows are in view

pub above_loose : (rank : Rank) → is_loose_rank rank ≡ true → rank ≡ Loose
above_loose Current e = absurd (false≢true e)
above_loose Loose e = refl
above_loose Stale e = absurd (false≢true e)

module _ (current version : ℕ) (held : Bool) where
  abbrev shown : Bool
  shown = is_loose_rank (rank_by current version) || held

  pub loose_shown : current < version → shown ≡ true
  loose_shown less = ap (λ rank. is_loose_rank rank || held) ((rank_loose current version).1 less)

  pub held_shown : held ≡ true → shown ≡ true
  held_shown e = elim (cases_Bool (is_loose_rank (rank_by current version))) [
    | inl f ↦ ap (λ b. b || held) f
    | inr f ↦ ap (λ b. b || held) f ∙ e
  ]

  not_shown : (current < version → ⊥) → (held ≡ true → ⊥) → shown ≡ false
  not_shown not_loose not_held = elim (cases_Bool (is_loose_rank (rank_by current version))) [
    | inl f ↦ absurd (not_loose ((rank_loose current version).0 (above_loose (rank_by current version) f)))
    | inr f ↦ ap (λ b. b || held) f ∙ elim (cases_Bool held) [
      | inl g ↦ absurd (not_held g)
      | inr g ↦ g
    ]
  ]

-- ---- what the picture shows

module _ (its : Config) (notes : List Note) (marks : Marks) where
  abbrev cells : List Cell
  cells = cells_of its notes

  abbrev list : List Found
  list = found_in notes

  abbrev grid : Grid
  grid = grid_of (shape_of its) cells marks

  abbrev dies : List ℕ
  dies = flat_map (die_heading grid) (range_with_len 0 grid.shape.dies)

  abbrev labels : List ℕ
  labels = flat_map (label_svg grid marks) (range_with_len 0 (blocks_of grid.shape))

  abbrev views : List ℕ
  views = visible_arrows_svg grid list cells marks

  abbrev drawn : List ℕ
  drawn = cells_svg grid list cells marks

  abbrev top : List ℕ
  top = above its (width grid) (height grid (walks_take its.protocol list its.logical its.logical))

  -- what the map shows, the picture shows
  shows_map : (part : List ℕ) → Shows (map_svg grid list cells marks) part → Shows (svg its notes marks) part
  unfolding svg
  shows_map part s =
      let lines = lines_svg grid (walks_svg its.protocol list its.logical) marks.breach in
      shows_left (top ++ map_svg grid list cells marks ++ lines) (codes "</svg>\n") part
      (shows_left (top ++ map_svg grid list cells marks) lines part
      (shows_right top (map_svg grid list cells marks) part s))

  shows_cell : (slot : ℕ) → slot < slots_of (shape_of its) →
      Shows (svg its notes marks) (cell_svg grid list cells marks slot)
  shows_cell slot within =
      shows_map (cell_svg grid list cells marks slot)
      (shows_right (dies ++ labels ++ views) drawn (cell_svg grid list cells marks slot)
      (shows_piece (cell_svg grid list cells marks) 0 (slots_of grid.shape) slot (omega arith) (omega arith)))

  pub svg_cell_tells : (slot : ℕ) → slot < slots_of (shape_of its) → SvgCellTells its notes marks slot
  unfolding slot_text
  svg_cell_tells slot within = record {
    shown = shows_cell slot within;
    words = ap (λ k. join_with_byte 32 (cell_words k ++ word_if (is_named marks.breach slot) (codes "!")))
        (cell_noted its notes slot);
  }

  pub svg_label_tells : (block : ℕ) → block < blocks_of (shape_of its) → SvgLabelTells its notes marks block
  svg_label_tells block within =
      let part = label_svg grid marks block in
      shows_map part
      (shows_left (dies ++ labels ++ views) drawn part
      (shows_left (dies ++ labels) views part
      (shows_right dies labels part
      (shows_piece (label_svg grid marks) 0 (blocks_of grid.shape) block (omega arith) (omega arith)))))

  pub svg_walk_tells : (page : ℕ) → page < its.logical → SvgWalkTells its notes marks page
  unfolding svg
  svg_walk_tells page within =
      let walk = walk_svg its.protocol list its.logical in
      let walks = walks_svg its.protocol list its.logical in
      let part = walk page in
      let begun = top ++ map_svg grid list cells marks in
      let begin = codes "<text" ++ attribute (codes "y") (bottom grid) ++ codes ">" in
      let lines = begin ++ walks ++ breach_svg marks.breach ++ codes "</text>\n" in
      shows_left (begun ++ lines) (codes "</svg>\n") part
      (shows_right begun lines part
      (shows_left (begin ++ walks ++ breach_svg marks.breach) (codes "</text>\n") part
      (shows_left (begin ++ walks) (breach_svg marks.breach) part
      (shows_right begin walks part (shows_piece walk 0 its.logical page (omega arith) (omega arith))))))

  -- ---- arrows

  -- an arrow, by what is noted of its slot
  arrow_noted : (slot : ℕ) (n : Note) → note_at notes slot ≡ n → arrow_of its notes marks slot
      ≡ arrow_to grid slot (target list (cell_of its.protocol list its.logical n))
  arrow_noted slot n e =
      ap (λ k. arrow_to grid slot (target list k))
      (cell_noted its notes slot ∙ ap (cell_of its.protocol list its.logical) e)

  -- the cell of a slot shows its arrow
  cell_shows : (slot : ℕ) → Shows (cell_svg grid list cells marks slot) (arrow_svg grid list cells slot)
  cell_shows slot =
      let words = slot_text cells marks slot in
      let arrow = arrow_svg grid list cells slot in
      let titled = title (slot_title cells marks slot) in
      let box = rectangle (beside (spot_of grid slot) 0 10) (cell_width grid) 24 in
      let said = words_at (beside (spot_of grid slot) 8 26) words in
      shows_left (group_begin words ++ (titled ++ arrow ++ box ++ said)) (codes "</g>\n") arrow
      (shows_right (group_begin words) (titled ++ arrow ++ box ++ said) arrow
      (shows_left (titled ++ arrow ++ box) said arrow
      (shows_left (titled ++ arrow) box arrow
      (shows_right titled arrow arrow (shows_self arrow)))))

  -- whether the arrow of a slot is in view, by what is noted of the slot
  seen : (slot : ℕ) (n : Note) (there : Bool) → note_at notes slot ≡ n →
      is_in_view (cell_of its.protocol list its.logical n) ≡ there → is_in_view (cell_at cells slot) ≡ there
  seen slot n there e is = ap is_in_view (cell_noted its notes slot ∙ ap (cell_of its.protocol list its.logical) e) ∙ is

  -- an arrow in view, to a slot
  abbrev viewed : ℕ → Option Slot → List ℕ
  viewed slot to = visible_arrow_to grid (slot_text cells marks slot) slot to

  view_there : (slot : ℕ) → is_in_view (cell_at cells slot) ≡ true →
      view_of its notes marks slot ≡ viewed slot (target list (cell_at cells slot))
  view_there slot is =
      ap (viewed slot) (cond-true (is_in_view (cell_at cells slot)) (target list (cell_at cells slot)) None is)

  view_away : (slot : ℕ) → is_in_view (cell_at cells slot) ≡ false → view_of its notes marks slot ≡ []
  view_away slot is =
      ap (viewed slot) (cond-false (is_in_view (cell_at cells slot)) (target list (cell_at cells slot)) None is)

  -- where the arrow of a record leads
  leads : (slot : ℕ) (r : Rec) (to : Option Slot) → note_at notes slot ≡ note.Holds r → slot_named list r.next ≡ to →
      target list (cell_at cells slot) ≡ to
  leads slot r to e is =
      ap (target list) (cell_noted its notes slot ∙ ap (cell_of its.protocol list its.logical) e) ∙ is

  in_view : (slot : ℕ) (r : Rec) (to : Option Slot) → note_at notes slot ≡ note.Holds r → IsInView its notes r →
      slot_named list r.next ≡ to → view_of its notes marks slot ≡ viewed slot to
  in_view slot r to e is there =
      let c = cur its.protocol list its.logical r.page in
      let held = is_held its.protocol list its.logical r in
      view_there slot (seen slot (note.Holds r) true e (elim is [
        | inl loose ↦ loose_shown c r.version held loose
        | inr holds ↦ held_shown c r.version held holds
      ]))
      ∙ ap (viewed slot) (leads slot r to e there)

  out_of_view : (slot : ℕ) (r : Rec) → note_at notes slot ≡ note.Holds r → (IsInView its notes r → ⊥) →
      view_of its notes marks slot ≡ []
  out_of_view slot r e away =
      let c = cur its.protocol list its.logical r.page in
      let held = is_held its.protocol list its.logical r in
      view_away slot (seen slot (note.Holds r) false e
      (not_shown c r.version held (λ loose. away (inl loose)) (λ holds. away (inr holds))))

  -- no arrow, whether it is in view or not
  view_nowhere : (slot : ℕ) → target list (cell_at cells slot) ≡ None → view_of its notes marks slot ≡ []
  view_nowhere slot e = elim (cases_Bool (is_in_view (cell_at cells slot))) [
    | inl is ↦ view_there slot is ∙ ap (viewed slot) e
    | inr is ↦ view_away slot is
  ]

  pub arrow_tells : (slot : ℕ) → slot < slots_of (shape_of its) → ArrowTells its notes marks slot
  arrow_tells slot within =
      let arrow = arrow_svg grid list cells slot in
      let view = visible_arrow_svg grid list cells marks slot in
      record {
        shown = shows_through (svg its notes marks) (cell_svg grid list cells marks slot) arrow
            (shows_cell slot within) (cell_shows slot);
        within = cell_shows slot;
        to = λ r other holds lowest. arrow_noted slot (note.Holds r) holds
            ∙ ap (arrow_to grid slot) (lowest_named notes r.next other lowest);
        none = λ r holds nowhere. arrow_noted slot (note.Holds r) holds
            ∙ ap (arrow_to grid slot) (nowhere_named notes r.next nowhere);
        bare = λ no_record. bare_arrow slot (note_at notes slot) refl no_record;
        view_shown = shows_map view
            (shows_left (dies ++ labels ++ views) drawn view
            (shows_right (dies ++ labels) views view
            (shows_piece (visible_arrow_svg grid list cells marks) 0 (slots_of grid.shape) slot (omega arith) (omega arith))));
        in_view = λ r other holds is lowest. in_view slot r (Some (record { 0 = other })) holds is
            (lowest_named notes r.next other lowest);
        no_view = λ r holds nowhere. view_nowhere slot
            (leads slot r None holds (nowhere_named notes r.next nowhere));
        out_of_view = λ r holds away. out_of_view slot r holds away;
        bare_view = λ no_record. bare_view slot (note_at notes slot) refl no_record;
      }
    where
      bare_arrow : (slot : ℕ) (n : Note) → note_at notes slot ≡ n →
          ((r : Rec) → note_at notes slot ≡ note.Holds r → ⊥) → arrow_of its notes marks slot ≡ []
      bare_arrow slot note.Blank e no_record = arrow_noted slot note.Blank e
      bare_arrow slot note.Damaged e no_record = arrow_noted slot note.Damaged e
      bare_arrow slot (note.Holds r) e no_record = absurd (no_record r e)

      bare_view : (slot : ℕ) (n : Note) → note_at notes slot ≡ n →
          ((r : Rec) → note_at notes slot ≡ note.Holds r → ⊥) → view_of its notes marks slot ≡ []
      bare_view slot note.Blank e no_record = view_away slot (seen slot note.Blank false e refl)
      bare_view slot note.Damaged e no_record = view_away slot (seen slot note.Damaged false e refl)
      bare_view slot (note.Holds r) e no_record = absurd (no_record r e)
