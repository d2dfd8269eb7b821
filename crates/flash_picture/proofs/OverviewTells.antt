-- What the letters and squares of an overview tell.
use Rattle.flash_picture.proofs.Common.{◌≡◌, ℕ, suc, ◌+◌, ◌<◌, ◌≤◌, Bool, true, false, List, [], ◌∷◌, ◌++◌, refl, sym, ap, ◌∙◌, inl, inr, arith, codes, flat_map, range_with_len, cond, cond-true, cond-false, false≢true, Config, Rec, shape_of, Note, found_in, note_at, is_held, Cell, Blank, Damaged, Holds, Marks, cell_at, cell_of, cells_of, is_named, walks_svg, walks_take}
use Rattle.std.proofs.Common.{◌*◌, ◌/◌, ◌%◌, ◌⊎◌, ◌↔◌, subst}
use Rattle.std.proofs.lemmas.Bool.{false_from_ne_true}
use Rattle.std.proofs.lemmas.Nat.{div-add-mod', mod_below, mul-le, row-Below}
use Rattle.std.proofs.Math.Nat.{suc-mul}
use Rattle.tx_types.specs.Config.{blocks_of, slots_of}
use Rattle.judged_records.specs.declared.note.Note.TheVariants as note
use Rattle.record_list.specs.Current.{cur}
use Rattle.flash_picture.specs.declared.cell.Rank.{Rank}
use Rattle.flash_picture.specs.declared.cell.Rank.TheVariants.{Current, Loose, Stale}
use Rattle.flash_picture.specs.declared.kind.Kind.{Kind}
use Rattle.flash_picture.specs.declared.kind.Kind.TheVariants as kind
use Rattle.flash_picture.specs.Cells.{rank_by}
use Rattle.flash_picture.specs.Kinds.{all_kinds, is_current_rank, is_of, is_stale_rank}
use Rattle.flash_picture.specs.Laws.{IsNamed, Shows, block_with}
use Rattle.flash_picture.specs.Map.{die_text}
use Rattle.flash_picture.specs.Overview.{before_sign, counts_text, letter, rank_letter, row_text, rows_text, sign_at, sign_text, signs_text}
use Rattle.flash_picture.specs.OverviewLaws.{HoldsOf, IsOfKind, IsRecordOf, SignTells, SquareTells, die_with, place_of_slot}
use Rattle.flash_picture.specs.OverviewSvg.{dash, dash_if, dashes, die_svg, die_width, kind_svg, label_of, label_spot, named_svg, overview, overview_above, overview_bottom, pointed_slots, row_inside, row_svg, row_title, squares}
use Rattle.flash_picture.specs.Picture.{breach_line, heading}
use Rattle.flash_picture.specs.Pieces.{group_begin, title, words_at}
use Rattle.flash_picture.specs.Svg.{is_loose_rank, lines_at}
use Rattle.flash_picture.specs.Walks.{walks_text}
use Rattle.flash_picture.specs.Kinds.{kind_word}
use Rattle.flash_picture.proofs.PlaceTells.{first_some}
use Rattle.flash_picture.proofs.SvgTells.{above_loose, shows_left, shows_piece, shows_right, shows_self}
use Rattle.flash_picture.proofs.Tells.{cell_noted, is_mark, rank_current, rank_loose, rank_stale}

-- ---- letters

current_letter : (rank : Rank) (held : Bool) →
    ((rank_letter rank held ≡ 99) ⊎ (rank_letter rank held ≡ 67)) ↔ (rank ≡ Current)
current_letter Current true = (λ _. refl, λ _. inr refl)
current_letter Current false = (λ _. refl, λ _. inl refl)
current_letter Loose true = (λ e. absurd (elim e [ inl f ↦ omega arith | inr f ↦ omega arith ]), λ e. absurd cc)
current_letter Loose false = (λ e. absurd (elim e [ inl f ↦ omega arith | inr f ↦ omega arith ]), λ e. absurd cc)
current_letter Stale true = (λ e. absurd (elim e [ inl f ↦ omega arith | inr f ↦ omega arith ]), λ e. absurd cc)
current_letter Stale false = (λ e. absurd (elim e [ inl f ↦ omega arith | inr f ↦ omega arith ]), λ e. absurd cc)

loose_letter : (rank : Rank) (held : Bool) →
    ((rank_letter rank held ≡ 108) ⊎ (rank_letter rank held ≡ 76)) ↔ (rank ≡ Loose)
loose_letter Loose true = (λ _. refl, λ _. inr refl)
loose_letter Loose false = (λ _. refl, λ _. inl refl)
loose_letter Current true = (λ e. absurd (elim e [ inl f ↦ omega arith | inr f ↦ omega arith ]), λ e. absurd cc)
loose_letter Current false = (λ e. absurd (elim e [ inl f ↦ omega arith | inr f ↦ omega arith ]), λ e. absurd cc)
loose_letter Stale true = (λ e. absurd (elim e [ inl f ↦ omega arith | inr f ↦ omega arith ]), λ e. absurd cc)
loose_letter Stale false = (λ e. absurd (elim e [ inl f ↦ omega arith | inr f ↦ omega arith ]), λ e. absurd cc)

stale_letter : (rank : Rank) (held : Bool) →
    ((rank_letter rank held ≡ 115) ⊎ (rank_letter rank held ≡ 83)) ↔ (rank ≡ Stale)
stale_letter Stale true = (λ _. refl, λ _. inr refl)
stale_letter Stale false = (λ _. refl, λ _. inl refl)
stale_letter Current true = (λ e. absurd (elim e [ inl f ↦ omega arith | inr f ↦ omega arith ]), λ e. absurd cc)
stale_letter Current false = (λ e. absurd (elim e [ inl f ↦ omega arith | inr f ↦ omega arith ]), λ e. absurd cc)
stale_letter Loose true = (λ e. absurd (elim e [ inl f ↦ omega arith | inr f ↦ omega arith ]), λ e. absurd cc)
stale_letter Loose false = (λ e. absurd (elim e [ inl f ↦ omega arith | inr f ↦ omega arith ]), λ e. absurd cc)

held_letter : (rank : Rank) (held : Bool) →
    ((rank_letter rank held ≡ 67) ⊎ ((rank_letter rank held ≡ 76) ⊎ (rank_letter rank held ≡ 83))) ↔ (held ≡ true)
held_letter Current true = (λ _. refl, λ _. inl refl)
held_letter Loose true = (λ _. refl, λ _. inr (inl refl))
held_letter Stale true = (λ _. refl, λ _. inr (inr refl))
held_letter Current false = (
  λ e. absurd (elim e [ inl f ↦ omega arith | inr f ↦ elim f [ inl g ↦ omega arith | inr g ↦ omega arith ] ]),
  λ e. absurd (false≢true e),
)
held_letter Loose false = (
  λ e. absurd (elim e [ inl f ↦ omega arith | inr f ↦ elim f [ inl g ↦ omega arith | inr g ↦ omega arith ] ]),
  λ e. absurd (false≢true e),
)
held_letter Stale false = (
  λ e. absurd (elim e [ inl f ↦ omega arith | inr f ↦ elim f [ inl g ↦ omega arith | inr g ↦ omega arith ] ]),
  λ e. absurd (false≢true e),
)

-- no letter is a `!`
rank_above : (rank : Rank) (held : Bool) → 33 < rank_letter rank held
rank_above Current true = omega arith
rank_above Current false = omega arith
rank_above Loose true = omega arith
rank_above Loose false = omega arith
rank_above Stale true = omega arith
rank_above Stale false = omega arith

letter_above : (cell : Cell) → 33 < letter cell
letter_above Blank = omega arith
letter_above Damaged = omega arith
letter_above (Holds r rank held) = rank_above rank held

sign_mark : (there : Bool) (letter : ℕ) → 33 < letter → (cond there 33 letter ≡ 33) ↔ (there ≡ true)
sign_mark true letter above = (λ _. refl, λ _. refl)
sign_mark false letter above = (λ e. absurd (omega arith), λ e. absurd (false≢true e))

then_so : (A B C : Type 0) → A ↔ B → B ↔ C → A ↔ C
then_so A B C f g = (λ a. g.0 (f.0 a), λ c. f.1 (g.1 c))

module _ (its : Config) (notes : List Note) (marks : Marks) (slot : ℕ) where
  abbrev cell : Cell
  cell = cell_at (cells_of its notes) slot

  abbrev sign : ℕ
  sign = sign_at (cells_of its notes) marks slot

  abbrev noted : Note → Cell
  noted n = cell_of its.protocol (found_in notes) its.logical n

  plain_sign : (n : Note) → (IsNamed marks.breach slot → ⊥) → note_at notes slot ≡ n → sign ≡ letter (noted n)
  plain_sign n none e =
      cond-false (is_named marks.breach slot) 33 (letter cell)
      (false_from_ne_true (is_named marks.breach slot) (λ t. none ((is_mark marks.breach slot).0 t)))
      ∙ ap letter (cell_noted its notes slot ∙ ap noted e)

  abbrev rank_of : Rec → Rank
  rank_of r = rank_by (cur its.protocol (found_in notes) its.logical r.page) r.version

  abbrev held_of : Rec → Bool
  held_of r = is_held its.protocol (found_in notes) its.logical r

  one_of : (a b x y : ℕ) (B : Type 0) → x ≡ y → ((y ≡ a) ⊎ (y ≡ b)) ↔ B → ((x ≡ a) ⊎ (x ≡ b)) ↔ B
  one_of a b x y B e is = subst (λ (z : ℕ). ((z ≡ a) ⊎ (z ≡ b)) ↔ B) (sym e) is

-- ---- as text

module _ (its : Config) (notes : List Note) (marks : Marks) (slot : ℕ) (there : slot < slots_of (shape_of its)) where
  abbrev cells : List Cell
  cells = cells_of its notes

  abbrev pages : ℕ
  pages = its.pages_per_block

  abbrev block : ℕ
  block = slot / pages

  abbrev at : ℕ
  at = slot % pages

  some_pages : 0 < pages
  some_pages = first_some pages (blocks_of (shape_of its)) slot there

  within : block < blocks_of (shape_of its)
  within = (row-Below slot pages pages (blocks_of (shape_of its)) there (omega arith)).1

  same : block * pages + at ≡ slot
  same = div-add-mod' slot pages

  inside : at < pages
  inside = mod_below slot pages some_pages

  shows_row : Shows (overview false its notes marks) (row_text (shape_of its) cells marks block)
  unfolding overview
  shows_row =
      let part = row_text (shape_of its) cells marks block in
      let rows = rows_text (shape_of its) cells marks in
      let counts = counts_text (shape_of its) cells in
      let walks = walks_text its.protocol (found_in notes) its.logical in
      shows_left (heading its ++ rows ++ counts ++ walks) (breach_line marks.breach) part
      (shows_left (heading its ++ rows ++ counts) walks part
      (shows_left (heading its ++ rows) counts part
      (shows_right (heading its) rows part
      (shows_piece (row_text (shape_of its) cells marks) 0 (blocks_of (shape_of its)) block (omega arith)
      (omega (arith, within))))))

  shows_sign : Shows (row_text (shape_of its) cells marks block)
      (before_sign marks block at ++ sign_at cells marks slot ∷ [])
  shows_sign =
      let die = die_text (shape_of its) block in
      let all = signs_text (shape_of its) cells marks block in
      subst (λ k. Shows (row_text (shape_of its) cells marks block)
      (before_sign marks block at ++ sign_at cells marks k ∷ [])) same
      (shows_left (die ++ all) (codes "\n") (sign_text (shape_of its) cells marks block at)
      (shows_right die all (sign_text (shape_of its) cells marks block at)
      (shows_piece (sign_text (shape_of its) cells marks block) 0 pages at (omega arith) (omega (arith, inside)))))

  pub sign_tells : SignTells its notes marks slot
  sign_tells = record {
    row = shows_row;
    sign = shows_sign;
    mark = then_so _ _ _
        (sign_mark (is_named marks.breach slot) (letter (cell_at cells slot)) (letter_above (cell_at cells slot)))
        (is_mark marks.breach slot);
    blank = λ none e. plain_sign its notes marks slot note.Blank none e;
    damaged = λ none e. plain_sign its notes marks slot note.Damaged none e;
    current = λ r none e. one_of its notes marks slot 99 67 _ _ _
        (plain_sign its notes marks slot (note.Holds r) none e)
        (then_so _ _ _ (current_letter (rank_of its notes marks slot r) (held_of its notes marks slot r))
        (rank_current (cur its.protocol (found_in notes) its.logical r.page) r.version));
    loose = λ r none e. one_of its notes marks slot 108 76 _ _ _
        (plain_sign its notes marks slot (note.Holds r) none e)
        (then_so _ _ _ (loose_letter (rank_of its notes marks slot r) (held_of its notes marks slot r))
        (rank_loose (cur its.protocol (found_in notes) its.logical r.page) r.version));
    stale = λ r none e. one_of its notes marks slot 115 83 _ _ _
        (plain_sign its notes marks slot (note.Holds r) none e)
        (then_so _ _ _ (stale_letter (rank_of its notes marks slot r) (held_of its notes marks slot r))
        (rank_stale (cur its.protocol (found_in notes) its.logical r.page) r.version));
    held = λ r none e. subst (λ (z : ℕ). ((z ≡ 67) ⊎ ((z ≡ 76) ⊎ (z ≡ 83))) ↔ (held_of its notes marks slot r ≡ true))
        (sym (plain_sign its notes marks slot (note.Holds r) none e))
        (held_letter (rank_of its notes marks slot r) (held_of its notes marks slot r));
  }

  -- ---- in SVG

  -- pieces for all kinds show that of each
  shows_kind : (f : Kind → List ℕ) (k : Kind) → Shows (flat_map f all_kinds) (f k)
  shows_kind f k =
      let c = f kind.Current in
      let l = f kind.Loose in
      let s = f kind.Stale in
      let d = f kind.Damaged in
      let b = f kind.Blank in
      let h = f kind.Held in
      let g = f kind.Discard in
      let from_g = g ++ [] in
      let from_h = h ++ from_g in
      let from_b = b ++ from_h in
      let from_d = d ++ from_b in
      let from_s = s ++ from_d in
      let from_l = l ++ from_s in
      elim k as (λ x. Shows (c ++ from_l) (f x)) [
        | kind.Current ↦ shows_left c from_l c (shows_self c)
        | kind.Loose ↦ shows_right c from_l l (shows_left l from_s l (shows_self l))
        | kind.Stale ↦ shows_right c from_l s (shows_right l from_s s (shows_left s from_d s (shows_self s)))
        | kind.Damaged ↦ shows_right c from_l d (shows_right l from_s d (shows_right s from_d d
            (shows_left d from_b d (shows_self d))))
        | kind.Blank ↦ shows_right c from_l b (shows_right l from_s b (shows_right s from_d b
            (shows_right d from_b b (shows_left b from_h b (shows_self b)))))
        | kind.Held ↦ shows_right c from_l h (shows_right l from_s h (shows_right s from_d h
            (shows_right d from_b h (shows_right b from_h h (shows_left h from_g h (shows_self h))))))
        | kind.Discard ↦ shows_right c from_l g (shows_right l from_s g (shows_right s from_d g
            (shows_right d from_b g (shows_right b from_h g (shows_right h from_g g
            (shows_left g [] g (shows_self g)))))))
      ]

  shows_squares : Shows (overview true its notes marks) (row_svg (shape_of its) cells marks block)
  unfolding overview
  shows_squares =
      let shape = shape_of its in
      let part = row_svg shape cells marks block in
      let above = overview_above its shape cells (walks_take its.protocol (found_in notes) its.logical its.logical) in
      let map = squares shape cells marks in
      let dies = flat_map (die_svg shape) (range_with_len 0 shape.dies) in
      let rows = flat_map (row_svg shape cells marks) (range_with_len 0 (blocks_of shape)) in
      let lines = lines_at (overview_bottom shape) (walks_svg its.protocol (found_in notes) its.logical) marks.breach in
      shows_left (above ++ map ++ lines) (codes "</svg>\n") part
      (shows_left (above ++ map) lines part
      (shows_right above map part
      (shows_left (dies ++ rows) (named_svg shape marks.breach) part
      (shows_right dies rows part
      (shows_piece (row_svg shape cells marks) 0 (blocks_of shape) block (omega arith) (omega (arith, within)))))))

  shows_lines : (k : Kind) → Shows (row_svg (shape_of its) cells marks block) (kind_svg (shape_of its) cells block k)
  shows_lines k =
      let shape = shape_of its in
      let part = kind_svg shape cells block k in
      let label = label_of marks block in
      let titled = title (row_title shape cells marks block) in
      let words = words_at (label_spot shape block) label in
      let kinds = flat_map (kind_svg shape cells block) all_kinds in
      let pointed = pointed_slots shape cells marks block in
      shows_left (group_begin label ++ row_inside shape cells marks block) (codes "</g>\n") part
      (shows_right (group_begin label) (row_inside shape cells marks block) part
      (shows_left (titled ++ words ++ kinds) pointed part
      (shows_right (titled ++ words) kinds part (shows_kind (kind_svg shape cells block) k))))

  shows_dash : (k : Kind) → Shows (kind_svg (shape_of its) cells block k) (dash_if (shape_of its) cells block k at)
  shows_dash k =
      let shape = shape_of its in
      let part = dash_if shape cells block k at in
      let begun = codes "<path class='" ++ kind_word k ++ codes "' d='" in
      shows_left (begun ++ dashes shape cells block k) (codes "'/>") part
      (shows_right begun (dashes shape cells block k) part
      (shows_piece (dash_if shape cells block k) 0 pages at (omega arith) (omega (arith, inside))))

  -- which slots are of a kind
  rank_at : (rank : Rank) → is_current_rank rank ≡ true → rank ≡ Current
  rank_at Current e = refl
  rank_at Loose e = absurd (false≢true e)
  rank_at Stale e = absurd (false≢true e)

  rank_under : (rank : Rank) → is_stale_rank rank ≡ true → rank ≡ Stale
  rank_under Current e = absurd (false≢true e)
  rank_under Loose e = absurd (false≢true e)
  rank_under Stale e = refl

  record_of : (k : Kind) (r : Rec) → (is_of k (cell_of its.protocol (found_in notes) its.logical (note.Holds r)) ≡ true)
      ↔ IsRecordOf its notes k r
  record_of k r =
      let c = cur its.protocol (found_in notes) its.logical r.page in
      let rank = rank_by c r.version in
      elim k as (λ x. (is_of x (cell_of its.protocol (found_in notes) its.logical (note.Holds r)) ≡ true)
      ↔ IsRecordOf its notes x r) [
        | kind.Current ↦ (
          λ t. (rank_current c r.version).0 (rank_at rank t),
          λ is. ap is_current_rank ((rank_current c r.version).1 is),
        )
        | kind.Loose ↦ (
          λ t. (rank_loose c r.version).0 (above_loose rank t),
          λ is. ap is_loose_rank ((rank_loose c r.version).1 is),
        )
        | kind.Stale ↦ (
          λ t. (rank_stale c r.version).0 (rank_under rank t),
          λ is. ap is_stale_rank ((rank_stale c r.version).1 is),
        )
        | kind.Damaged ↦ (λ t. absurd (false≢true t), λ is. absurd is)
        | kind.Blank ↦ (λ t. absurd (false≢true t), λ is. absurd is)
        | kind.Held ↦ (λ t. t, λ is. is)
        | kind.Discard ↦ (λ t. t, λ is. is)
      ]

  no_record : (k : Kind) (n : Note) → note_at notes slot ≡ n → ((r : Rec) → n ≡ note.Holds r → ⊥) →
      HoldsOf its notes k slot → ⊥
  no_record k n e bare (r, holds, is) = bare r (sym e ∙ holds)

  record_by : (k : Kind) (r : Rec) → note_at notes slot ≡ note.Holds r →
      (is_of k (cell_of its.protocol (found_in notes) its.logical (note.Holds r)) ≡ true) ↔ HoldsOf its notes k slot
  record_by k r e = (
    λ t. (r, e, (record_of k r).0 t),
    λ (s, holds, is). (record_of k r).1 (subst (λ (x : Rec). IsRecordOf its notes k x)
        (let one : note.Holds s ≡ note.Holds r = sym holds ∙ e in cc) is),
  )

  unlike : (A B : Type 0) → (A → ⊥) → (B → ⊥) → A ↔ B
  unlike A B f g = (λ a. absurd (f a), λ b. absurd (g b))

  kind_by : (k : Kind) (n : Note) → note_at notes slot ≡ n →
      (is_of k (cell_of its.protocol (found_in notes) its.logical n) ≡ true) ↔ IsOfKind its notes slot k
  kind_by kind.Current note.Blank e = unlike _ _ (λ t. false≢true t) (λ h. no_record kind.Current _ e (λ r f. cc) h)
  kind_by kind.Loose note.Blank e = unlike _ _ (λ t. false≢true t) (λ h. no_record kind.Loose _ e (λ r f. cc) h)
  kind_by kind.Stale note.Blank e = unlike _ _ (λ t. false≢true t) (λ h. no_record kind.Stale _ e (λ r f. cc) h)
  kind_by kind.Damaged note.Blank e = (λ t. absurd (false≢true t), λ d. absurd (let f = sym e ∙ d in cc))
  kind_by kind.Blank note.Blank e = (λ _. e, λ _. refl)
  kind_by kind.Held note.Blank e = unlike _ _ (λ t. false≢true t) (λ h. no_record kind.Held _ e (λ r f. cc) h)
  kind_by kind.Discard note.Blank e = unlike _ _ (λ t. false≢true t) (λ h. no_record kind.Discard _ e (λ r f. cc) h)
  kind_by kind.Current note.Damaged e = unlike _ _ (λ t. false≢true t) (λ h. no_record kind.Current _ e (λ r f. cc) h)
  kind_by kind.Loose note.Damaged e = unlike _ _ (λ t. false≢true t) (λ h. no_record kind.Loose _ e (λ r f. cc) h)
  kind_by kind.Stale note.Damaged e = unlike _ _ (λ t. false≢true t) (λ h. no_record kind.Stale _ e (λ r f. cc) h)
  kind_by kind.Damaged note.Damaged e = (λ _. e, λ _. refl)
  kind_by kind.Blank note.Damaged e = (λ t. absurd (false≢true t), λ d. absurd (let f = sym e ∙ d in cc))
  kind_by kind.Held note.Damaged e = unlike _ _ (λ t. false≢true t) (λ h. no_record kind.Held _ e (λ r f. cc) h)
  kind_by kind.Discard note.Damaged e = unlike _ _ (λ t. false≢true t) (λ h. no_record kind.Discard _ e (λ r f. cc) h)
  kind_by kind.Current (note.Holds r) e = record_by kind.Current r e
  kind_by kind.Loose (note.Holds r) e = record_by kind.Loose r e
  kind_by kind.Stale (note.Holds r) e = record_by kind.Stale r e
  kind_by kind.Damaged (note.Holds r) e = (λ t. absurd (false≢true t), λ d. absurd (let f = sym e ∙ d in cc))
  kind_by kind.Blank (note.Holds r) e = (λ t. absurd (false≢true t), λ d. absurd (let f = sym e ∙ d in cc))
  kind_by kind.Held (note.Holds r) e = record_by kind.Held r e
  kind_by kind.Discard (note.Holds r) e = record_by kind.Discard r e

  -- the cell at the place of a slot
  cell_there : (k : Kind) → is_of k (cell_at cells (block * pages + at))
      ≡ is_of k (cell_of its.protocol (found_in notes) its.logical (note_at notes slot))
  cell_there k = ap (λ s. is_of k (cell_at cells s)) same ∙ ap (is_of k) (cell_noted its notes slot)

  -- ---- where squares stand

  rows_below : (n b c : ℕ) → b / n ≡ c / n → b < c → b % n < c % n
  rows_below n b c die later =
      let x = div-add-mod' b n in
      let y = div-add-mod' c n in
      let e = ap (λ q. q * n) die in
      omega arith

  tops_below : (x y : ℕ) → x < y → 140 + 8 * x + 8 ≤ 140 + 8 * y
  tops_below x y less = omega arith

  dies_beside : (die other width here at_other : ℕ) → die < other → 6 * here + 6 ≤ width →
      8 + die * width + 64 + 6 * here + 6 ≤ 8 + other * width + 64 + 6 * at_other
  dies_beside die other width here at_other later few =
      let most = mul-le (suc die) width other width (omega arith) (omega arith) in
      let one = suc-mul die width in
      omega arith

  pub square_tells : SquareTells its notes marks slot
  square_tells = record {
    row = shows_squares;
    lines = shows_lines;
    there = λ k is. subst (λ part. Shows (kind_svg (shape_of its) cells block k) part)
        (cond-true (is_of k (cell_at cells (block * pages + at))) (dash (shape_of its) block k at) []
        (cell_there k ∙ (kind_by k (note_at notes slot) refl).1 is))
        (shows_dash k);
    none = λ k no. cond-false (is_of k (cell_at cells (block * pages + at))) (dash (shape_of its) block k at) []
        (cell_there k ∙ false_from_ne_true (is_of k (cell_of its.protocol (found_in notes) its.logical
        (note_at notes slot)))
        (λ t. no ((kind_by k (note_at notes slot) refl).0 t)));
    below = λ other die later. tops_below (block % its.blocks_per_die) (block_with its other % its.blocks_per_die)
        (rows_below its.blocks_per_die block (block_with its other) die later);
    beside = λ other later. dies_beside (die_with its slot) (die_with its other) (die_width (shape_of its)) at
        (place_of_slot its other) later (omega (arith, inside));
  }
