use Rattle.flash_picture.proofs.Common.{◌≡◌, ◌∙◌, ℕ, ◌+◌, ◌<◌, List, [], ◌∷◌, ◌++◌, ap, ap₂, arith, cell_of, get_or, length, map, sym, take}
use Rattle.std.proofs.Common.{length-append}
use Rattle.std.proofs.lemmas.List.{map-append, take_all, take_more}
use Rattle.flash_picture.proofs.cells.cells_by.Goals as goal

-- one item more
mapped_more : {X Y : Type 0} (f : X → Y) (items : List X) (i : ℕ) (none : X) (old new : List Y) (one : Y) →
    i < length items → old ≡ map f (take i items) → one ≡ f (get_or items i none) → new ≡ old ++ one ∷ [] →
    new ≡ map f (take (i + 1) items)
mapped_more f items i none old new one within before is after =
    after ∙ ap₂ (λ o x. o ++ x ∷ []) before is
    ∙ sym (ap (map f) (take_more items i none within) ∙ map-append f (take i items) (get_or items i none ∷ []))

pub loop-note-init : goal.loop-note-init
loop-note-init c = (
  c.in_ok-cells.ensures.items,
  ap length c.in_ok-cells.ensures.items,
  c.in_ok-cells.ensures.exact,
)

pub loop-note-preserved : goal.loop-note-preserved
loop-note-preserved c =
    let s = c.args.standing.now in (
      mapped_more (cell_of s.protocol s.list s.logical) c.args.notes.now c.loop-note.note-index _
          c.loop-note.cells.items c.push_reserved.new.self.items c.cell.result c.loop-note-test.true
          c.loop-note.invariant.0 c.cell.ensures c.push_reserved.ensures.items,
      ap length c.push_reserved.ensures.items ∙ length-append c.loop-note.cells.items (c.cell.result ∷ [])
          ∙ ap (λ n. n + 1) c.loop-note.invariant.1,
      c.push_reserved.ensures.capacity ∙ c.loop-note.invariant.2,
    )

pub returns : goal.returns
returns c =
    let s = c.args.standing.now in
    c.loop-note.invariant.0 ∙ ap (map (cell_of s.protocol s.list s.logical))
    (take_all c.loop-note.note-index c.args.notes.now c.loop-note-test.false)
