use Rattle.image_file.proofs.Common.{◌≡◌, ℕ, ◌+◌, ◌-◌, ◌*◌, ◌<◌, ◌≤◌, List, length, get_or, sym, ap, subst, ◌∙◌, arith, Seen, Blank}
use Rattle.std.proofs.Common.{rules, inl, inr}
use Rattle.std.specs.Fork.{slice_chunk}
use Rattle.std.proofs.lemmas.Bool.{cases_lt}
use Rattle.std.proofs.lemmas.List.{places, same_lists}
use Rattle.list_lemmas.proofs.Chunks.{chunk_end, length-slice_chunk, slice_chunk-only}
use Rattle.mem_flash.specs.Slots.{overwritten}
use Rattle.mem_flash.proofs.Chunks.{slice_chunk-written_before, slice_chunk-written_behind, slice_chunk-written}
use Rattle.image_file.specs.InUse.{filled_as}
use borrow.Rule.Slice.PartMut.{put_mid}
use Rattle.image_file.proofs.in_use.fill_bare.Goals as goal

-- one part written over
mid_is : (cells new : List ℕ) (from size : ℕ) → length new ≡ size → from + size ≤ length cells →
    put_mid from (from + size - from) cells new ≡ overwritten cells from new
mid_is cells new from size long within = same_lists _ _ (search (rules, places)) (λ k d h. grind (arith, places))

module _ (size : ℕ) (seen : List Seen) (initial cells new : List ℕ) (at : ℕ) (long : length cells ≡ length seen * size)
    (inside : at < length seen) (new_long : length new ≡ size) where
  room : at * size + size ≤ length cells
  room = omega (arith, long, chunk_end size at (length seen) inside)

  next : (at + 1) * size ≤ length cells
  next = omega (arith, room)

  one : length new ≡ 1 * size
  one = omega (arith, new_long)

  abbrev after : List ℕ
  after = overwritten cells (at * size) new

  here : slice_chunk after size at ≡ new
  here = slice_chunk-written cells size at 1 new one next at 0 (omega arith) (omega arith)
      ∙ slice_chunk-only new size new_long

  filled_more : new ≡ filled_as size (get_or seen at Blank) (slice_chunk initial size at) →
      ((k : ℕ) → k < at → slice_chunk cells size k ≡ filled_as size (get_or seen k Blank) (slice_chunk initial size k)) →
      (k : ℕ) → k < at + 1 → slice_chunk after size k ≡ filled_as size (get_or seen k Blank) (slice_chunk initial size k)
  filled_more is before k less = elim (cases_lt k at) [
    | inl lower ↦ slice_chunk-written_before cells size at 1 new one next k lower ∙ before k lower
    | inr from ↦ (
        let same : k ≡ at = omega arith in
        subst (λ i. slice_chunk after size i ≡ filled_as size (get_or seen i Blank) (slice_chunk initial size i)) (sym same) (here ∙ is))
  ]

  rest_more : ((k : ℕ) → at ≤ k → k < length seen → slice_chunk cells size k ≡ slice_chunk initial size k) →
      (k : ℕ) → at + 1 ≤ k → k < length seen → slice_chunk after size k ≡ slice_chunk initial size k
  rest_more rest k from below =
      slice_chunk-written_behind cells size at 1 new one next k from ∙ rest k (omega arith) below

pub loop-at-preserved : goal.loop-at-preserved
loop-at-preserved c =
    let size = c.args.size in
    let seen = c.args.seen.now in
    let at = c.loop-at.at in
    let cells = c.loop-at.cells in
    let new = c.fill_cell.new.cell in
    let long : length cells ≡ length seen * size = omega arith in
    let inside : at < length seen = omega arith in
    let ends = chunk_end size at (length seen) inside in
    let whole : at * size + size - at * size ≡ size = omega arith in
    let chunk_long : length (slice_chunk cells size at) ≡ size = length-slice_chunk cells size at (omega (arith, ends)) in
    let its = rw (whole, chunk_long) at c.fill_cell.ensures in
    let new_long : length new ≡ size = omega (arith, c.fill_cell.auto.cell, chunk_long, whole) in
    let is = its ∙ ap (filled_as size (get_or seen at Blank)) (c.loop-at.invariant.rest at (omega arith) inside) in
    let over = mid_is cells new (at * size) size new_long (omega (arith, ends)) in
    record {
      filled = λ k less. rw over (filled_more size seen c.args.cells.now cells new at long inside new_long is
          c.loop-at.invariant.filled k less);
      rest = λ k from below. rw over (rest_more size seen c.args.cells.now cells new at long inside new_long
          c.loop-at.invariant.rest k from below);
    }
