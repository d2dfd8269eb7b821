use Rattle.live_flash.proofs.Common.{◌≡◌, ℕ, ◌+◌, ◌-◌, ◌*◌, ◌<◌, ◌≤◌, List, length, sym, subst, ◌∙◌, inl, inr, arith, rules, Contents, slot_at, IsSlot}
use Rattle.std.specs.Fork.{slice_chunk}
use Rattle.std.proofs.lemmas.Bool.{cases_lt}
use Rattle.std.proofs.lemmas.List.{places, same_lists}
use Rattle.list_lemmas.proofs.Chunks.{chunk_end, slice_chunk-only}
use Rattle.mem_flash.specs.Slots.{overwritten}
use Rattle.mem_flash.proofs.Chunks.{slice_chunk-written_before, slice_chunk-written}
use borrow.Rule.Slice.PartMut.{put_mid}
use Rattle.live_flash.proofs.follower.fill_slots.Goals as goal

-- one part written over
mid_is : (cells new : List ℕ) (from size : ℕ) → length new ≡ size → from + size ≤ length cells →
    put_mid from (from + size - from) cells new ≡ overwritten cells from new
mid_is cells new from size long within = same_lists _ _ (search (rules, places)) (λ k d h. grind (arith, places))

-- one more is written
filled_more : (page_bytes : ℕ) (image : List Contents) (first size count at : ℕ) (cells new : List ℕ) →
    length cells ≡ count * size → at < count → length new ≡ size →
    IsSlot page_bytes (slot_at image (first + at)) new →
    ((k : ℕ) → k < at → IsSlot page_bytes (slot_at image (first + k)) (slice_chunk cells size k)) →
    (k : ℕ) → k < at + 1 →
    IsSlot page_bytes (slot_at image (first + k)) (slice_chunk (overwritten cells (at * size) new) size k)
filled_more page_bytes image first size count at cells new long inside new_long is before k less =
    let room : at * size + size ≤ length cells = omega (arith, long, chunk_end size at count inside) in
    let next : (at + 1) * size ≤ length cells = omega (arith, room) in
    let one : length new ≡ 1 * size = omega (arith, new_long) in
    elim (cases_lt k at) [
      | inl lower ↦ subst (IsSlot page_bytes (slot_at image (first + k)))
          (sym (slice_chunk-written_before cells size at 1 new one next k lower)) (before k lower)
      | inr from ↦
          let same : k ≡ at = omega (arith, less, from) in
          let here : slice_chunk (overwritten cells (at * size) new) size at ≡ new =
          slice_chunk-written cells size at 1 new one next at 0 (omega arith) (omega arith)
          ∙ slice_chunk-only new size new_long in
          subst (λ i. IsSlot page_bytes (slot_at image (first + i))
          (slice_chunk (overwritten cells (at * size) new) size i)) (sym same)
          (subst (IsSlot page_bytes (slot_at image (first + at))) (sym here) is)
    ]

pub loop-at-preserved : goal.loop-at-preserved
loop-at-preserved c =
    let m = c.args.memory.now in
    let size = c.args.size in
    let at = c.loop-at.at in
    let cells = c.loop-at.places in
    let new = c.fill_slot.new.place in
    let long : length cells ≡ c.args.count * size = omega arith in
    let inside : at < c.args.count = omega arith in
    let ends = chunk_end size at c.args.count inside in
    let is = c.fill_slot.ensures in
    let new_long : length new ≡ size = omega (arith, is.long, c.requires.size) in
    let over = mid_is cells new (at * size) size new_long (omega (arith, ends, long)) in
    λ k less. rw over (filled_more m.shape.page_bytes m.image c.args.first.0 size c.args.count at cells new long inside
    new_long is c.loop-at.invariant k less)
