-- Where each slot is noted as it reads, the noted records are those of the image, and keep law 9 as they do.
use Rattle.collector.proofs.Common.{◌≡◌, ℕ, ◌<◌, length, sym, ap, ◌∙◌, subst, arith, length-map, get_or-map, ext_get_or, shape_of, slots_of, FlashState, IsFlash, blank, Blank, IsSoundImage, found_in, note_of, notes_of, IndexState, found_in_notes, IsNotedAt}
use Rattle.record_list.specs.Counts.{HasCounts}

pub sure_counts : (s : FlashState) (n : IndexState) → s.shape ≡ shape_of n.config → IsFlash s →
    IsSoundImage n.config.protocol n.config.logical s.shape s.image →
    length n.notes ≡ slots_of (shape_of n.config) → ((slot : ℕ) → slot < slots_of s.shape → IsNotedAt s.image n slot) →
    HasCounts (found_in n.notes)
sure_counts s n shape flash sound slots sure =
    let p = n.config.protocol in
    let same : notes_of p s.image ≡ n.notes = ext_get_or Blank (notes_of p s.image) n.notes
    (length-map s.image (note_of p) ∙ flash.slots ∙ ap slots_of shape ∙ sym slots)
    (λ slot within.
    let low : slot < length s.image = omega (arith, length-map s.image (note_of p)) in
    get_or-map (note_of p) s.image slot blank Blank low ∙ sym (sure slot (omega (arith, flash.slots)))) in
    subst HasCounts (sym (found_in_notes p s.image) ∙ ap found_in same) sound.written.counts
