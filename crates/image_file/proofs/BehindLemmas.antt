-- What the code has read behind a header.
use Rattle.image_file.proofs.Common.{◌≡◌, ℕ, ◌+◌, ◌-◌, ◌*◌, List, length, take, drop, slice_range, None, sym, ap, subst, ◌∙◌, arith, length-take, length-drop, take_all, slots_of, image_bytes, Shape, Seen, cell_bytes, shape_in, states_in, cells_in, image_in, all_seen, wrong_state, wrong_bytes, broken_slots}
use Rattle.std.proofs.lemmas.List.{length-map}
use Rattle.mem_flash.specs.Slots.{image_of, AreFilled}
use Rattle.image_file.specs.States.{AreSlotsOf}
use Rattle.image_file.specs.InUse.{AreFilledSlotsOf}
use Rattle.image_file.proofs.InUseLemmas.{AreFilledAs, states_pass, filled_fit, filled_hold}
use Rattle.image_file.proofs.SlotLemmas.{AreFilled-tested}
use Rattle.image_file.proofs.RefusalLemmas.{broken-nothing}

-- what is behind the first k bytes, as a range that is open above
pub rest_is : (k : ℕ) (bytes : List ℕ) → take (length bytes - k) (drop k bytes) ≡ drop k bytes
rest_is k bytes = take_all _ _ (simp length-drop (omega arith))

-- the states and the bytes of the slots, which stand in front of and behind the end of the head
pub record IsBehind (bytes : List ℕ) (shape : Shape) (head : ℕ) (seen : List Seen) : Type 0 where
  pub is_shape : shape ≡ shape_in bytes
  pub is_head : head ≡ 64 + slots_of shape
  pub long : length bytes ≡ image_bytes shape
  pub known : wrong_state (slice_range bytes 64 head) ≡ None
  pub read : seen ≡ all_seen (slice_range bytes 64 head)

slots_are : (bytes : List ℕ) (shape : Shape) (head : ℕ) (seen : List Seen) → IsBehind bytes shape head seen →
    length seen ≡ slots_of shape
slots_are bytes shape head seen h =
    let long : length bytes ≡ 64 + slots_of shape * (65 + shape.page_bytes) = h.long in
    ap length h.read ∙ length-map (slice_range bytes 64 head) _
    ∙ omega (arith, h.is_head, long, length-take (head - 64) (drop 64 bytes), length-drop 64 bytes)

-- the rest of the file has the bytes of each slot
pub cells_fit : (bytes : List ℕ) (shape : Shape) (head : ℕ) (seen : List Seen) → IsBehind bytes shape head seen
    → length (drop head bytes) ≡ length seen * cell_bytes shape.page_bytes
cells_fit bytes shape head seen h =
    let slots = slots_of shape in
    let long : length bytes ≡ 64 + slots * (65 + shape.page_bytes) = h.long in
    let all : length (drop head bytes) ≡ slots * cell_bytes shape.page_bytes =
    omega (arith, h.is_head, long, length-drop head bytes) in
    all ∙ ap (λ n. n * cell_bytes shape.page_bytes) (sym (slots_are bytes shape head seen h))

module _ (bytes : List ℕ) (shape : Shape) (head : ℕ) (seen : List Seen) (h : IsBehind bytes shape head seen) where
  head_is : head ≡ 64 + slots_of (shape_in bytes)
  head_is = h.is_head ∙ ap (λ (s : Shape). 64 + slots_of s) h.is_shape

  length-bytes : length bytes ≡ image_bytes (shape_in bytes)
  length-bytes = h.long ∙ ap image_bytes h.is_shape

  states_are : slice_range bytes 64 head ≡ states_in bytes
  states_are = ap (λ n. slice_range bytes 64 n) head_is

  cells_are : drop head bytes ≡ cells_in bytes
  cells_are = ap (λ n. drop n bytes) head_is

  seen_are : seen ≡ all_seen (states_in bytes)
  seen_are = h.read ∙ ap all_seen states_are

  image_is : image_of shape.page_bytes seen (drop head bytes) ≡ image_in bytes
  image_is =
      ap (λ (s : Shape). image_of s.page_bytes seen (drop head bytes)) h.is_shape
      ∙ ap (λ s. image_of (shape_in bytes).page_bytes s (drop head bytes)) seen_are
      ∙ ap (image_of (shape_in bytes).page_bytes (all_seen (states_in bytes))) cells_are

  module _ (fits : wrong_bytes (cell_bytes shape.page_bytes) seen (drop head bytes) ≡ None) where
    filled : AreFilled shape.page_bytes seen (drop head bytes)
    filled = AreFilled-tested shape.page_bytes seen (drop head bytes) (cells_fit bytes shape head seen h) fits

    slots_hold : broken_slots bytes ≡ None
    slots_hold =
        let page_is : shape.page_bytes ≡ (shape_in bytes).page_bytes = ap (λ (s : Shape). s.page_bytes) h.is_shape in
        broken-nothing bytes length-bytes (sym (ap wrong_state states_are) ∙ h.known)
        (sym (ap (λ n. wrong_bytes (cell_bytes n) (all_seen (states_in bytes)) (cells_in bytes)) page_is)
        ∙ sym (ap (λ s. wrong_bytes (cell_bytes shape.page_bytes) s (cells_in bytes)) seen_are)
        ∙ sym (ap (wrong_bytes (cell_bytes shape.page_bytes) seen) cells_are) ∙ fits)

    pub slots_read : AreSlotsOf bytes shape seen
    slots_read =
        let long : length bytes ≡ 64 + slots_of shape * (65 + shape.page_bytes) = h.long in
        record {
          sound = slots_hold;
          many = slots_are bytes shape head seen h;
          whole = omega (arith, long);
          filled = subst (λ n. AreFilled shape.page_bytes seen (drop n bytes)) h.is_head filled;
          image = ap (λ n. image_of shape.page_bytes seen (drop n bytes)) (sym h.is_head) ∙ image_is;
        }

  -- where the slots without contents are filled, whatever their own bytes were
  module _ (new : List ℕ) (same : length new ≡ length bytes)
      (fill : AreFilledAs (cell_bytes shape.page_bytes) seen (drop head bytes) (drop head new)) where
    pub slots_filled : AreFilledSlotsOf bytes new shape seen
    slots_filled =
        let long : length bytes ≡ 64 + slots_of shape * (65 + shape.page_bytes) = h.long in
        record {
          sound = states_pass bytes (record {
            long = length-bytes;
            states_hold = sym (ap wrong_state states_are) ∙ h.known;
          });
          many = slots_are bytes shape head seen h;
          whole = omega (arith, long, same);
          filled = subst (λ n. AreFilled shape.page_bytes seen (drop n new)) h.is_head
              (filled_fit shape.page_bytes seen (drop head bytes) (drop head new) fill);
          image = ap (λ n. image_of shape.page_bytes seen (drop n new)) (sym h.is_head)
              ∙ filled_hold shape.page_bytes seen (drop head bytes) (drop head new) fill ∙ image_is;
        }
