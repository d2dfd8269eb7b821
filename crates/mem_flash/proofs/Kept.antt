-- What the slots are after the calls, by what these write.
use Rattle.mem_flash.proofs.Common.{◌≡◌, ◌≢◌, ℕ, ◌+◌, ◌*◌, ◌<◌, ◌≤◌, List, [], ◌++◌, length, get_or, set, take, drop, replicate, refl, ap, sym, ◌∙◌, arith, slice_chunk, length-set, length-append, length-drop, length-replicate, mul-le-mul_right, chunk_end, slots_of, Shape, Seen, Blank, Complete, Contents, blank, overwritten, cell_bytes, contents_of, image_of, IsFilled, AreFilled}
use Rattle.std.proofs.Common.{add-one}
use Rattle.std.specs.List.{flat_map}
use Rattle.std.proofs.lemmas.List.{get_or_read, set_split}
use Rattle.flash_model.specs.Flash.{complete, slot_at, IsImage}
use Rattle.flash_model.specs.Calls.{seen_of, page_of, spare_area_of}
use Rattle.mem_flash.specs.Slots.{cell_of, filler}
use Rattle.mem_flash.specs.SlotsInside.{SlotsInvariant, cells_of}
use Rattle.mem_flash.specs.declared.slots.Slots.TheInside.{Inside}
use Rattle.mem_flash.proofs.Images.{length-image_of, cells-image_of, All-image_of, AreFilled-blank, image_of-blank, get_or-image_of, seen_of-contents_of}
use Rattle.mem_flash.proofs.Images.{cell_of-contents_of, page_of-contents_of, spare_area_of-contents_of}
use Rattle.mem_flash.proofs.Chunks.{length-overwritten, drop-overwritten}
use Rattle.mem_flash.proofs.Programmed.{image_of-programmed, AreFilled-programmed}
use Rattle.mem_flash.proofs.Filled.{image_of-filled, AreFilled-filled, length-filled_states}

-- new slots, all of them blank
pub AreFilled-new : (shape : Shape) (states : List Seen) (cells : List ℕ) → states ≡ replicate (slots_of shape) Blank
    → cells ≡ replicate (slots_of shape * cell_bytes shape.page_bytes) 255 → AreFilled shape.page_bytes states cells
AreFilled-new shape states cells states_are cells_are =
    rw (states_are, cells_are) (AreFilled-blank shape.page_bytes (slots_of shape))

pub image_of-all_blank : (shape : Shape) (states : List Seen) (cells : List ℕ) →
    states ≡ replicate (slots_of shape) Blank
    → image_of shape.page_bytes states cells ≡ replicate (slots_of shape) blank
image_of-all_blank shape states cells states_are =
    rw states_are (image_of-blank shape.page_bytes (slots_of shape) cells)

module _ (f : Inside) (stored : SlotsInvariant f) where
  abbrev page : ℕ
  page = f.shape.page_bytes

  abbrev size : ℕ
  size = cell_bytes f.shape.page_bytes

  abbrev states : List Seen
  states = f.seen.items

  abbrev cells : List ℕ
  cells = cells_of f

  cells_long : length cells ≡ slots_of f.shape * size
  cells_long = simp length-drop (omega (arith, stored.bytes))

  bytes_long : length cells ≡ length states * size
  bytes_long = cells_long ∙ ap (λ (n : ℕ). n * size) (sym stored.slots)

  pub cell_within : (at : ℕ) → at < slots_of f.shape → f.head + at * size + size ≤ length f.bytes.items
  cell_within at below =
      let ends : at * size + size ≤ slots_of f.shape * size = chunk_end size at (slots_of f.shape) below in
      omega (arith, stored.bytes)

  pub cells_within : (i m : ℕ) → i + m ≤ slots_of f.shape → f.head + i * size + m * size ≤ length f.bytes.items
  cells_within i m within =
      let ends : (i + m) * size ≤ slots_of f.shape * size = mul-le-mul_right size within in
      omega (arith, stored.bytes)

  -- what all slots show
  pub flat-cells : flat_map (cell_of page) (image_of page states cells) ≡ cells
  flat-cells = cells-image_of page states cells bytes_long stored.filled

  pub IsImage-stored : IsImage f.shape (image_of page states cells)
  IsImage-stored = record {
    bounds = stored.shape;
    slots = length-image_of page states cells ∙ stored.slots;
    whole = All-image_of page states cells bytes_long;
  }

  -- what a slot shows
  module _ (at : ℕ) (below : at < slots_of f.shape) where
    abbrev state : Seen
    state = get_or states at Blank

    abbrev cell : List ℕ
    cell = slice_chunk cells size at

    is : slot_at (image_of page states cells) at ≡ contents_of page state cell
    is = get_or-image_of page states cells at blank (rw stored.slots below)

    filled : IsFilled page state cell
    filled = stored.filled at (rw stored.slots below)

    pub seen_of-slot : (how : Seen) → how ≡ get_or states at how →
        how ≡ seen_of (slot_at (image_of page states cells) at)
    seen_of-slot how read =
        rw is (get_or_read states at how (rw stored.slots below) read Blank ∙ sym (seen_of-contents_of page state cell))

    pub cell_of-slot : cell_of page (slot_at (image_of page states cells) at) ≡ cell
    cell_of-slot = rw is (cell_of-contents_of page state cell filled)

    pub page_of-slot : page_of page (slot_at (image_of page states cells) at) ≡ take page cell
    page_of-slot = rw is (page_of-contents_of page state cell filled)

    pub spare_area_of-slot : spare_area_of (slot_at (image_of page states cells) at) ≡ drop page cell
    spare_area_of-slot = rw is (spare_area_of-contents_of page state cell filled)

  -- after a program
  module _ (at : ℕ) (bytes spare_area : List ℕ) (below : at < slots_of f.shape) (whole : length bytes ≡ page)
      (tail : length spare_area ≡ 64) where
    inside : at < length states
    inside = rw stored.slots below

    written_within : f.head + at * size + length (bytes ++ spare_area) ≤ length f.bytes.items
    written_within =
        let ends : at * size + size ≤ slots_of f.shape * size = chunk_end size at (slots_of f.shape) below in
        simp length-append (omega (arith, stored.bytes))

    written : (new_bytes : List ℕ) → new_bytes ≡ overwritten f.bytes.items (f.head + at * size) (bytes ++ spare_area)
        → drop f.head new_bytes ≡ overwritten cells (at * size) (bytes ++ spare_area)
    written new_bytes bytes_are =
        rw bytes_are (drop-overwritten f.bytes.items f.head (at * size) (bytes ++ spare_area) written_within)

    pub image-programmed : (new_states : List Seen) (new_bytes : List ℕ)
        → new_states ≡ set states at Complete → new_bytes ≡ overwritten f.bytes.items (f.head + at * size)
        (bytes ++ spare_area)
        → image_of page new_states (drop f.head new_bytes) ≡ set (image_of page states cells) at
        (complete bytes spare_area)
    image-programmed new_states new_bytes states_are bytes_are =
        rw (states_are, written new_bytes bytes_are) (image_of-programmed page states cells bytes_long at bytes
        spare_area inside whole tail)

    pub AreStored-programmed : (g : Inside) → g.shape ≡ f.shape → g.head ≡ f.head
        → g.seen.items ≡ set states at Complete → g.bytes.items ≡ overwritten f.bytes.items (f.head + at * size)
        (bytes ++ spare_area)
        → SlotsInvariant g
    AreStored-programmed g same same_head states_are bytes_are = record {
      shape = rw same stored.shape;
      slots = rw (states_are, same) (length-set states at Complete ∙ stored.slots);
      bytes = rw (bytes_are, same, same_head) (length-overwritten f.bytes.items (f.head + at * size)
          (bytes ++ spare_area) written_within ∙ stored.bytes);
      filled = rw (states_are, same, same_head, written g.bytes.items bytes_are)
          (AreFilled-programmed page states cells bytes_long at bytes spare_area inside whole tail stored.filled);
    }

  -- after the m slots from slot i on have lost their contents
  module _ (i m : ℕ) (how : Seen) (within : i + m ≤ slots_of f.shape) (bare : how ≢ Complete) where
    all_inside : i + m ≤ length states
    all_inside = rw stored.slots within

    filled_bytes : (new_bytes : List ℕ) → new_bytes ≡ overwritten f.bytes.items (f.head + i * size)
        (replicate (m * size) (filler how))
        → drop f.head new_bytes ≡ overwritten cells (i * size) (replicate (m * size) (filler how))
    filled_bytes new_bytes bytes_are =
        rw bytes_are (drop-overwritten f.bytes.items f.head (i * size) (replicate (m * size) (filler how))
        (simp length-replicate (cells_within i m within)))

    pub image-filled : (new_states : List Seen) (new_bytes : List ℕ)
        → new_states ≡ overwritten states i (replicate m how)
        → new_bytes ≡ overwritten f.bytes.items (f.head + i * size) (replicate (m * size) (filler how))
        → image_of page new_states (drop f.head new_bytes) ≡ overwritten (image_of page states cells) i
        (replicate m (contents_of page how []))
    image-filled new_states new_bytes states_are bytes_are =
        rw (states_are, filled_bytes new_bytes bytes_are)
        (image_of-filled page states cells bytes_long i m all_inside how bare)

    pub AreStored-filled : (g : Inside) → g.shape ≡ f.shape → g.head ≡ f.head
        → g.seen.items ≡ overwritten states i (replicate m how)
        → g.bytes.items ≡ overwritten f.bytes.items (f.head + i * size) (replicate (m * size) (filler how)) →
        SlotsInvariant g
    AreStored-filled g same same_head states_are bytes_are = record {
      shape = rw same stored.shape;
      slots = rw (states_are, same) (length-filled_states page states cells bytes_long i m all_inside how bare
          ∙ stored.slots);
      bytes = rw (bytes_are, same, same_head) (length-overwritten f.bytes.items (f.head + i * size)
          (replicate (m * size) (filler how))
          (simp length-replicate (cells_within i m within)) ∙ stored.bytes);
      filled = rw (states_are, same, same_head, filled_bytes g.bytes.items bytes_are)
          (AreFilled-filled page states cells bytes_long i m all_inside how bare stored.filled);
    }

-- one slot written over
pub overwritten-one : (image : List Contents) (at : ℕ) (contents : Contents) → at < length image
    → overwritten image at (replicate 1 contents) ≡ set image at contents
overwritten-one image at contents below = rw (set_split image at contents below, add-one) refl
