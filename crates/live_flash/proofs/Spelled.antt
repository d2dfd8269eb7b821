-- A file that was written wholly and is durable follows the flash that it spells.
use Rattle.live_flash.proofs.Common.{◌≡◌, ℕ, ◌+◌, ◌*◌, ◌<◌, ◌≤◌, false, List, [], ◌∷◌, ◌++◌, length, get_or, All, refl, ap, subst, ◌∙◌, inl, inr, arith, slots_of, Contents, blank, damaged, complete, slot_at, IsWhole, IsImage, cell_bytes, FileState, zeros, erased, slot_bytes, IsSlot, Holds, Follows, IsOpened, IsLiveFile, LeavesCounted}
use Rattle.std.specs.List.{flat_map}
use Rattle.std.specs.Int.{w32, to_le_bytes}
use Rattle.std.proofs.lemmas.Bool.{cases_lt, both_ways}
use Rattle.std.proofs.lemmas.List.{get_or_past, get_or_append_left, get_or-append-add}
use Rattle.std.proofs.lemmas.List.Elements.{All-get_or}
use Rattle.list_lemmas.proofs.Bytes.{IsBytes}
use Rattle.list_lemmas.proofs.Chunks.{chunk_end}
use Rattle.tx_types.specs.Config.{shape_of}
use Rattle.tx_types.specs.declared.config.Config.{Config}
use Rattle.flash_model.specs.Flash.{Extras}
use Rattle.file_flash.specs.Opening.{IsDurable}
use Rattle.live_image.specs.Slots.{live_slot}
use Rattle.live_image.proofs.Reading.{damaged_by_last}
use Rattle.live_file.specs.Spelling.{live_header, live_spelling}
use Rattle.live_file.proofs.Pieces.{length-live_slot, marked_last, get_or-pieces, length-live_header, pieces, spelled, spelling_long}
use Rattle.live_flash.proofs.Losing.{follows_lose}
use Rattle.live_flash.proofs.Calls.{counted_slot, empty_slot, all_bytes}

-- ---- the bytes of a slot of a spelling are those of a slot

front_bytes : (front back : List ℕ) → IsBytes (front ++ back) → All (λ b. b < 256) front
front_bytes front back is = all_bytes front (record {
  at = λ k. elim (cases_lt k (length front)) [
    | inl inside ↦ subst (λ b. b < 256) (get_or_append_left front back 0 k inside) (is.at k)
    | inr past ↦ rw (get_or_past front k 0 past) (omega arith)
  ];
})

pub spelled_slot : (page_bytes : ℕ) (c : Contents) → IsWhole page_bytes c → page_bytes ≤ 4096 →
    IsBytes (live_slot page_bytes c) → IsSlot page_bytes c (live_slot page_bytes c)
spelled_slot page_bytes blank whole most bytes = empty_slot page_bytes
spelled_slot page_bytes damaged whole most bytes =
    let slot = erased (cell_bytes page_bytes + 3) ++ 128 ∷ [] in
    let long = length-live_slot page_bytes damaged tt in
    let d = damaged_by_last page_bytes (erased (cell_bytes page_bytes + 3) ++ 128 ∷ []) (omega (arith, long))
    (omega (arith, long, most)) (marked_last page_bytes) in
    record {
      long = long;
      bytes = all_bytes (erased (cell_bytes page_bytes + 3) ++ 128 ∷ []) bytes;
      counts = d.1;
      reads = d.0;
      empty = λ e. absurd (cc);
    }
spelled_slot page_bytes (complete own spare_area) whole most bytes =
    counted_slot page_bytes own spare_area whole most
    (front_bytes (own ++ spare_area) (to_le_bytes w32 (zeros (own ++ spare_area))) bytes)

-- ---- the file

module _ (config : Config) (image : List Contents) (extras : Extras) (is : IsImage (shape_of config) image) where
  abbrev size : ℕ
  size = slot_bytes config.page_bytes

  abbrev slots : List ℕ
  slots = flat_map (live_slot config.page_bytes) image

  spelled_byte : (k j : ℕ) → k < length image → j < size →
      get_or (live_spelling config image extras) (64 + k * size + j) 0
      ≡ get_or (live_slot config.page_bytes (slot_at image k)) j 0
  spelled_byte k j inside within =
      let place : 64 + k * size + j ≡ length (live_header config extras) + (k * size + j) =
      omega (arith, length-live_header config extras) in
      ap (λ xs. get_or xs (64 + k * size + j) 0) (spelled config image extras is)
      ∙ ap (λ i. get_or (live_header config extras ++ slots) i 0) place
      ∙ get_or-append-add (live_header config extras) slots (k * size + j) 0
      ∙ get_or-pieces (live_slot config.page_bytes) size image k j (pieces config image extras is) inside within

  module _ (file : FileState) (d : IsDurable (live_spelling config image extras) file)
      (bytes : IsBytes (live_spelling config image extras)) where
    slot_bytes_are : (k : ℕ) → k < length image → IsBytes (live_slot config.page_bytes (slot_at image k))
    slot_bytes_are k inside = record {
      at = λ j. elim (cases_lt j size) [
        | inl within ↦ subst (λ b. b < 256) (spelled_byte k j inside within) (bytes.at (64 + k * size + j))
        | inr past ↦ rw (get_or_past (live_slot config.page_bytes (slot_at image k)) j 0
            (omega (
              arith,
              past,
              length-live_slot config.page_bytes (slot_at image k)
                  (All-get_or (IsWhole config.page_bytes) image k blank inside is.whole),
            ))) (omega arith)
      ];
    }

    slot_held : (k : ℕ) → k < length image → Holds (shape_of config) (slot_at image k) file k
    slot_held k inside =
        let whole = All-get_or (IsWhole config.page_bytes) image k blank inside is.whole in
        let ends : k * size + size ≤ slots_of (shape_of config) * size =
        chunk_end size k (slots_of (shape_of config)) (omega (arith, is.slots, inside)) in
        record {
          slot = live_slot config.page_bytes (slot_at image k);
          is = spelled_slot config.page_bytes (slot_at image k) whole is.bounds.page_most (slot_bytes_are k inside);
          each = λ j within.
              d.each (64 + k * size + j) (omega (arith, spelling_long config image extras is, ends, within))
              ∙ ap (λ b. b ∷ []) (spelled_byte k j inside within);
        }

    pub held_opened : IsOpened (shape_of config) file
    held_opened = record { long = d.long ∙ spelling_long config image extras is; copies = d.copies }

    pub held_file : IsLiveFile (shape_of config) (live_header config extras) file
    held_file = record {
      long = d.long ∙ spelling_long config image extras is;
      header = λ k inside.
          d.each k (omega (arith, spelling_long config image extras is, inside))
          ∙ ap (λ b. b ∷ []) (ap (λ xs. get_or xs k 0) (spelled config image extras is)
          ∙ get_or_append_left (live_header config extras) slots 0 k
          (omega (arith, length-live_header config extras, inside)));
    }

    pub held_follows : Follows (shape_of config) image [] [] file
    held_follows = record {
      keeps = λ k inside none done. slot_held k inside;
      waits = λ k inside none wait. absurd (both_ways false refl wait);
      due = λ k inside here. absurd (both_ways false refl here);
    }

    pub held_counts : LeavesCounted (shape_of config) file
    held_counts left l =
        (follows_lose (shape_of config) image [] [] [] file is held_opened.long held_follows (λ k e. e) (λ k e. e) left
        l).0
