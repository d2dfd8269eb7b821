-- A configuration and slots have one spelling, and what breaks no rule is one.
use Rattle.image_file.proofs.Common.{◌≡◌, ℕ, ◌+◌, ◌-◌, ◌*◌, ◌≤◌, eqb, List, ◌++◌, map, length, take, drop, slice_range, Option, Some, None, Ok, Err, refl, sym, ap, subst, ◌∙◌, arith, option_map, flat_map, eq-eqb, length-append, length-take, length-drop, checked, shape_of, slots_of, image_bytes, Config, Shape, checked_config, Seen, Contents, Extras, seen_of, cell_bytes, cell_of, header_of, state_byte, config_in, extras_in, shape_in, states_in, cells_in, all_seen, image_in, wrong_state, wrong_bytes, number_at, broken_header, broken_slots, ImageError}
use Rattle.std.proofs.Common.{◌↔◌}
use Rattle.std.specs.Option.{option_map_or}
use Rattle.std.proofs.lemmas.Bool.{eqb-true}
use Rattle.std.proofs.lemmas.List.{append_assoc, length-map, take-append-drop, drop-drop, take_at, drop_at}
use Rattle.std.proofs.Math.Seq.{take-add}
use Rattle.list_lemmas.proofs.Bytes.{IsBytes}
use Rattle.list_lemmas.proofs.Options.{option_or_none, map_none}
use Rattle.flash_model.specs.Flash.{IsImage}
use Rattle.flash_model.specs.Retiring.{max_allowance}
use Rattle.mem_flash.proofs.Images.{length-image_of, All-image_of}
use Rattle.image_file.specs.Spelling.{spelling, CanBeSpelled, Spells}
use Rattle.image_file.specs.Rules.{first_broken, reading}
use Rattle.image_file.specs.declared.error.ImageError.TheVariants as error
use Rattle.image_file.proofs.ImageLemmas.{states-all_seen, states-image_of, cells-image_of, all_seen-states, wrong_state-states, length-cells, image_of-cells}
use Rattle.image_file.proofs.ImageLemmas.{wrong_bytes-cells}
use Rattle.image_file.proofs.HeaderLemmas.{HeaderHolds, Reads, passed, passes, header_holds, header_passes, header_again, length-header_of, header_reads}

-- ---- the rules behind the header, each by itself

pub record SlotsHold (bytes : List ℕ) : Type 0 where
  pub long : length bytes ≡ image_bytes (shape_in bytes)
  pub states_hold : wrong_state (states_in bytes) ≡ None
  pub bytes_hold : wrong_bytes (cell_bytes (number_at 12 bytes)) (all_seen (states_in bytes)) (cells_in bytes) ≡ None

pub slots_hold : (bytes : List ℕ) → broken_slots bytes ≡ None → SlotsHold bytes
slots_hold bytes none =
    let a = passed (eqb (length bytes) (image_bytes (shape_in bytes))) error.Length _ none in
    let b = option_or_none (option_map (λ at. error.SlotState (record { 0 = at })) (wrong_state (states_in bytes)))
    _ a.1 in
    record {
      long = eqb-true (length bytes) (image_bytes (shape_in bytes)) a.0;
      states_hold = map_none _ (wrong_state (states_in bytes)) b.0;
      bytes_hold = map_none _ (wrong_bytes (cell_bytes (number_at 12 bytes)) (all_seen (states_in bytes))
          (cells_in bytes)) b.1;
    }

pub slots_pass : (bytes : List ℕ) → SlotsHold bytes → broken_slots bytes ≡ None
slots_pass bytes h =
    passes (eqb (length bytes) (image_bytes (shape_in bytes))) error.Length _ (eq-eqb _ _ h.long)
    ∙ rw (h.states_hold, h.bytes_hold) refl

pub holds_of : (bytes : List ℕ) → first_broken bytes ≡ None → HeaderHolds bytes × SlotsHold bytes
unfolding first_broken
holds_of bytes none =
    let parts = option_or_none (broken_header bytes) (broken_slots bytes) none in
    (header_holds bytes parts.0, slots_hold bytes parts.1)

pub none_broken : (bytes : List ℕ) → HeaderHolds bytes → SlotsHold bytes → first_broken bytes ≡ None
unfolding first_broken
none_broken bytes header slots = rw (header_passes bytes header) (slots_pass bytes slots)

-- ---- bytes that break no rule are spelled so

module _ (bytes : List ℕ) (header : HeaderHolds bytes) (whole : length bytes ≡ image_bytes (shape_in bytes)) where
  abbrev n : ℕ
  n = number_at 12 bytes

  abbrev count : ℕ
  count = slots_of (shape_in bytes)

  long : length bytes ≡ 64 + count * (65 + n)
  long = whole

  abbrev seen : List Seen
  seen = all_seen (states_in bytes)

  length-seen : length seen ≡ count
  length-seen = length-map (states_in bytes) _ ∙ omega (
    arith,
    long,
    length-take (64 + count - 64) (drop 64 bytes),
    length-drop 64 bytes,
  )

  pub length-cells_in : length (cells_in bytes) ≡ length seen * cell_bytes n
  length-cells_in =
      let all : length (cells_in bytes) ≡ count * cell_bytes n = omega (arith, long, length-drop (64 + count) bytes) in
      all ∙ ap (λ k. k * cell_bytes n) (sym length-seen)

  pub IsImage-read : IsImage (shape_in bytes) (image_in bytes)
  IsImage-read = record {
    bounds = (checked_config (config_in bytes) (shape_in bytes) header.checks).0.shape;
    slots = length-image_of n seen (cells_in bytes) ∙ length-seen;
    whole = All-image_of n seen (cells_in bytes) length-cells_in;
  }

module _ (bytes : List ℕ) (fits : IsBytes bytes) (header : HeaderHolds bytes) (slots : SlotsHold bytes) where
  pub read_again : bytes ≡ spelling (config_in bytes) (image_in bytes) (extras_in bytes)
  unfolding spelling
  read_again =
      let n = number_at 12 bytes in
      let count = slots_of (shape_in bytes) in
      let seen = all_seen (states_in bytes) in
      let states_are = states-image_of n seen (cells_in bytes) ∙ states-all_seen (states_in bytes) slots.states_hold in
      let cells_are = cells-image_of n seen (cells_in bytes) (length-cells_in bytes header slots.long) slots.bytes_hold in
      let header_is = (header_again bytes fits header).header in
      let many : 64 + count - 64 ≡ count = omega arith in
      let front : take 64 bytes ++ states_in bytes ≡ take (64 + count) bytes =
      ap (λ k. take 64 bytes ++ take k (drop 64 bytes)) many ∙
      sym (take-add 64 count bytes) in
      let parts : header_of (config_in bytes) (extras_in bytes) ++ map (λ slot. state_byte (seen_of slot))
      (image_in bytes) ++ flat_map (cell_of n)
      (image_in bytes) ≡ bytes =
      rw (header_is, states_are, cells_are) (ap (λ bs. bs ++ cells_in bytes) front
      ∙ take-append-drop (64 + count) bytes) in
      sym parts

-- ---- what is spelled breaks no rule

module _ (c : Config) (image : List Contents) (extras : Extras) (can : CanBeSpelled c image extras) where
  abbrev spelled : List ℕ
  spelled = spelling c image extras

  abbrev header : List ℕ
  header = header_of c extras

  pub length-header : length header ≡ 64
  length-header = length-header_of c extras can.within

  abbrev states : List ℕ
  states = map (λ slot. state_byte (seen_of slot)) image

  abbrev cells : List ℕ
  cells = flat_map (cell_of c.page_bytes) image

  pub in_parts : spelled ≡ header ++ (states ++ cells)
  unfolding spelling
  in_parts = append_assoc header states cells

  reads : Reads spelled c extras
  reads = subst (λ bytes. Reads bytes c extras) (sym in_parts)
      (header_reads c extras (states ++ cells) can.checks can.within can.few)

  pub config_in-spelling : config_in spelled ≡ c
  config_in-spelling = reads.config

  pub extras_in-spelling : extras_in spelled ≡ extras
  extras_in-spelling = reads.extras

  length-states : length states ≡ slots_of (shape_of c)
  length-states = length-map image _ ∙ can.fits.slots

  length-all_cells : length cells ≡ slots_of (shape_of c) * cell_bytes c.page_bytes
  length-all_cells = length-cells c.page_bytes image can.fits.whole
      ∙ ap (λ k. k * cell_bytes c.page_bytes) can.fits.slots

  pub length-spelling : length spelled ≡ image_bytes (shape_of c)
  length-spelling =
      ap length in_parts
      ∙ omega (
        arith,
        length-append header (states ++ cells),
        length-append states cells,
        length-header,
        length-states,
        length-all_cells,
      )

  behind : drop 64 spelled ≡ states ++ cells
  behind = ap (drop 64) in_parts ∙ drop_at header (states ++ cells) 64 length-header

  pub states_in-spelling : states_in spelled ≡ states
  states_in-spelling =
      let many : 64 + slots_of (shape_of c) - 64 ≡ slots_of (shape_of c) = omega arith in
      ap (λ (x : Config). slice_range spelled 64 (64 + slots_of (shape_of x))) config_in-spelling
      ∙ ap (λ k. take k (drop 64 spelled)) many ∙ ap (take (slots_of (shape_of c))) behind
      ∙ take_at states cells (slots_of (shape_of c)) length-states

  pub cells_in-spelling : cells_in spelled ≡ cells
  cells_in-spelling =
      ap (λ (x : Config). drop (64 + slots_of (shape_of x)) spelled) config_in-spelling
      ∙ sym (drop-drop (slots_of (shape_of c)) 64 spelled) ∙ ap (drop (slots_of (shape_of c))) behind
      ∙ drop_at states cells (slots_of (shape_of c)) length-states

  page_is : number_at 12 spelled ≡ c.page_bytes
  page_is = ap (λ (x : Config). x.page_bytes) config_in-spelling

  pub seen_are : all_seen (states_in spelled) ≡ map seen_of image
  seen_are = ap all_seen states_in-spelling ∙ all_seen-states c.page_bytes image

  pub image_in-spelling : image_in spelled ≡ image
  image_in-spelling = rw (page_is, seen_are, cells_in-spelling) (image_of-cells c.page_bytes image can.fits.whole)

  SlotsHold-spelling : SlotsHold spelled
  SlotsHold-spelling = record {
    long = length-spelling ∙ ap (λ (x : Config). image_bytes (shape_of x)) (sym config_in-spelling);
    states_hold = ap wrong_state states_in-spelling ∙ wrong_state-states c.page_bytes image;
    bytes_hold = rw (page_is, seen_are, cells_in-spelling) (wrong_bytes-cells c.page_bytes image can.fits.whole);
  }

  pub first_broken-spelling : first_broken spelled ≡ None
  first_broken-spelling = none_broken spelled reads.holds SlotsHold-spelling

  pub reading-spelling : reading spelled ≡ Ok (c, image, extras)
  reading-spelling = rw (first_broken-spelling, config_in-spelling, image_in-spelling, extras_in-spelling) refl

-- ---- both ways

pub read_spelled : (bytes : List ℕ) → IsBytes bytes → first_broken bytes ≡ None
    → Spells bytes (config_in bytes) (image_in bytes) (extras_in bytes)
read_spelled bytes fits none =
    let holds = holds_of bytes none in
    let header = header_again bytes fits holds.0 in
    record {
      can = record {
        checks = holds.0.checks;
        fits = IsImage-read bytes holds.0 holds.1.long;
        within = header.within;
        few = header.few;
      };
      same = read_again bytes fits holds.0 holds.1;
    }

-- header, states and bytes one after the other
pub written : (bytes : List ℕ) (c : Config) (shape : Shape) (image : List Contents) (extras : Extras) →
    checked c ≡ Ok shape → IsImage shape image
    → extras.retired ≤ extras.allowance → extras.allowance ≤ max_allowance
    → bytes ≡ header_of c extras ++ map (λ slot. state_byte (seen_of slot)) image
    ++ flat_map (cell_of shape.page_bytes) image
    → Spells bytes c image extras
unfolding spelling
written bytes c shape image extras checks fits within few parts =
    let shape_is = (checked_config c shape checks).1 in
    record {
      can = record {
        checks = checks ∙ ap (λ s. Ok s) shape_is;
        fits = subst (λ (s : Shape). IsImage s image) shape_is fits;
        within = within;
        few = few;
      };
      same = parts ∙ ap (λ (s : Shape). header_of c extras ++ map (λ slot. state_byte (seen_of slot)) image
          ++ flat_map (cell_of s.page_bytes) image) shape_is;
    }

-- no two have one spelling
pub spelling-injective : (c d : Config) (a b : List Contents) (e f : Extras) → CanBeSpelled c a e → CanBeSpelled d b f
    → spelling c a e ≡ spelling d b f → (c ≡ d) × (a ≡ b) × (e ≡ f)
spelling-injective c d a b e f can_a can_b same = (
  sym (config_in-spelling c a e can_a) ∙ ap config_in same ∙ config_in-spelling d b f can_b,
  sym (image_in-spelling c a e can_a) ∙ ap image_in same ∙ image_in-spelling d b f can_b,
  sym (extras_in-spelling c a e can_a) ∙ ap extras_in same ∙ extras_in-spelling d b f can_b,
)

-- what is read from bytes is what they spell
pub reading-iff : (bytes : List ℕ) (c : Config) (image : List Contents) (extras : Extras) → IsBytes bytes
    → (reading bytes ≡ Ok (c, image, extras)) ↔ Spells bytes c image extras
reading-iff bytes c image extras fits = (
  λ h.
      let read : Config × List Contents × Extras = (config_in bytes, image_in bytes, extras_in bytes) in
      let P : Option ImageError → Type 0 = λ broken.
      first_broken bytes ≡ broken → option_map_or Err broken (Ok read) ≡ Ok (c, image, extras) →
      Spells bytes c image extras in
      let cases : P (first_broken bytes) = elim (first_broken bytes) as P [
        | None ↦ λ none found.
            let same : read ≡ (c, image, extras) = cc in
            subst (λ (p : Config × List Contents × Extras). Spells bytes p.0 p.1 p.2) same
            (read_spelled bytes fits none)
        | Some e ↦ λ _ found. absurd cc
      ] in
      cases refl h,
  λ h. ap reading h.same ∙ reading-spelling c image extras h.can,
)
