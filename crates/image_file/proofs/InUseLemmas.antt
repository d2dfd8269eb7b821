-- What the bytes of an image file in use say.
use Rattle.image_file.proofs.Common.{◌≡◌, ℕ, suc, ◌+◌, ◌*◌, ◌<◌, eqb, List, [], ◌∷◌, ◌++◌, map, length, take, drop, slice_range, Option, Some, None, Ok, Err, refl, sym, ap, subst, ◌∙◌, arith, get_or, eq-eqb, shape_of, slots_of, image_bytes, Config, Contents, Extras, Seen, Blank, seen_of, cell_bytes, header_of, state_byte, config_in, extras_in, shape_in, states_in, cells_in, all_seen, image_in, wrong_state, number_at, broken_header, ImageError}
use Rattle.std.proofs.Common.{◌↔◌}
use Rattle.std.specs.Fork.{slice_chunk}
use Rattle.std.specs.Option.{option_map_or}
use Rattle.std.proofs.lemmas.Bool.{eqb-true}
use Rattle.std.proofs.lemmas.List.{take-append-drop, take_at}
use Rattle.list_lemmas.proofs.Bytes.{IsBytes}
use Rattle.list_lemmas.proofs.Chunks.{slice_chunk-suc}
use Rattle.list_lemmas.proofs.Options.{option_or_none, map_none}
use Rattle.flash_model.specs.declared.flash.Seen.TheVariants.{Complete, Damaged}
use Rattle.mem_flash.specs.Slots.{contents_of, image_of, IsFilled, AreFilled}
use Rattle.mem_flash.proofs.Images.{seen_of-contents_of}
use Rattle.image_file.specs.Spelling.{spelling, Spells}
use Rattle.image_file.specs.Rules.{IsRefusal}
use Rattle.image_file.specs.InUse.{broken_slots_in_use, broken_in_use, reading_in_use, filled_as, IsInUse}
use Rattle.image_file.specs.declared.error.ImageError.TheVariants as error
use Rattle.image_file.proofs.HeaderLemmas.{HeaderHolds, Reads, passed, passes, header_holds, header_passes, header_again, header_reads}
use Rattle.image_file.proofs.ImageLemmas.{states-all_seen, states-image_of, all_seen-states, wrong_state-states}
use Rattle.image_file.proofs.RefusalLemmas.{refusal-some, refusal-before, refusal-behind, only_memory}
use Rattle.image_file.proofs.SpellingLemmas.{IsImage-read, in_parts, length-header, states_in-spelling, config_in-spelling, image_in-spelling, length-spelling, seen_are}

-- ---- the rules behind the header

pub record StatesHold (bytes : List ℕ) : Type 0 where
  pub long : length bytes ≡ image_bytes (shape_in bytes)
  pub states_hold : wrong_state (states_in bytes) ≡ None

pub states_hold_of : (bytes : List ℕ) → broken_slots_in_use bytes ≡ None → StatesHold bytes
states_hold_of bytes none =
    let a = passed (eqb (length bytes) (image_bytes (shape_in bytes))) error.Length _ none in
    record {
      long = eqb-true (length bytes) (image_bytes (shape_in bytes)) a.0;
      states_hold = map_none _ (wrong_state (states_in bytes)) a.1;
    }

pub states_pass : (bytes : List ℕ) → StatesHold bytes → broken_slots_in_use bytes ≡ None
states_pass bytes h =
    passes (eqb (length bytes) (image_bytes (shape_in bytes))) error.Length _ (eq-eqb _ _ h.long)
    ∙ rw h.states_hold refl

-- ---- what breaks no rule is in use

seen-image_of : (n : ℕ) (seen : List Seen) (cells : List ℕ) → map seen_of (image_of n seen cells) ≡ seen
seen-image_of n [] cells = refl
seen-image_of n (how ∷ seen) cells =
    let first = seen_of-contents_of n how (take (cell_bytes n) cells) in
    let others = seen-image_of n seen (drop (cell_bytes n) cells) in
    cc

pub in_use : (bytes : List ℕ) → IsBytes bytes → HeaderHolds bytes → StatesHold bytes →
    IsInUse bytes (config_in bytes) (image_in bytes) (extras_in bytes)
in_use bytes fits header slots =
    let n = number_at 12 bytes in
    let seen = all_seen (states_in bytes) in
    let again = header_again bytes fits header in
    record {
      can = record {
        checks = header.checks;
        fits = IsImage-read bytes header slots.long;
        within = again.within;
        few = again.few;
      };
      long = slots.long;
      header = sym again.header;
      states = sym (states-image_of n seen (cells_in bytes) ∙ states-all_seen (states_in bytes) slots.states_hold);
      cells = ap (λ s. image_of n s (cells_in bytes)) (seen-image_of n seen (cells_in bytes));
    }

-- ---- what is in use breaks no rule, and says this

module _ (bytes : List ℕ) (c : Config) (image : List Contents) (extras : Extras)
    (h : IsInUse bytes c image extras) where
  reads : Reads bytes c extras
  reads =
      let parts : header_of c extras ++ drop 64 bytes ≡ bytes =
      ap (λ head. head ++ drop 64 bytes) (sym h.header) ∙ take-append-drop 64 bytes in
      subst (λ b. Reads b c extras) parts (header_reads c extras (drop 64 bytes) h.can.checks h.can.within h.can.few)

  pub config_said : config_in bytes ≡ c
  config_said = reads.config

  pub extras_said : extras_in bytes ≡ extras
  extras_said = reads.extras

  states_said : states_in bytes ≡ map (λ slot. state_byte (seen_of slot)) image
  states_said = ap (λ (x : Config). slice_range bytes 64 (64 + slots_of (shape_of x))) reads.config ∙ h.states

  seen_said : all_seen (states_in bytes) ≡ map seen_of image
  seen_said = ap all_seen states_said ∙ all_seen-states c.page_bytes image

  cells_said : cells_in bytes ≡ drop (64 + slots_of (shape_of c)) bytes
  cells_said = ap (λ (x : Config). drop (64 + slots_of (shape_of x)) bytes) reads.config

  page_said : number_at 12 bytes ≡ c.page_bytes
  page_said = ap (λ (x : Config). x.page_bytes) reads.config

  pub image_said : image_in bytes ≡ image
  image_said = rw (page_said, seen_said, cells_said) h.cells

  states_known : StatesHold bytes
  states_known = record {
    long = h.long ∙ ap (λ (x : Config). image_bytes (shape_of x)) (sym reads.config);
    states_hold = ap wrong_state states_said ∙ wrong_state-states c.page_bytes image;
  }

  pub in_use_unbroken : broken_in_use bytes ≡ None
  unfolding broken_in_use
  in_use_unbroken = rw (header_passes bytes reads.holds) (states_pass bytes states_known)

  pub in_use_read : reading_in_use bytes ≡ Ok (c, image, extras)
  in_use_read = rw (in_use_unbroken, config_said, image_said, extras_said) refl

-- nothing but want of memory refuses it
pub in_use_memory : (bytes : List ℕ) (e : ImageError) → IsRefusal (broken_in_use bytes) e →
    (c : Config) (image : List Contents) (extras : Extras) → IsInUse bytes c image extras → e ≡ error.Memory
in_use_memory bytes e refused c image extras h =
    only_memory (broken_in_use bytes) e refused (in_use_unbroken bytes c image extras h)

pub refused_header_in_use : (bytes : List ℕ) (e : ImageError) → broken_header bytes ≡ Some e →
    IsRefusal (broken_in_use bytes) e
unfolding broken_in_use
refused_header_in_use bytes e h = refusal-before (broken_header bytes) (broken_slots_in_use bytes) e
    (refusal-some (broken_header bytes) e h)

pub refused_slots_in_use : (bytes : List ℕ) (e : ImageError) → broken_header bytes ≡ None →
    IsRefusal (broken_slots_in_use bytes) e → IsRefusal (broken_in_use bytes) e
unfolding broken_in_use
refused_slots_in_use bytes e none h = refusal-behind (broken_header bytes) (broken_slots_in_use bytes) e none h

-- ---- both ways

pub in_use-iff : (bytes : List ℕ) (c : Config) (image : List Contents) (extras : Extras) → IsBytes bytes
    → (reading_in_use bytes ≡ Ok (c, image, extras)) ↔ IsInUse bytes c image extras
unfolding broken_in_use
in_use-iff bytes c image extras fits = (
  λ h.
      let read : Config × List Contents × Extras = (config_in bytes, image_in bytes, extras_in bytes) in
      let P : Option ImageError → Type 0 = λ broken.
      broken_in_use bytes ≡ broken → option_map_or Err broken (Ok read) ≡ Ok (c, image, extras) →
      IsInUse bytes c image extras in
      let cases : P (broken_in_use bytes) = elim (broken_in_use bytes) as P [
        | None ↦ λ none found.
            let same : read ≡ (c, image, extras) = cc in
            let parts = option_or_none (broken_header bytes) (broken_slots_in_use bytes) none in
            subst (λ (p : Config × List Contents × Extras). IsInUse bytes p.0 p.1 p.2) same
            (in_use bytes fits (header_holds bytes parts.0) (states_hold_of bytes parts.1))
        | Some e ↦ λ _ found. absurd cc
      ] in
      cases refl h,
  λ h. in_use_read bytes c image extras h,
)

-- an image file is in use, too
pub spelled_in_use : (bytes : List ℕ) (c : Config) (image : List Contents) (extras : Extras) →
    Spells bytes c image extras → IsInUse bytes c image extras
spelled_in_use bytes c image extras s =
    let can = s.can in
    let is = config_in-spelling c image extras can in
    subst (λ b. IsInUse b c image extras) (sym s.same) (record {
      can = can;
      long = length-spelling c image extras can;
      header = ap (take 64) (in_parts c image extras can)
          ∙ take_at (header_of c extras) _ 64 (length-header c image extras can);
      states = ap (λ (x : Config). slice_range (spelling c image extras) 64 (64 + slots_of (shape_of x))) (sym is)
          ∙ states_in-spelling c image extras can;
      cells = ap (λ s. image_of c.page_bytes s (drop (64 + slots_of (shape_of c)) (spelling c image extras)))
          (sym (seen_are c image extras can))
          ∙ ap (λ (x : Config). image_of x.page_bytes (all_seen (states_in (spelling c image extras)))
          (drop (64 + slots_of (shape_of x)) (spelling c image extras))) (sym is)
          ∙ image_in-spelling c image extras can;
    })

-- ---- slots that are filled

filled_fits : (n : ℕ) (how : Seen) (cell : List ℕ) → IsFilled n how (filled_as (cell_bytes n) how cell)
filled_fits n Blank cell = refl
filled_fits n Damaged cell = refl
filled_fits n Complete cell = tt

-- own bytes count where the slot is complete
filled_holds : (n : ℕ) (how : Seen) (cell : List ℕ) →
    contents_of n how (filled_as (cell_bytes n) how cell) ≡ contents_of n how cell
filled_holds n Blank cell = refl
filled_holds n Damaged cell = refl
filled_holds n Complete cell = refl

abbrev pub AreFilledAs : ℕ → List Seen → List ℕ → List ℕ → Type 0
AreFilledAs size seen old new =
    (k : ℕ) → k < length seen → slice_chunk new size k
    ≡ filled_as size (get_or seen k Blank) (slice_chunk old size k)

pub filled_fit : (n : ℕ) (seen : List Seen) (old new : List ℕ) → AreFilledAs (cell_bytes n) seen old new →
    AreFilled n seen new
filled_fit n seen old new filled k inside =
    subst (IsFilled n (get_or seen k Blank)) (sym (filled k inside))
    (filled_fits n (get_or seen k Blank) (slice_chunk old (cell_bytes n) k))

pub filled_hold : (n : ℕ) (seen : List Seen) (old new : List ℕ) → AreFilledAs (cell_bytes n) seen old new →
    image_of n seen new ≡ image_of n seen old
filled_hold n [] old new filled = refl
filled_hold n (how ∷ seen) old new filled =
    let size = cell_bytes n in
    let start : 0 * size ≡ 0 = omega arith in
    let its : take size new ≡ filled_as size how (take size old) = rw start at (filled 0 (omega arith)) in
    let first : contents_of n how (take size new) ≡ contents_of n how (take size old) =
    ap (contents_of n how) its ∙ filled_holds n how (take size old) in
    let others : image_of n seen (drop size new) ≡ image_of n seen (drop size old) =
    filled_hold n seen (drop size old) (drop size new) (λ k inside.
    sym (slice_chunk-suc new size k) ∙ filled (suc k) (omega arith)
    ∙ ap (filled_as size (get_or seen k Blank)) (slice_chunk-suc old size k)) in
    cc
