-- The parts of the image file of a device whose slots are all blank.
use Rattle.image_file.proofs.Common.{◌≡◌, ℕ, zero, suc, ◌+◌, ◌-◌, ◌*◌, List, ◌∷◌, ◌++◌, map, length, take, replicate, refl, sym, ap, subst, ◌∙◌, arith, Ok, flat_map, length-append, take_all, checked, slots_of, image_bytes, Config, Shape, checked_config, seen_of, cell_bytes, cell_of, state_byte}
use Rattle.std.proofs.lemmas.List.{replicate-append-replicate, length-replicate, get_or-replicate}
use Rattle.tx_types.specs.Config.{IsShape}
use Rattle.flash_model.specs.Flash.{blank, IsImage}

pub states-blank : (count : ℕ) → map (λ slot. state_byte (seen_of slot)) (replicate count blank) ≡ replicate count 0
states-blank zero = refl
states-blank (suc count) = ap (λ (rest : List ℕ). 0 ∷ rest) (states-blank count)

pub cells-blank : (n count : ℕ) → flat_map (cell_of n) (replicate count blank) ≡ replicate (count * cell_bytes n) 255
cells-blank n zero = let none : 0 * cell_bytes n ≡ 0 = omega arith in rw none refl
cells-blank n (suc count) =
    let more : cell_bytes n + count * cell_bytes n ≡ suc count * cell_bytes n = omega arith in
    let size = n + 64 in
    let one : replicate n 255 ++ replicate 64 255 ≡ replicate size 255 = replicate-append-replicate n 64 255 in
    let both : replicate size 255 ++ replicate (count * size) 255 ≡ replicate (size + count * size) 255 =
    replicate-append-replicate size (count * size) 255 in
    ap (λ bytes. bytes ++ flat_map (cell_of n) (replicate count blank)) one
    ∙ ap (λ bytes. replicate size 255 ++ bytes) (cells-blank n count)
    ∙ both ∙ ap (λ k. replicate k 255) more

-- a configuration that passes its check has a shape in bounds
pub checked_shape : (config : Config) (shape : Shape) → checked config ≡ Ok shape → IsShape shape
checked_shape config shape check =
    let checks = checked_config config shape check in
    subst IsShape (sym checks.1) checks.0.shape

pub IsImage-blank : (shape : Shape) → IsShape shape → IsImage shape (replicate (slots_of shape) blank)
IsImage-blank shape bounds = record {
  bounds = bounds;
  slots = length-replicate (slots_of shape) blank;
  whole = λ k d inside. rw (get_or-replicate (slots_of shape) k blank d
      (omega (arith, length-replicate (slots_of shape) blank))) tt;
}

-- a list that is filled up to a length
filled_up : (front : List ℕ) (size len count x : ℕ) → len ≡ length front → size ≡ length front + count
    → take size front ++ replicate (size - len) x ≡ front ++ replicate count x
filled_up front size len count x long whole =
    let many : size - len ≡ count = omega arith in
    rw (take_all size front (omega arith), many) refl

-- the header is filled up with states, and these with cells
pub blank_parts : (header states all : List ℕ) (head size header_len states_len : ℕ) (shape : Shape) →
    length header ≡ 64
    → head ≡ 64 + slots_of shape → size ≡ image_bytes shape → header_len ≡ length header → states_len ≡ length states
    → states ≡ take head header ++ replicate (head - header_len) 0 →
    all ≡ take size states ++ replicate (size - states_len) 255
    → all ≡ header ++ map (λ slot. state_byte (seen_of slot)) (replicate (slots_of shape) blank)
    ++ flat_map (cell_of shape.page_bytes)
    (replicate (slots_of shape) blank)
blank_parts header states all head size header_len states_len shape long head_is size_is header_long states_long
    states_are all_are =
    let count = slots_of shape in
    let n = shape.page_bytes in
    let front = states_are ∙ filled_up header head header_len count 0 header_long (omega arith) in
    let front_long : length states ≡ 64 + count = rw front (simp (length-append, length-replicate) (omega arith)) in
    let whole : size ≡ length states + count * cell_bytes n = omega arith in
    rw (states-blank count, cells-blank n count)
    (all_are ∙ filled_up states size states_len (count * cell_bytes n) 255 states_long whole ∙
    ap (λ bytes. bytes ++ replicate (count * cell_bytes n) 255) front)
