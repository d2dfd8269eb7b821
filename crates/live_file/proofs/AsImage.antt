-- A live file and the image file in use that has the same slots.
use Rattle.std.proofs.Common.{◌≡◌, ◌⊎◌, ℕ, zero, suc, ◌+◌, ◌-◌, ◌*◌, ◌<◌, ◌≤◌, ◌/◌, Bool, true, false, eqb, List, [], ◌∷◌, ◌++◌, length, get_or, take, drop, map, slice_range, replicate, Option, Some, None, Ok, refl, sym, ap, subst, ◌∙◌, inl, inr, arith}
use Rattle.std.specs.Prelude.{if◌then◌else◌, nat_eq, nat_le}
use Rattle.std.specs.List.{flat_map, range_with_len, starts_with}
use Rattle.std.specs.Fork.{slice_chunk}
use Rattle.std.specs.Int.{w32, to_le_bytes, from_le_bytes}
use Rattle.std.proofs.Math.Seq.{take-add, take-append_seam, drop-append_seam}
use Rattle.std.proofs.Math.Nat.{mul-le-mul_right, div-eq_of_eq-mul_left}
use Rattle.std.proofs.lemmas.Bool.{cases_lt, le-leb, leb-true}
use Rattle.std.proofs.lemmas.List.{append_assoc, length-append, length-take, length-drop, length-map, take-append-drop, take_all}
use Rattle.std.proofs.lemmas.List.FromFn.{length-map-range_with_len, map-range_with_len_more}
use Rattle.std.proofs.lemmas.Nat.{from_le_bytes-to_le_bytes_4}
use Rattle.std.proofs.lemmas.Slice.Eq.{bytes_eq-Decides}
use Rattle.list_lemmas.proofs.Chunks.{chunk_end, length-slice_chunk, take_front, drop_front}
use Rattle.list_lemmas.proofs.Ranges.{flat_more}
use Rattle.tx_types.specs.Config.{checked, shape_of, slots_of, image_bytes, IsConfig, IsShape}
use Rattle.tx_types.specs.declared.config.Shape.{Shape}
use Rattle.tx_types.specs.declared.config.Config.{Config}
use Rattle.tx_types.proofs.ConfigLemmas.{checked_config}
use Rattle.flash_model.specs.declared.flash.Seen.{Seen}
use Rattle.flash_model.specs.declared.flash.Seen.TheVariants.{Blank, Complete, Damaged}
use Rattle.flash_model.specs.Flash.{Contents, Extras, no_extras}
use Rattle.flash_model.specs.Calls.{seen_of}
use Rattle.mem_flash.specs.Slots.{cell_bytes, contents_of, image_of}
use Rattle.mem_flash.proofs.Images.{seen_of-contents_of}
use Rattle.image_file.specs.Spelling.{state_byte, numbers_of, CanBeSpelled, first_magic, second_magic}
unfoldable use Rattle.image_file.specs.Spelling.{header_of}
unfoldable use Rattle.image_file.specs.Rules.{number_at}
use Rattle.image_file.specs.Rules.{unless}
use Rattle.image_file.specs.InUse.{IsInUse}
use Rattle.image_file.specs.declared.error.ImageError.TheVariants as image_error
use Rattle.image_file.proofs.HeaderLemmas.{none_or_some, passed, passes}
use Rattle.zero_count.specs.Zeros.{own_of}
use Rattle.live_image.specs.Slots.{slot_bytes, live_seen, live_contents, IsCounted}
use Rattle.live_image.specs.Layout.{live_bytes, slot_in, live_image}
use Rattle.live_file.specs.Spelling.{third_magic, live_spelling, IsLive}
unfoldable use Rattle.live_file.specs.Spelling.{live_header}
use Rattle.live_file.specs.Reading.{size_in, slot_read, HasSlots, CountsSlots, image_header, states_read, cells_read, as_image, broken_magic}

-- ---- counts

-- as many pieces of one length
same_count : (size a b : ℕ) → 1 ≤ size → a * size ≡ b * size → a ≡ b
same_count size a b some same =
    elim (cases_lt a b) [
      | inl less ↦
          let more : (a + 1) * size ≤ b * size = mul-le-mul_right size (omega arith) in
          absurd (omega (arith, more, same))
      | inr from ↦ elim (cases_lt b a) [
        | inl less ↦
            let more : (b + 1) * size ≤ a * size = mul-le-mul_right size (omega arith) in
            absurd (omega (arith, more, same))
        | inr other ↦ omega arith
      ]
    ]

-- a flash has a slot
slots_some : (s : Shape) → IsShape s → 1 ≤ slots_of s
slots_some s is =
    let blocks : 1 * s.dies ≤ s.blocks_per_die * s.dies = mul-le-mul_right s.dies is.blocks_least in
    let slots : 1 * (s.blocks_per_die * s.dies) ≤ s.pages_per_block * (s.blocks_per_die * s.dies) =
    mul-le-mul_right (s.blocks_per_die * s.dies) (omega (arith, is.pages_least)) in
    omega (arith, blocks, slots, is.dies_least)

-- how many whole pieces there are
pub whole_pieces : (size n all : ℕ) → 1 ≤ size → all ≡ n * size → all / size ≡ n
whole_pieces size n all some is = div-eq_of_eq-mul_left (omega arith) is

-- a slot among those behind the header
pub chunk_is : (bytes : List ℕ) (size k : ℕ) → size ≡ size_in bytes →
    slice_chunk (take (length bytes - 64) (drop 64 bytes)) size k ≡ slot_read bytes k
chunk_is bytes size k same =
    let all : take (length bytes - 64) (drop 64 bytes) ≡ drop 64 bytes =
    take_all (length bytes - 64) (drop 64 bytes) (omega (arith, length-drop 64 bytes)) in
    ap (λ slots. slice_chunk slots size k) all ∙ ap (λ s. slice_chunk (drop 64 bytes) s k) same

-- ---- what is added, slot by slot

pub states_more : (slots : List ℕ) (size at : ℕ) (initial old new slot : List ℕ) (how : Seen) (state : ℕ) →
    old ≡ initial ++ map (λ k. state_byte (live_seen (slice_chunk slots size k))) (range_with_len 0 at) →
    new ≡ old ++ state ∷ [] → state ≡ state_byte how → how ≡ live_seen slot → slot ≡ slice_chunk slots size at →
    new ≡ initial ++ map (λ k. state_byte (live_seen (slice_chunk slots size k))) (range_with_len 0 (at + 1))
states_more slots size at initial old new slot how state was more is seen its =
    let here : state ≡ state_byte (live_seen (slice_chunk slots size at)) =
    is ∙ ap state_byte (seen ∙ ap live_seen its) in
    let f : ℕ → ℕ = λ k. state_byte (live_seen (slice_chunk slots size k)) in
    more ∙ ap (λ xs. xs ++ state ∷ []) was
    ∙ append_assoc initial (map f (range_with_len 0 at)) (state ∷ [])
    ∙ ap (λ x. initial ++ (map f (range_with_len 0 at) ++ x ∷ [])) here
    ∙ ap (λ xs. initial ++ xs) (sym (map-range_with_len_more f 0 at at (omega arith)))

pub cells_more : (slots : List ℕ) (size at : ℕ) (initial old new slot : List ℕ) →
    old ≡ initial ++ flat_map (λ k. own_of (slice_chunk slots size k)) (range_with_len 0 at) →
    new ≡ old ++ take (size - 4) slot → slot ≡ slice_chunk slots size at → length slot ≡ size →
    new ≡ initial ++ flat_map (λ k. own_of (slice_chunk slots size k)) (range_with_len 0 (at + 1))
cells_more slots size at initial old new slot was more its long =
    let f : ℕ → List ℕ = λ k. own_of (slice_chunk slots size k) in
    let own : take (size - 4) slot ≡ f at = ap (λ n. take (n - 4) slot) (sym long) ∙ ap own_of its in
    more ∙ ap (λ xs. xs ++ take (size - 4) slot) was
    ∙ append_assoc initial (flat_map f (range_with_len 0 at)) (take (size - 4) slot)
    ∙ ap (λ x. initial ++ (flat_map f (range_with_len 0 at) ++ x)) own
    ∙ ap (λ xs. initial ++ xs) (sym (flat_more f at))

pub image_made : (bytes : List ℕ) (size count : ℕ) (none header states cells : List ℕ) → size ≡ size_in bytes →
    none ≡ [] → header ≡ none ++ image_header bytes →
    states ≡ header ++ map (λ k. state_byte (live_seen
    (slice_chunk (take (length bytes - 64) (drop 64 bytes)) size k))) (range_with_len 0 count) →
    cells ≡ states ++ flat_map (λ k. own_of
    (slice_chunk (take (length bytes - 64) (drop 64 bytes)) size k)) (range_with_len 0 count) →
    cells ≡ as_image bytes count
image_made bytes size count none header states cells same empty head more last =
    let slots = take (length bytes - 64) (drop 64 bytes) in
    let all : take (length bytes - 64) (drop 64 bytes) ≡ drop 64 bytes =
    take_all (length bytes - 64) (drop 64 bytes) (omega (arith, length-drop 64 bytes)) in
    let front : header ≡ image_header bytes = head ∙ ap (λ xs. xs ++ image_header bytes) empty in
    last ∙ ap (λ xs. xs ++ flat_map (λ k. own_of (slice_chunk slots size k)) (range_with_len 0 count)) more
    ∙ ap (λ h. h ++ map (λ k. state_byte (live_seen (slice_chunk slots size k))) (range_with_len 0 count)
    ++ flat_map (λ k. own_of (slice_chunk slots size k)) (range_with_len 0 count)) front
    ∙ ap (λ (xs : List ℕ). image_header bytes
    ++ map (λ k. state_byte (live_seen (slice_chunk xs size k))) (range_with_len 0 count)
    ++ flat_map (λ k. own_of (slice_chunk xs size k)) (range_with_len 0 count)) all
    ∙ ap (λ (s : ℕ). image_header bytes
    ++ map (λ k. state_byte (live_seen (slice_chunk (drop 64 bytes) s k))) (range_with_len 0 count)
    ++ flat_map (λ k. own_of (slice_chunk (drop 64 bytes) s k)) (range_with_len 0 count)) same

-- ---- the numbers of a header

module _ (c : Config) (extras : Extras) (rest : List ℕ) (checks : checked c ≡ Ok (shape_of c)) where
  config : IsConfig c
  config = (checked_config c (shape_of c) checks).0

  pub page_number : number_at 12 (live_header c extras ++ rest) ≡ c.page_bytes
  unfolding number_at live_header
  page_number = from_le_bytes-to_le_bytes_4 c.page_bytes (omega (arith, config.shape.page_most))

  module _ (within : extras.retired ≤ extras.allowance) (few : extras.allowance ≤ 1024) where
    allowance_number : number_at 36 (live_header c extras ++ rest) ≡ extras.allowance
    unfolding number_at live_header
    allowance_number = from_le_bytes-to_le_bytes_4 extras.allowance (omega arith)

-- ---- the two headers

numbers_first : (c : Config) (rest : List ℕ) →
    first_magic ++ slice_range (live_header c no_extras ++ rest) 8 64 ≡ header_of c no_extras
unfolding header_of live_header
numbers_first c rest = refl

numbers_second : (c : Config) (extras : Extras) (rest : List ℕ) → eqb extras.allowance 0 ≡ false →
    second_magic ++ slice_range (live_header c extras ++ rest) 8 64 ≡ header_of c extras
unfolding header_of live_header
numbers_second c extras rest some = rw some refl

pub header_turned : (c : Config) (extras : Extras) (rest : List ℕ) → checked c ≡ Ok (shape_of c) →
    extras.retired ≤ extras.allowance → extras.allowance ≤ 1024 →
    image_header (live_header c extras ++ rest) ≡ header_of c extras
header_turned c extras rest checks within few =
    let number = allowance_number c extras rest checks within few in
    elim (none_or_some extras within) [
      | inl none ↦
          ap (λ n. (if eqb n 0 then first_magic else second_magic)
          ++ slice_range (live_header c extras ++ rest) 8 64) (number ∙ ap (λ (e : Extras). e.allowance) none)
          ∙ subst (λ (e : Extras). first_magic ++ slice_range (live_header c e ++ rest) 8 64 ≡ header_of c e)
          (sym none) (numbers_first c rest)
      | inr some ↦
          ap (λ n. (if eqb n 0 then first_magic else second_magic)
          ++ slice_range (live_header c extras ++ rest) 8 64) number
          ∙ ap (λ b. (if b then first_magic else second_magic)
          ++ slice_range (live_header c extras ++ rest) 8 64) some
          ∙ numbers_second c extras rest some
    ]

-- a header with the third magic in place of its own
behind_first : (c : Config) → third_magic ++ drop 8 (header_of c no_extras) ≡ live_header c no_extras
unfolding header_of live_header
behind_first c = refl

behind_second : (c : Config) (extras : Extras) → eqb extras.allowance 0 ≡ false →
    third_magic ++ drop 8 (header_of c extras) ≡ live_header c extras
unfolding header_of live_header
behind_second c extras some = rw some refl

behind_magic : (c : Config) (extras : Extras) → extras.retired ≤ extras.allowance →
    third_magic ++ drop 8 (header_of c extras) ≡ live_header c extras
behind_magic c extras within =
    elim (none_or_some extras within) [
      | inl none ↦ subst (λ (e : Extras). third_magic ++ drop 8 (header_of c e) ≡ live_header c e) (sym none)
          (behind_first c)
      | inr some ↦ behind_second c extras some
    ]

eight : (b : Bool) → length (if b then first_magic else second_magic) ≡ 8
eight true = refl
eight false = refl

magic_of_8 : (n : ℕ) → length (if eqb n 0 then first_magic else second_magic) ≡ 8
magic_of_8 n = eight (eqb n 0)

-- what is behind the magic stays
numbers_stay : (bytes : List ℕ) → drop 8 (image_header bytes) ≡ slice_range bytes 8 64
numbers_stay bytes = drop_front (if eqb (number_at 36 bytes) 0 then first_magic else second_magic)
    (slice_range bytes 8 64) 8 (sym (magic_of_8 (number_at 36 bytes)))

pub header_back : (bytes : List ℕ) (c : Config) (extras : Extras) → broken_magic bytes ≡ None →
    extras.retired ≤ extras.allowance → image_header bytes ≡ header_of c extras → take 64 bytes ≡ live_header c extras
header_back bytes c extras begins within same =
    let a = passed (nat_le 64 (length bytes)) image_error.Short _ begins in
    let b = passed (starts_with nat_eq bytes third_magic) image_error.Magic None a.1 in
    let magic : third_magic ≡ take 8 bytes = (bytes_eq-Decides third_magic (take 8 bytes)).0 b.0 in
    let numbers : take 56 (drop 8 bytes) ≡ drop 8 (header_of c extras) = sym (numbers_stay bytes) ∙ ap (drop 8) same in
    take-add 8 56 bytes ∙ ap (λ m. m ++ take 56 (drop 8 bytes)) (sym magic)
    ∙ ap (λ m. third_magic ++ m) numbers ∙ behind_magic c extras within

pub length_header : (bytes : List ℕ) → 64 ≤ length bytes → length (image_header bytes) ≡ 64
length_header bytes long =
    let magic = magic_of_8 (number_at 36 bytes) in
    omega (
      arith,
      magic,
      length-append (if eqb (number_at 36 bytes) 0 then first_magic else second_magic) (slice_range bytes 8 64),
      length-take 56 (drop 8 bytes),
      length-drop 8 bytes,
      long,
    )

-- ---- the slots

module _ (p : ℕ) (slot : ℕ → List ℕ) where
  -- what the image file says of slots of one length is what these read as
  images_same : (a n : ℕ) → ((k : ℕ) → a ≤ k → k < a + n → length (slot k) ≡ slot_bytes p) →
      image_of p (map (λ k. live_seen (slot k)) (range_with_len a n))
      (flat_map (λ k. own_of (slot k)) (range_with_len a n))
      ≡ map (λ k. live_contents p (slot k)) (range_with_len a n)
  images_same a zero long = refl
  images_same a (suc n) long =
      let own : length (own_of (slot a)) ≡ cell_bytes p =
      omega (arith, length-take (length (slot a) - 4) (slot a), long a (omega arith) (omega arith)) in
      let rest = flat_map (λ k. own_of (slot k)) (range_with_len (a + 1) n) in
      let first : contents_of p (live_seen (slot a)) (take (cell_bytes p) (own_of (slot a) ++ rest))
      ≡ live_contents p (slot a) =
      ap (contents_of p (live_seen (slot a))) (take_front (own_of (slot a)) rest (cell_bytes p) (sym own)) in
      let others : image_of p (map (λ k. live_seen (slot k)) (range_with_len (a + 1) n))
      (drop (cell_bytes p) (own_of (slot a) ++ rest)) ≡ map (λ k. live_contents p (slot k)) (range_with_len (a + 1) n) =
      ap (image_of p (map (λ k. live_seen (slot k)) (range_with_len (a + 1) n)))
      (drop_front (own_of (slot a)) rest (cell_bytes p) (sym own))
      ∙ images_same (a + 1) n (λ k low high. long k (omega arith) (omega arith)) in
      ap (λ c. c ∷ image_of p (map (λ k. live_seen (slot k)) (range_with_len (a + 1) n))
      (drop (cell_bytes p) (own_of (slot a) ++ rest))) first
      ∙ ap (λ cs. live_contents p (slot a) ∷ cs) others

  seen_same : (a n : ℕ) → map seen_of (map (λ k. live_contents p (slot k)) (range_with_len a n))
      ≡ map (λ k. live_seen (slot k)) (range_with_len a n)
  seen_same a zero = refl
  seen_same a (suc n) =
      ap (λ s. s ∷ map seen_of (map (λ k. live_contents p (slot k)) (range_with_len (a + 1) n)))
      (seen_of-contents_of p (live_seen (slot a)) (own_of (slot a)))
      ∙ ap (λ ss. live_seen (slot a) ∷ ss) (seen_same (a + 1) n)

  own_long : (a n : ℕ) → ((k : ℕ) → a ≤ k → k < a + n → length (slot k) ≡ slot_bytes p) →
      length (flat_map (λ k. own_of (slot k)) (range_with_len a n)) ≡ n * cell_bytes p
  own_long a zero long = omega arith
  own_long a (suc n) long =
      let own : length (own_of (slot a)) ≡ cell_bytes p =
      omega (arith, length-take (length (slot a) - 4) (slot a), long a (omega arith) (omega arith)) in
      let rest = own_long (a + 1) n (λ k low high. long k (omega arith) (omega arith)) in
      omega (
        arith,
        own,
        rest,
        length-append (own_of (slot a)) (flat_map (λ k. own_of (slot k)) (range_with_len (a + 1) n)),
      )

states_map : (p : ℕ) (slot : ℕ → List ℕ) (a n : ℕ) → map (λ k. state_byte (live_seen (slot k))) (range_with_len a n)
    ≡ map (λ c. state_byte (seen_of c)) (map (λ k. live_contents p (slot k)) (range_with_len a n))
states_map p slot a zero = refl
states_map p slot a (suc n) =
    ap (λ s. state_byte s ∷ map (λ k. state_byte (live_seen (slot k))) (range_with_len (a + 1) n))
    (sym (seen_of-contents_of p (live_seen (slot a)) (own_of (slot a))))
    ∙ ap (λ ss. state_byte (seen_of (live_contents p (slot a))) ∷ ss) (states_map p slot (a + 1) n)

-- a state is that of one way to read
state_once : (a b : Seen) → state_byte a ≡ state_byte b → a ≡ b
state_once Blank Blank e = refl
state_once Blank Complete e = absurd (omega (arith, e))
state_once Blank Damaged e = absurd (omega (arith, e))
state_once Complete Blank e = absurd (omega (arith, e))
state_once Complete Complete e = refl
state_once Complete Damaged e = absurd (omega (arith, e))
state_once Damaged Blank e = absurd (omega (arith, e))
state_once Damaged Complete e = absurd (omega (arith, e))
state_once Damaged Damaged e = refl

seen_once : (xs ys : List Contents) → map (λ c. state_byte (seen_of c)) xs ≡ map (λ c. state_byte (seen_of c)) ys →
    map seen_of xs ≡ map seen_of ys
seen_once [] [] e = refl
seen_once [] (y ∷ ys) e = absurd (cc)
seen_once (x ∷ xs) [] e = absurd (cc)
seen_once (x ∷ xs) (y ∷ ys) e =
    let first : state_byte (seen_of x) ≡ state_byte (seen_of y) = cc in
    let rest : map (λ c. state_byte (seen_of c)) xs ≡ map (λ c. state_byte (seen_of c)) ys = cc in
    ap (λ s. s ∷ map seen_of xs) (state_once (seen_of x) (seen_of y) first)
    ∙ ap (λ ss. seen_of y ∷ ss) (seen_once xs ys rest)

-- ---- the file

-- each slot that is there is whole
slots_long : (bytes : List ℕ) (count k : ℕ) → length bytes ≡ 64 + count * size_in bytes → k < count →
    length (slot_read bytes k) ≡ size_in bytes
slots_long bytes count k whole inside =
    let ends = chunk_end (size_in bytes) k count inside in
    length-slice_chunk (drop 64 bytes) (size_in bytes) k (omega (arith, ends, whole, length-drop 64 bytes))

module _ (bytes : List ℕ) (count : ℕ) (whole : length bytes ≡ 64 + count * size_in bytes) where
  n : ℕ
  n = number_at 12 bytes

  here : (k : ℕ) → 0 ≤ k → k < 0 + count → length (slot_read bytes k) ≡ slot_bytes (number_at 12 bytes)
  here k low high = slots_long bytes count k whole (omega arith)

  head_long : length (image_header bytes) ≡ 64
  head_long = length_header bytes (omega (arith, whole))

  states_long : length (states_read bytes count) ≡ count
  states_long = length-map-range_with_len (λ k. state_byte (live_seen (slot_read bytes k))) 0 count

  cells_long : length (cells_read bytes count) ≡ count * cell_bytes (number_at 12 bytes)
  cells_long = own_long (number_at 12 bytes) (slot_read bytes) 0 count here

  -- the parts of the image file
  parts : as_image bytes count ≡ image_header bytes ++ (states_read bytes count ++ cells_read bytes count)
  parts = append_assoc (image_header bytes) (states_read bytes count) (cells_read bytes count)

  pub head_part : take 64 (as_image bytes count) ≡ image_header bytes
  head_part = ap (take 64) parts
      ∙ take_front (image_header bytes) (states_read bytes count ++ cells_read bytes count) 64 (sym head_long)

  behind_head : drop 64 (as_image bytes count) ≡ states_read bytes count ++ cells_read bytes count
  behind_head = ap (drop 64) parts
      ∙ drop_front (image_header bytes) (states_read bytes count ++ cells_read bytes count) 64 (sym head_long)

  pub states_part : slice_range (as_image bytes count) 64 (64 + count) ≡ states_read bytes count
  states_part =
      let many : 64 + count - 64 ≡ count = omega arith in
      ap (λ m. take m (drop 64 (as_image bytes count))) many ∙ ap (take count) behind_head
      ∙ take_front (states_read bytes count) (cells_read bytes count) count (sym states_long)

  pub cells_part : drop (64 + count) (as_image bytes count) ≡ cells_read bytes count
  cells_part =
      let front : 64 + count ≡ length (image_header bytes ++ states_read bytes count) =
      omega (arith, head_long, states_long, length-append (image_header bytes) (states_read bytes count)) in
      drop_front (image_header bytes ++ states_read bytes count) (cells_read bytes count) (64 + count) front

  pub image_long : length (as_image bytes count) ≡ 64 + count * (65 + number_at 12 bytes)
  image_long = omega (
    arith,
    head_long,
    states_long,
    cells_long,
    length-append (image_header bytes) (states_read bytes count),
    length-append (image_header bytes ++ states_read bytes count) (cells_read bytes count),
  )

  pub image_said : image_of (number_at 12 bytes) (map (λ k. live_seen (slot_read bytes k)) (range_with_len 0 count))
      (cells_read bytes count) ≡ map (λ k. live_contents (number_at 12 bytes) (slot_read bytes k)) (range_with_len 0 count)
  image_said = images_same (number_at 12 bytes) (slot_read bytes) 0 count here

-- no slots that count
none_long : (bytes : List ℕ) → 64 ≤ length bytes → length (as_image bytes 0) ≡ 64
none_long bytes long = omega (
  arith,
  length_header bytes long,
  length-append (image_header bytes) [],
  length-append (image_header bytes ++ []) [],
)

-- ---- a live file is the image file in use of its slots

module _ (bytes : List ℕ) (c : Config) (image : List Contents) (extras : Extras) (h : IsLive bytes c image extras) where
  whole_bytes : live_header c extras ++ drop 64 bytes ≡ bytes
  whole_bytes = ap (λ head. head ++ drop 64 bytes) (sym h.header) ∙ take-append-drop 64 bytes

  its_page : number_at 12 bytes ≡ c.page_bytes
  its_page = subst (λ b. number_at 12 b ≡ c.page_bytes) whole_bytes (page_number c extras (drop 64 bytes) h.can.checks)

  its_header : image_header bytes ≡ header_of c extras
  its_header = subst (λ b. image_header b ≡ header_of c extras) whole_bytes
      (header_turned c extras (drop 64 bytes) h.can.checks h.can.within h.can.few)

  pub its_slots : HasSlots bytes (slots_of (shape_of c))
  its_slots = record {
    page = omega (arith, its_page, h.can.fits.bounds.page_most);
    few = h.can.fits.bounds.slots_most;
    whole = h.long ∙ ap (λ p. 64 + slots_of (shape_of c) * slot_bytes p) (sym its_page);
  }

  pub its_count : (count : ℕ) → CountsSlots bytes count → count ≡ slots_of (shape_of c)
  its_count count counts =
      elim counts [
        | inl has ↦
            let both : count * size_in bytes ≡ slots_of (shape_of c) * size_in bytes =
            omega (arith, has.whole, its_slots.whole) in
            same_count (size_in bytes) count (slots_of (shape_of c)) (omega arith) both
        | inr none ↦ absurd (none.1 (slots_of (shape_of c)) its_slots)
      ]

  slots_say : map (λ k. live_contents (number_at 12 bytes) (slot_read bytes k)) (range_with_len 0 (slots_of (shape_of c)))
      ≡ image
  slots_say =
      ap (λ p. map (λ k. live_contents p (slice_chunk (drop 64 bytes) (slot_bytes p) k))
      (range_with_len 0 (slots_of (shape_of c)))) its_page
      ∙ h.slots

  -- it begins as one
  magic_is : (rest : List ℕ) → starts_with nat_eq (live_header c extras ++ rest) third_magic ≡ true
  unfolding live_header
  magic_is rest = refl

  pub lives_begin : broken_magic bytes ≡ None
  lives_begin =
      passes (nat_le 64 (length bytes)) image_error.Short _
      (le-leb 64 (length bytes) (omega (arith, its_slots.whole)))
      ∙ passes (starts_with nat_eq bytes third_magic) image_error.Magic None
      (subst (λ b. starts_with nat_eq b third_magic ≡ true) whole_bytes (magic_is (drop 64 bytes)))

  pub lives_counted : (count : ℕ) → CountsSlots bytes count → (k : ℕ) → k < count → IsCounted (slot_read bytes k)
  lives_counted count counts k inside =
      subst (λ q. IsCounted (slice_chunk (drop 64 bytes) (slot_bytes q) k)) (sym its_page)
      (h.counts k (omega (arith, inside, its_count count counts)))

  pub lives_in_use : IsInUse (as_image bytes (slots_of (shape_of c))) c image extras
  lives_in_use =
      let count = slots_of (shape_of c) in
      let p = number_at 12 bytes in
      let seen : map seen_of image ≡ map (λ k. live_seen (slot_read bytes k)) (range_with_len 0 count) =
      ap (map seen_of) (sym slots_say) ∙ seen_same p (slot_read bytes) 0 count in
      record {
        can = h.can;
        long = image_long bytes count its_slots.whole
            ∙ ap (λ q. 64 + slots_of (shape_of c) * (65 + q)) its_page;
        header = head_part bytes count its_slots.whole ∙ its_header;
        states = states_part bytes count its_slots.whole ∙ states_map p (slot_read bytes) 0 count
            ∙ ap (map (λ slot. state_byte (seen_of slot))) slots_say;
        cells =
            ap (image_of c.page_bytes (map seen_of image)) (cells_part bytes count its_slots.whole)
            ∙ ap (λ s. image_of c.page_bytes s (cells_read bytes count)) seen
            ∙ ap (λ q. image_of q (map (λ k. live_seen (slot_read bytes k)) (range_with_len 0 count))
            (cells_read bytes count)) (sym its_page)
            ∙ image_said bytes count its_slots.whole ∙ slots_say;
      }

-- whatever count of slots was found
pub lives_as : (bytes : List ℕ) (count : ℕ) (c : Config) (image : List Contents) (extras : Extras) →
    CountsSlots bytes count → IsLive bytes c image extras → IsInUse (as_image bytes count) c image extras
lives_as bytes count c image extras counts h =
    subst (λ n. IsInUse (as_image bytes n) c image extras) (sym (its_count bytes c image extras h count counts))
    (lives_in_use bytes c image extras h)

-- ---- and back

module _ (bytes : List ℕ) (count : ℕ) (c : Config) (image : List Contents) (extras : Extras)
    (begins : broken_magic bytes ≡ None) (counts : CountsSlots bytes count)
    (said : IsInUse (as_image bytes count) c image extras) where
  begins_long : 64 ≤ length bytes
  begins_long =
      let a = passed (nat_le 64 (length bytes)) image_error.Short _ begins in
      leb-true 64 (length bytes) a.0

  some_slots : 1 ≤ slots_of (shape_of c)
  some_slots = slots_some (shape_of c) said.can.fits.bounds

  -- slots are there
  pub has_slots : HasSlots bytes count
  has_slots =
      elim counts [
        | inl has ↦ has
        | inr none ↦
            let long : length (as_image bytes 0) ≡ image_bytes (shape_of c) =
            subst (λ n. length (as_image bytes n) ≡ image_bytes (shape_of c)) none.0 said.long in
            let more : 1 * (65 + c.page_bytes) ≤ slots_of (shape_of c) * (65 + c.page_bytes) =
            mul-le-mul_right (65 + c.page_bytes) some_slots in
            absurd (omega (arith, long, none_long bytes begins_long, more))
      ]

  back_header : take 64 bytes ≡ live_header c extras
  back_header = header_back bytes c extras begins said.can.within
      (sym (head_part bytes count has_slots.whole) ∙ said.header)

  back_page : number_at 12 bytes ≡ c.page_bytes
  back_page =
      let again : live_header c extras ++ drop 64 bytes ≡ bytes =
      ap (λ head. head ++ drop 64 bytes) (sym back_header) ∙ take-append-drop 64 bytes in
      subst (λ b. number_at 12 b ≡ c.page_bytes) again (page_number c extras (drop 64 bytes) said.can.checks)

  pub back_count : count ≡ slots_of (shape_of c)
  back_count =
      let long : 64 + count * (65 + number_at 12 bytes) ≡ 64 + slots_of (shape_of c) * (65 + c.page_bytes) =
      sym (image_long bytes count has_slots.whole) ∙ said.long in
      let both : count * (65 + c.page_bytes) ≡ slots_of (shape_of c) * (65 + c.page_bytes) =
      ap (λ p. count * (65 + p)) (sym back_page) ∙ (let same : count * (65 + number_at 12 bytes)
      ≡ slots_of (shape_of c) * (65 + c.page_bytes) = omega (arith, long) in same) in
      same_count (65 + c.page_bytes) count (slots_of (shape_of c)) (omega arith) both

  pub back_lives : ((k : ℕ) → k < count → IsCounted (slot_read bytes k)) → IsLive bytes c image extras
  back_lives all =
      let p = number_at 12 bytes in
      let states : states_read bytes count ≡ map (λ slot. state_byte (seen_of slot)) image =
      sym (states_part bytes count has_slots.whole)
      ∙ ap (λ n. slice_range (as_image bytes count) 64 (64 + n)) back_count ∙ said.states in
      let read = map (λ k. live_contents p (slot_read bytes k)) (range_with_len 0 count) in
      let seen : map seen_of read ≡ map seen_of image =
      seen_once read image (sym (states_map p (slot_read bytes) 0 count) ∙ states) in
      let cells : drop (64 + slots_of (shape_of c)) (as_image bytes count) ≡ cells_read bytes count =
      ap (λ n. drop (64 + n) (as_image bytes count)) (sym back_count) ∙ cells_part bytes count has_slots.whole in
      let slots : read ≡ image =
      sym (image_said bytes count has_slots.whole)
      ∙ ap (λ s. image_of p s (cells_read bytes count)) (sym (seen_same p (slot_read bytes) 0 count) ∙ seen)
      ∙ ap (λ q. image_of q (map seen_of image) (cells_read bytes count)) back_page
      ∙ ap (image_of c.page_bytes (map seen_of image)) (sym cells) ∙ said.cells in
      record {
        can = said.can;
        long = has_slots.whole ∙ ap (λ q. 64 + count * slot_bytes q) back_page
            ∙ ap (λ n. 64 + n * slot_bytes c.page_bytes) back_count;
        header = back_header;
        counts = λ k inside.
            subst (λ q. IsCounted (slice_chunk (drop 64 bytes) (slot_bytes q) k)) back_page
            (all k (omega (arith, inside, back_count)));
        slots =
            ap (λ q. map (λ k. live_contents q (slice_chunk (drop 64 bytes) (slot_bytes q) k))
            (range_with_len 0 (slots_of (shape_of c)))) (sym back_page)
            ∙ ap (λ n. map (λ k. live_contents p (slot_read bytes k)) (range_with_len 0 n)) (sym back_count) ∙ slots;
      }
