-- A header and its numbers.
use Rattle.image_file.proofs.Common.{◌≡◌, ℕ, zero, suc, ◌+◌, ◌-◌, ◌*◌, ◌<◌, ◌≤◌, true, false, not, eqb, List, [], ◌∷◌, ◌++◌, length, take, drop, replicate, slice_range, Option, Some, None, Ok, Err, refl, sym, ap, subst, ◌∙◌, arith, option_map, flat_map, length-append, length-take, length-drop, checked, shape_of, slots_of, Config, Shape, checked_config, Extras, header_of, number_at, config_in, extras_in, shape_in, broken_header, ImageError}
use Rattle.std.proofs.Common.{◌^◌, Bool, ◌||◌, ◌⊎◌}
use Rattle.std.proofs.Common.{Result, inl, inr}
use Rattle.std.specs.Prelude.{is_some, unwrap_or, nat_le, nat_eq, codes, if◌then◌else◌}
use Rattle.std.specs.Int.{w32, to_le_bytes}
use Rattle.std.specs.Option.{option_or}
use Rattle.std.specs.Result.{result_err}
use Rattle.std.specs.List.{starts_with}
use Rattle.std.proofs.lemmas.Bool.{and_parts, cases_eq, ne_eqb, eqb-false, leb-true, le-leb}
use Rattle.std.proofs.lemmas.List.{drop-drop}
use Rattle.std.proofs.lemmas.Nat.{le_bytes_4, from_le_bytes-to_le_bytes_4}
use Rattle.std.proofs.lemmas.Slice.Eq.{bytes_eq-Decides}
use Rattle.std.proofs.Math.Seq.{take-add}
use Rattle.std.proofs.Math.Nat.{mul-le-mul_right}
use Rattle.list_lemmas.proofs.Bytes.{IsBytes, IsBytes-take, IsBytes-drop}
use Rattle.list_lemmas.proofs.Options.{option_or_none}
use Rattle.tx_types.specs.Config.{blocks_of, IsConfig}
use Rattle.tx_types.specs.declared.config.ConfigError.{ConfigError}
use Rattle.tx_types.specs.declared.config.Protocol.{Protocol}
use Rattle.tx_types.specs.declared.config.Protocol.TheVariants.{Scc, Bpcc}
use Rattle.flash_model.specs.Flash.{no_extras}
use Rattle.lane_scan.specs.Scans.{all_equal}
use Rattle.image_file.specs.Spelling.{first_magic, second_magic, code_of, numbers_of}
use Rattle.image_file.specs.Rules.{protocol_of, is_second, told_in, reserved_from, is_allowed, unless, broken_rest}
use Rattle.image_file.specs.declared.error.ImageError.TheVariants as error
use Rattle.image_file.proofs.ImageLemmas.{all_equal-is}

-- ---- numbers one after the other

numbers_from : ℕ → ℕ → List ℕ → List ℕ
numbers_from offset zero bytes = []
numbers_from offset (suc k) bytes = number_at offset bytes ∷ numbers_from (offset + 4) k bytes

number_again : (offset : ℕ) (bytes : List ℕ) → offset + 4 ≤ length bytes → IsBytes bytes →
    to_le_bytes w32 (number_at offset bytes) ≡ take 4 (drop offset bytes)
unfolding number_at
number_again offset bytes room h =
    let four : offset + 4 - offset ≡ 4 = omega arith in
    rw four (le_bytes_4 (take 4 (drop offset bytes)) _ (omega (
      arith,
      length-take 4 (drop offset bytes),
      length-drop offset bytes,
    ))
    (IsBytes-take 4 (drop offset bytes) (IsBytes-drop offset bytes h)).at refl)

numbers_again : (k offset : ℕ) (bytes : List ℕ) → offset + 4 * k ≤ length bytes → IsBytes bytes →
    flat_map (to_le_bytes w32) (numbers_from offset k bytes) ≡ take (4 * k) (drop offset bytes)
unfolding numbers_from
numbers_again zero offset bytes room h = refl
numbers_again (suc k) offset bytes room h =
    let next : 4 * suc k ≡ 4 + 4 * k = omega arith in
    let first = number_again offset bytes (omega arith) h in
    let others = numbers_again k (offset + 4) bytes (omega arith) h in
    let behind : drop 4 (drop offset bytes) ≡ drop (offset + 4) bytes = drop-drop 4 offset bytes in
    let start = drop offset bytes in
    ap (λ front. front ++ flat_map (to_le_bytes w32) (numbers_from (offset + 4) k bytes)) first
    ∙ ap (λ rest. take 4 start ++ rest) others
    ∙ ap (λ rest. take 4 start ++ take (4 * k) rest) (sym behind) ∙ sym (take-add 4 (4 * k) start)
    ∙ ap (λ m. take m start) (sym next)

-- ---- the rules of a header, each by itself

pub record HeaderHolds (bytes : List ℕ) : Type 0 where
  pub long : nat_le 64 (length bytes) ≡ true
  pub magic_holds : (starts_with nat_eq bytes first_magic || is_second bytes) ≡ true
  pub protocol_holds : is_some (protocol_of (number_at 8 bytes)) ≡ true
  pub reserved_holds : all_equal (slice_range bytes (reserved_from bytes) 64) 0 ≡ true
  pub extras_hold : (not (is_second bytes) || is_allowed (told_in bytes)) ≡ true
  pub checks : checked (config_in bytes) ≡ Ok (shape_in bytes)

pub passed : (holds : Bool) (refusal : ImageError) (rest : Option ImageError) → unless holds refusal rest ≡ None →
    (holds ≡ true) × (rest ≡ None)
passed true refusal rest h = (refl, h)
passed false refusal rest h = absurd cc

pub passes : (holds : Bool) (refusal : ImageError) (rest : Option ImageError) → holds ≡ true →
    unless holds refusal rest ≡ rest
passes true refusal rest h = refl
passes false refusal rest h = absurd cc

is_ok : (c : Config) (r : Result Shape ConfigError) → checked c ≡ r → option_map error.Config (result_err r) ≡ None →
    checked c ≡ Ok (shape_of c)
is_ok c (Ok s) h none = h ∙ ap (λ x. Ok x) (checked_config c s h).1
is_ok c (Err e) h none = absurd cc

pub header_holds : (bytes : List ℕ) → broken_header bytes ≡ None → HeaderHolds bytes
unfolding broken_rest
header_holds bytes none =
    let a = passed (nat_le 64 (length bytes)) error.Short _ none in
    let b = passed (starts_with nat_eq bytes first_magic || is_second bytes) error.Magic _ a.1 in
    let c = passed (is_some (protocol_of (number_at 8 bytes))) error.Protocol _ b.1 in
    let rest = option_or_none (broken_rest bytes) (option_map error.Config (result_err (checked (config_in bytes))))
    c.1 in
    let d = passed (all_equal (slice_range bytes (reserved_from bytes) 64) 0) error.Reserved _ rest.0 in
    let e = passed (not (is_second bytes) || is_allowed (told_in bytes)) error.Allowance _ d.1 in
    record {
      long = a.0;
      magic_holds = b.0;
      protocol_holds = c.0;
      reserved_holds = d.0;
      extras_hold = e.0;
      checks = is_ok (config_in bytes) (checked (config_in bytes)) refl rest.1;
    }

pub header_passes : (bytes : List ℕ) → HeaderHolds bytes → broken_header bytes ≡ None
unfolding broken_rest
header_passes bytes h =
    passes (nat_le 64 (length bytes)) error.Short _ h.long
    ∙ passes (starts_with nat_eq bytes first_magic || is_second bytes) error.Magic _ h.magic_holds
    ∙ passes (is_some (protocol_of (number_at 8 bytes))) error.Protocol _ h.protocol_holds
    ∙ ap (λ o. option_or o (option_map error.Config (result_err (checked (config_in bytes)))))
    (passes (all_equal (slice_range bytes (reserved_from bytes) 64) 0) error.Reserved _ h.reserved_holds
    ∙ passes (not (is_second bytes) || is_allowed (told_in bytes)) error.Allowance None h.extras_hold)
    ∙ ap (λ r. option_map error.Config (result_err r)) h.checks

-- ---- what stands in a header is spelled so

code_again : (code : ℕ) → is_some (protocol_of code) ≡ true → code_of (unwrap_or (protocol_of code) Scc) ≡ code
code_again code known =
    elim (cases_eq code 1) [
      | inl is_1 ↦ rw is_1 refl
      | inr not_1 ↦ elim (cases_eq code 2) [
        | inl is_2 ↦ rw is_2 refl
        | inr not_2 ↦
            let unknown : protocol_of code ≡ None = rw (ne_eqb code 1 not_1, ne_eqb code 2 not_2) refl in
            absurd (let none = ap is_some unknown in cc)
      ]
    ]

or_first : (x y : Bool) → (x || y) ≡ true → y ≡ false → x ≡ true
or_first true y h f = refl
or_first false y h f = absurd cc

-- the header that bytes begin with, and its retired blocks
pub record Again (bytes : List ℕ) (extras : Extras) : Type 0 where
  pub header : header_of (config_in bytes) extras ≡ take 64 bytes
  pub within : extras.retired ≤ extras.allowance
  pub few : extras.allowance ≤ 1024

-- reserved bytes
zeros_again : (bytes : List ℕ) (from n : ℕ) → from + n ≡ 64 → 64 ≤ length bytes →
    all_equal (slice_range bytes from 64) 0 ≡ true
    → replicate n 0 ≡ take n (drop from bytes)
zeros_again bytes from n ends long zeros =
    let many : 64 - from ≡ n = omega arith in
    let zero : all_equal (take n (drop from bytes)) 0 ≡ true = rw many at zeros in
    let all : length (take n (drop from bytes)) ≡ n = omega (
      arith,
      length-take n (drop from bytes),
      length-drop from bytes,
    ) in
    sym (all_equal-is (take n (drop from bytes)) 0 zero ∙ ap (λ k. replicate k 0) all)

module _ (bytes : List ℕ) (fits : IsBytes bytes) (h : HeaderHolds bytes) where
  long : 64 ≤ length bytes
  long = leb-true 64 (length bytes) h.long

  -- magic, numbers, and what is behind them
  parts_again : (magic rest : List ℕ) → magic ≡ take 8 bytes → rest ≡ take 28 (drop 36 bytes)
      → magic ++ flat_map (to_le_bytes w32) (numbers_of (config_in bytes)) ++ rest ≡ take 64 bytes
  unfolding numbers_from
  parts_again magic rest magic_is rest_is =
      let code_is = code_again (number_at 8 bytes) h.protocol_holds in
      let numbers_are : flat_map (to_le_bytes w32) (numbers_of (config_in bytes)) ≡ take 28 (drop 8 bytes) =
      ap (λ code. flat_map (to_le_bytes w32) (code ∷ numbers_from 12 6 bytes)) code_is
      ∙ numbers_again 7 8 bytes (omega (arith, long)) fits in
      let front : take 8 bytes ++ take 28 (drop 8 bytes) ≡ take 36 bytes = sym (take-add 8 28 bytes) in
      ap (λ m. m ++ flat_map (to_le_bytes w32) (numbers_of (config_in bytes)) ++ rest) magic_is
      ∙ ap (λ m. take 8 bytes ++ m ++ rest) numbers_are
      ∙ ap (λ m. m ++ rest) front
      ∙ ap (λ m. take 36 bytes ++ m) rest_is
      ∙ sym (take-add 36 28 bytes)

  -- what a header has of retired blocks, by its magic
  module _ (second : is_second bytes ≡ true) where
    allowed : is_allowed (told_in bytes) ≡ true
    allowed = rw second at h.extras_hold

    some : nat_le 1 (number_at 36 bytes) ≡ true
    some = (and_parts (nat_le 1 (number_at 36 bytes))
        _ (and_parts _ (nat_le (number_at 40 bytes) (number_at 36 bytes)) allowed).0).0

    told_again : header_of (config_in bytes) (told_in bytes) ≡ take 64 bytes
    unfolding numbers_from header_of
    told_again =
        let zeros : all_equal (slice_range bytes 44 64) 0 ≡ true = rw second at h.reserved_holds in
        let magic_is : second_magic ≡ take 8 bytes = (bytes_eq-Decides second_magic (take 8 bytes)).0 second in
        let numbers_are : flat_map (to_le_bytes w32) (number_at 36 bytes ∷ number_at 40 bytes ∷ [])
        ≡ take 8 (drop 36 bytes) =
        numbers_again 2 36 bytes (omega (arith, long)) fits in
        let behind : drop 8 (drop 36 bytes) ≡ drop 44 bytes = drop-drop 8 36 bytes in
        let zeros_are : replicate 20 0 ≡ take 20 (drop 8 (drop 36 bytes)) =
        zeros_again bytes 44 20 refl long zeros ∙ ap (take 20) (sym behind) in
        let rest_is : flat_map (to_le_bytes w32) (number_at 36 bytes ∷ number_at 40 bytes ∷ []) ++ replicate 20 0
        ≡ take 28 (drop 36 bytes) =
        ap (λ m. m ++ replicate 20 0) numbers_are ∙ ap (λ z. take 8 (drop 36 bytes) ++ z) zeros_are
        ∙ sym (take-add 8 20 (drop 36 bytes)) in
        let not_0 : eqb (number_at 36 bytes) 0 ≡ false =
        ne_eqb (number_at 36 bytes) 0 (λ is. let one = leb-true 1 (number_at 36 bytes) some in omega arith) in
        rw not_0 (parts_again second_magic _ magic_is rest_is)

    told_fits : ((told_in bytes).retired ≤ (told_in bytes).allowance) × ((told_in bytes).allowance ≤ 1024)
    told_fits =
        let both = and_parts _ (nat_le (number_at 40 bytes) (number_at 36 bytes)) allowed in (
          leb-true _ _ both.1,
          leb-true _ _ (and_parts (nat_le 1 (number_at 36 bytes)) _ both.0).1,
        )

  module _ (first : is_second bytes ≡ false) where
    none_again : header_of (config_in bytes) no_extras ≡ take 64 bytes
    unfolding header_of
    none_again =
        let zeros : all_equal (slice_range bytes 36 64) 0 ≡ true = rw first at h.reserved_holds in
        let begins : starts_with nat_eq bytes first_magic ≡ true = or_first _ (is_second bytes) h.magic_holds first in
        parts_again first_magic (replicate 28 0) ((bytes_eq-Decides first_magic (take 8 bytes)).0 begins)
        (zeros_again bytes 36 28 refl long zeros)

  again : (b : Bool) → is_second bytes ≡ b → Again bytes (if b then told_in bytes else no_extras)
  again true second = record { header = told_again second; within = (told_fits second).0; few = (told_fits second).1 }
  again false first = record { header = none_again first; within = omega arith; few = omega arith }

  -- in both
  pub header_again : Again bytes (extras_in bytes)
  header_again = again (is_second bytes) refl

-- ---- what is spelled stands in the header

code_below : (p : Protocol) → code_of p < 2 ^ 32
code_below Scc = omega arith
code_below Bpcc = omega arith

protocol_again : (p : Protocol) → protocol_of (code_of p) ≡ Some p
protocol_again Scc = refl
protocol_again Bpcc = refl

-- a header with this last byte of the magic and two more numbers
header_with : ℕ → Config → Extras → List ℕ
header_with digit c extras =
    codes "TXFLASH" ++ digit ∷ flat_map (to_le_bytes w32) (numbers_of c)
    ++ flat_map (to_le_bytes w32) (extras.allowance ∷ extras.retired ∷ []) ++ replicate 20 0

-- what bytes have in their header
pub record Reads (bytes : List ℕ) (c : Config) (e : Extras) : Type 0 where
  pub config : config_in bytes ≡ c
  pub extras : extras_in bytes ≡ e
  pub holds : HeaderHolds bytes

module _ (digit : ℕ) (c : Config) (extras : Extras) (rest : List ℕ) (checks : checked c ≡ Ok (shape_of c)) where
  abbrev whole : List ℕ
  whole = header_with digit c extras ++ rest

  config : IsConfig c
  config = (checked_config c (shape_of c) checks).0

  number-protocol : number_at 8 whole ≡ code_of c.protocol
  unfolding number_at header_with
  number-protocol = from_le_bytes-to_le_bytes_4 (code_of c.protocol) (code_below c.protocol)

  number-page_bytes : number_at 12 whole ≡ c.page_bytes
  unfolding number_at header_with
  number-page_bytes = from_le_bytes-to_le_bytes_4 c.page_bytes (omega (arith, config.shape.page_most))

  number-pages : number_at 16 whole ≡ c.pages_per_block
  unfolding number_at header_with
  number-pages = from_le_bytes-to_le_bytes_4 c.pages_per_block (omega (arith, config.shape.pages_most))

  number-blocks : number_at 20 whole ≡ c.blocks_per_die
  unfolding number_at header_with
  number-blocks = from_le_bytes-to_le_bytes_4 c.blocks_per_die (omega (arith, config.shape.blocks_most))

  number-dies : number_at 24 whole ≡ c.dies
  unfolding number_at header_with
  number-dies = from_le_bytes-to_le_bytes_4 c.dies (omega (arith, config.shape.dies_most))

  logical_below : c.logical < 2 ^ 32
  logical_below =
      let fewer : blocks_of (shape_of c) - 1 ≤ blocks_of (shape_of c) = omega arith in
      let room : (blocks_of (shape_of c) - 1) * c.pages_per_block ≤ blocks_of (shape_of c) * c.pages_per_block =
      mul-le-mul_right c.pages_per_block fewer in
      let slots : blocks_of (shape_of c) * c.pages_per_block ≡ slots_of (shape_of c) = omega arith in
      omega (arith, config.space, config.shape.slots_most)

  number-logical : number_at 28 whole ≡ c.logical
  unfolding number_at header_with
  number-logical = from_le_bytes-to_le_bytes_4 c.logical logical_below

  number-pending : number_at 32 whole ≡ c.pending
  unfolding number_at header_with
  number-pending = from_le_bytes-to_le_bytes_4 c.pending (omega (arith, config.pending_most))

  config_in-with : config_in whole ≡ c
  config_in-with =
      rw (
        number-protocol,
        protocol_again c.protocol,
        number-page_bytes,
        number-pages,
        number-blocks,
        number-dies,
        number-logical,
        number-pending,
      )
      refl

  length-with : 64 ≤ length whole
  unfolding header_with
  length-with = omega (arith, length-append (header_with digit c extras) rest)

  module _ (within : extras.retired ≤ extras.allowance) (few : extras.allowance ≤ 1024) where
    number-allowance : number_at 36 whole ≡ extras.allowance
    unfolding number_at header_with
    number-allowance = from_le_bytes-to_le_bytes_4 extras.allowance (omega arith)

    number-retired : number_at 40 whole ≡ extras.retired
    unfolding number_at header_with
    number-retired = from_le_bytes-to_le_bytes_4 extras.retired (omega arith)

    told_in-with : told_in whole ≡ extras
    told_in-with = rw (number-allowance, number-retired) refl

    is_allowed-with : 1 ≤ extras.allowance → is_allowed (told_in whole) ≡ true
    is_allowed-with some =
        rw (
          number-allowance,
          number-retired,
          le-leb 1 extras.allowance some,
          le-leb extras.allowance 1024 few,
          le-leb extras.retired extras.allowance within,
        ) refl

module _ (c : Config) (rest : List ℕ) (checks : checked c ≡ Ok (shape_of c)) where
  -- the first magic
  reads-first : Reads (header_with 49 c no_extras ++ rest) c no_extras
  unfolding header_with
  reads-first = record {
    config = config_in-with 49 c no_extras rest checks;
    extras = refl;
    holds = record {
      long = le-leb 64 _ (length-with 49 c no_extras rest checks);
      magic_holds = refl;
      protocol_holds = rw (number-protocol 49 c no_extras rest checks, protocol_again c.protocol) refl;
      reserved_holds = refl;
      extras_hold = refl;
      checks = subst (λ (x : Config). checked x ≡ Ok (shape_of x)) (sym (config_in-with 49 c no_extras rest checks))
          checks;
    };
  }

  -- and the second
  module _ (extras : Extras) (within : extras.retired ≤ extras.allowance) (few : extras.allowance ≤ 1024)
      (some : 1 ≤ extras.allowance) where
    reads-second : Reads (header_with 50 c extras ++ rest) c extras
    unfolding header_with
    reads-second = record {
      config = config_in-with 50 c extras rest checks;
      extras = told_in-with 50 c extras rest checks within few;
      holds = record {
        long = le-leb 64 _ (length-with 50 c extras rest checks);
        magic_holds = refl;
        protocol_holds = rw (number-protocol 50 c extras rest checks, protocol_again c.protocol) refl;
        reserved_holds = refl;
        extras_hold = is_allowed-with 50 c extras rest checks within few some;
        checks = subst (λ (x : Config). checked x ≡ Ok (shape_of x))
            (sym (config_in-with 50 c extras rest checks)) checks;
      };
    }

-- the header in one form for both
header-first : (c : Config) → header_of c no_extras ≡ header_with 49 c no_extras
unfolding header_of header_with
header-first c = refl

header-second : (c : Config) (extras : Extras) → eqb extras.allowance 0 ≡ false →
    header_of c extras ≡ header_with 50 c extras
unfolding header_of header_with
header-second c extras some = rw some refl

pub none_or_some : (extras : Extras) → extras.retired ≤ extras.allowance → (extras ≡ no_extras)
    ⊎ (eqb extras.allowance 0 ≡ false)
none_or_some extras within =
    elim (cases_eq extras.allowance 0) [
      | inl none ↦ (let both : extras.retired ≡ 0 = omega arith in inl (rw (none, both) refl))
      | inr some ↦ inr (ne_eqb extras.allowance 0 some)
    ]

pub length-header_of : (c : Config) (extras : Extras) → extras.retired ≤ extras.allowance →
    length (header_of c extras) ≡ 64
unfolding header_with
length-header_of c extras within =
    elim (none_or_some extras within) [
      | inl none ↦ rw none (ap length (header-first c))
      | inr some ↦ ap length (header-second c extras some)
    ]

pub header_reads : (c : Config) (extras : Extras) (rest : List ℕ) → checked c ≡ Ok (shape_of c) →
    extras.retired ≤ extras.allowance
    → extras.allowance ≤ 1024 → Reads (header_of c extras ++ rest) c extras
header_reads c extras rest checks within few =
    elim (none_or_some extras within) [
      | inl none ↦ rw (none, header-first c) (reads-first c rest checks)
      | inr some ↦
          let one : 1 ≤ extras.allowance = omega (arith, eqb-false extras.allowance 0 some) in
          rw (header-second c extras some) (reads-second c rest checks extras within few one)
    ]
