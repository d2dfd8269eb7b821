-- A file that a loss of power leaves torn is no image.
use Rattle.std.proofs.Common.{◌≡◌, inl, inr, ℕ, ◌+◌, ◌*◌, ◌<◌, ◌≤◌, Bool, true, false, List, [], ◌∷◌, length, Option, None, Some, Result, Ok, Err, refl, arith}
use Rattle.std.specs.Prelude.{IsSome, nat_eq, nat_le, ◌==◌, ◌||◌}
use Rattle.std.specs.List.{starts_with}
use Rattle.std.specs.Option.{option_map, option_or}
use Rattle.std.specs.Result.{result_err}
use Rattle.std.proofs.Math.Nat.{mul-le-mul_right}
use Rattle.std.proofs.lemmas.Bool.Decides.{nat_tests}
use Rattle.tx_types.specs.Config.{checked, image_bytes, shape_of, slots_of, blocks_of}
use Rattle.tx_types.specs.Limits.{header_bytes}
use Rattle.tx_types.specs.declared.config.Config.{Config}
use Rattle.tx_types.specs.declared.config.ConfigError.{ConfigError}
use Rattle.tx_types.specs.declared.config.Shape.{Shape}
use Rattle.tx_types.proofs.ConfigLemmas.{checked_config}
use Rattle.image_file.specs.Rules.{broken_header, broken_rest, broken_slots, config_in, first_broken, is_second, shape_in, unless}
use Rattle.image_file.specs.Spelling.{first_magic}
use Rattle.image_file.specs.declared.error.ImageError.{ImageError}
use Rattle.image_file.specs.declared.error.ImageError.TheVariants as error
use Rattle.durable_folder.specs.FolderState.{byte_at}
use Rattle.durable_folder.specs.InPlace.{IsTorn}

-- where no rule is broken, this one is kept, and those behind it
kept : (b : Bool) (e : ImageError) (rest : Option ImageError) → unless b e rest ≡ None → (b ≡ true) × (rest ≡ None)
kept true e rest none = (refl, none)
kept false e rest none = absurd (cc)

neither : (a b : Option ImageError) → option_or a b ≡ None → (a ≡ None) × (b ≡ None)
neither None b none = (refl, none)
neither (Some e) b none = absurd (cc)

no_error : (check : Result Shape ConfigError) → option_map error.Config (result_err check) ≡ None →
    (s : Shape) × (check ≡ Ok s)
no_error (Ok s) none = (s, refl)
no_error (Err e) none = absurd (cc)

-- no magic begins with a zero
no_magic : (bytes : List ℕ) → byte_at bytes 0 ≡ 0 → (starts_with nat_eq bytes first_magic || is_second bytes) ≡ false
no_magic [] head = refl
no_magic (b ∷ bs) head = let head : b ≡ 0 = head in rw head refl

product : (a b : ℕ) → 1 ≤ a → 1 ≤ b → 1 ≤ a * b
product a b low also = let wide : 1 * b ≤ a * b = mul-le-mul_right b low in omega (arith, wide)

-- an image has more bytes than a header
is_long : (its : Config) (s : Shape) → checked its ≡ Ok s → header_bytes < image_bytes (shape_of its)
is_long its s check =
    let shape = (checked_config its s check).0.shape in
    let blocks : 1 ≤ blocks_of (shape_of its) = product its.blocks_per_die its.dies shape.blocks_least
    shape.dies_least in
    let slots : 1 ≤ slots_of (shape_of its) = product its.pages_per_block (blocks_of (shape_of its))
    (omega (arith, shape.pages_least)) blocks in
    let all : 1 ≤ slots_of (shape_of its) * (65 + its.page_bytes) =
    product (slots_of (shape_of its)) (65 + its.page_bytes) slots (omega arith) in
    omega (arith, all)

sound : (bytes : List ℕ) → option_or (broken_header bytes) (broken_slots bytes) ≡ None → IsTorn bytes → ⊥
sound bytes none torn =
    let both = neither (broken_header bytes) (broken_slots bytes) none in
    let long = kept (nat_le header_bytes (length bytes)) error.Short _ both.0 in
    let magic = kept (starts_with nat_eq bytes first_magic || is_second bytes) error.Magic _ long.1 in
    let protocol = kept _ error.Protocol _ magic.1 in
    let rest = neither (broken_rest bytes) _ protocol.1 in
    let check = no_error (checked (config_in bytes)) rest.1 in
    let size = kept (length bytes == image_bytes (shape_in bytes)) error.Length _ both.1 in
    let same : length bytes ≡ image_bytes (shape_in bytes) = grind (arith, nat_tests, size.0) in
    elim torn [
      | inl head ↦ let no = no_magic bytes head in let yes = magic.0 in cc
      | inr short ↦ absurd (omega (arith, same, short, is_long (config_in bytes) check.0 check.1))
    ]

pub torn_broken : (bytes : List ℕ) → IsTorn bytes → IsSome (first_broken bytes)
unfolding first_broken
torn_broken bytes torn = by_rule (option_or (broken_header bytes) (broken_slots bytes)) refl
  where
    by_rule : (rule : Option ImageError) → option_or (broken_header bytes) (broken_slots bytes) ≡ rule → IsSome rule
    by_rule (Some e) is = refl
    by_rule None is = absurd (sound bytes is torn)
