-- The rules that the bytes of a spare area have to meet, and the record that such bytes spell.
use Rattle.std.specs.Prelude.{◌≡◌, ℕ, ◌+◌, ◌==◌, Bool, true, false, ◌&&◌, not, nat_eq, nat_lt, nat_le, ◌||◌, List, [], ◌∷◌, ◌++◌, length, slice_index}
use Rattle.std.specs.Prelude.{slice_range, find, Option, Some, None, is_none, if◌then◌else◌}
use Rattle.std.specs.List.{list_all, starts_with}
use Rattle.std.specs.Int.{Width, w32, w64, byte_len, from_le_bytes}
use Rattle.tx_types.specs.Limits.{max_version, max_pending, spare_bytes}
use Rattle.tx_types.specs.declared.config.Protocol.{Protocol}
use Rattle.tx_types.specs.declared.config.Protocol.TheVariants.{Scc, Bpcc}
use Rattle.tx_types.specs.declared.record.Rec.{Rec}
use Rattle.page_record.specs.declared.error.SpareError.{SpareError}
use Rattle.page_record.specs.declared.error.SpareError.TheVariants as rule
use Rattle.page_record.specs.Spelling.{mark, code_of}

-- the number that stands in the bytes at an offset
unfoldable pub number_at : Width → ℕ → List ℕ → ℕ
number_at w offset bytes = from_le_bytes w (slice_range bytes offset (offset + byte_len w))

-- the record whose numbers stand in the bytes
abbrev pub fields_of : List ℕ → Rec
fields_of bytes = record {
  page = number_at w32 8 bytes;
  version = number_at w64 16 bytes;
  next = record { page = number_at w32 12 bytes; version = number_at w64 24 bytes };
  back = number_at w64 32 bytes;
  count = number_at w32 40 bytes;
  discard = slice_index bytes 6 == 1;
}

abbrev pub are_zeros : List ℕ → Bool
are_zeros bytes = list_all (λ b. b == 0) bytes

-- format 2, which has a count and may have a flag
abbrev pub is_counted : List ℕ → Bool
is_counted bytes = slice_index bytes 4 == 2

-- the flags are 0, or 1 where the format has a count
abbrev pub has_flags : List ℕ → Bool
has_flags bytes =
    ((slice_index bytes 6 == 0) || (is_counted bytes && (slice_index bytes 6 == 1)))
    && (slice_index bytes 7 == 0)

abbrev pub is_count : ℕ → Bool
is_count n = nat_le 1 n && nat_le n max_pending

-- the bytes behind the last field, which is the back version where the format has no count
abbrev pub rest_of : List ℕ → List ℕ
rest_of bytes =
    if is_counted bytes then slice_range bytes 44 spare_bytes
    else slice_range bytes 40 spare_bytes

abbrev pub is_version : ℕ → Bool
is_version n = nat_le 1 n && nat_le n max_version

-- whether a record of this version may have this back version
abbrev pub is_back : Protocol → ℕ → ℕ → Bool
is_back Scc version back = back == 0
is_back Bpcc version back = nat_lt back version

-- the rule of this name holds
abbrev pub holds : Protocol → List ℕ → SpareError → Bool
holds protocol bytes rule.Mark = starts_with nat_eq bytes mark
holds protocol bytes rule.Format = (slice_index bytes 4 == 1) || is_counted bytes
holds protocol bytes rule.Protocol = slice_index bytes 5 == code_of protocol
holds protocol bytes rule.Flags = has_flags bytes
holds protocol bytes rule.Version =
    is_version (number_at w64 16 bytes) && is_version (number_at w64 24 bytes)
holds protocol bytes rule.Back = is_back protocol (number_at w64 16 bytes) (number_at w64 32 bytes)
holds protocol bytes rule.Count = not (is_counted bytes) || is_count (number_at w32 40 bytes)
holds protocol bytes rule.Rest = are_zeros (rest_of bytes)

-- the rules, in the order in which they are tried
abbrev pub rules : List SpareError
rules =
    rule.Mark ∷ rule.Format ∷ rule.Protocol ∷ rule.Flags ∷ rule.Version ∷ rule.Back ∷ rule.Count
    ∷ rule.Rest ∷ []

-- the first rule that the bytes break
unfoldable pub first_broken : Protocol → List ℕ → Option SpareError
first_broken protocol bytes = find (λ r. not (holds protocol bytes r)) rules

-- the rule is broken, and each one before it holds
pub record IsFirstBrokenRule (protocol : Protocol) (bytes : List ℕ)
    (first : SpareError) : Type 0 where
  pub before : List SpareError
  pub after : List SpareError
  pub in_order : rules ≡ before ++ first ∷ after
  pub hold_before : list_all (holds protocol bytes) before ≡ true
  pub broken : holds protocol bytes first ≡ false

-- as many bytes as a spare area has
abbrev pub is_area : List ℕ → Bool
is_area bytes = (length bytes == spare_bytes) && list_all (λ b. nat_lt b 256) bytes

-- the record of a spare area that breaks no rule
unfoldable pub record_of : Protocol → List ℕ → Option Rec
record_of protocol bytes =
    if is_area bytes && is_none (first_broken protocol bytes) then Some (fields_of bytes) else None
