-- The one spelling of a record in the bytes of a spare area, in either format. Numbers are unsigned and little endian.
use Rattle.std.specs.Prelude.{◌≡◌, ℕ, ◌<◌, ◌≤◌, ◌^◌, ◌==◌, Bool, true, false, if◌then◌else◌, List, [], ◌∷◌, ◌++◌, replicate, codes}
use Rattle.std.specs.Int.{w32, w64, to_le_bytes}
use Rattle.tx_types.specs.Limits.{max_version, max_pending}
use Rattle.tx_types.specs.declared.config.Protocol.{Protocol}
use Rattle.tx_types.specs.declared.config.Protocol.TheVariants.{Scc, Bpcc}
use Rattle.tx_types.specs.declared.record.Rec.{Rec}

-- what each spare area begins with
abbrev pub mark : List ℕ
mark = codes "TXFR"

-- the byte that stands for a protocol
abbrev pub code_of : Protocol → ℕ
code_of Scc = 1
code_of Bpcc = 2

-- a record that says how many its transaction has is of format 2, and one that does not of format 1
abbrev pub format_of : Rec → ℕ
format_of rec = if rec.count == 0 then 1 else 2

-- the first of the two bytes of flags: 1 for a discard
abbrev pub flag_of : Bool → ℕ
flag_of true = 1
flag_of false = 0

-- mark, format, protocol and flags, page, link page, version, link version, back version, count, rest: in format 1
-- the count is 0 as the rest is
unfoldable pub spelling : Protocol → Rec → List ℕ
spelling protocol rec =
    mark ++ (format_of rec ∷ code_of protocol ∷ flag_of rec.discard ∷ 0 ∷ [])
    ++ to_le_bytes w32 rec.page ++ to_le_bytes w32 rec.next.page
    ++ to_le_bytes w64 rec.version ++ to_le_bytes w64 rec.next.version
    ++ to_le_bytes w64 rec.back ++ to_le_bytes w32 rec.count ++ replicate 20 0

-- there is no back version under Simple Cyclic Commit, and under Back Pointer Cyclic Commit it is an earlier one
abbrev pub IsBack : Protocol → ℕ → ℕ → Type 0
IsBack Scc version back = back ≡ 0
IsBack Bpcc version back = back < version

-- the record has a spelling: its numbers are in range, and it is no discard where it has no count
pub record CanBeSpelled (protocol : Protocol) (rec : Rec) : Type 0 where
  pub page : rec.page < 2 ^ 32
  pub next_page : rec.next.page < 2 ^ 32
  pub version_least : 1 ≤ rec.version
  pub version_most : rec.version ≤ max_version
  pub next_version_least : 1 ≤ rec.next.version
  pub next_version_most : rec.next.version ≤ max_version
  pub back : IsBack protocol rec.version rec.back
  pub count : rec.count ≤ max_pending
  pub discard : rec.count ≡ 0 → rec.discard ≡ false
