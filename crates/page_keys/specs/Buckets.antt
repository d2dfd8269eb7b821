-- The bytes of a page of keys.
use Rattle.std.specs.Prelude.{◌≡◌, ℕ, ◌*◌, ◌<◌, ◌≤◌, List, ◌∷◌, ◌++◌, length, flat_map, replicate, Option, true, IsTrue}
use Rattle.std.specs.List.{AllByRecursion}
use Rattle.std.specs.Option.{unwrap_or}
use Rattle.std.specs.FinMap as map
use Rattle.tx_types.specs.Batch.{padded}
use Rattle.tx_types.specs.declared.config.Config.{Config}
use Rattle.array_machine.specs.ArrayState.{Pages, page_at}
use Rattle.page_keys.specs.KeyMaps.{KeyMap, Pair, part, is_in, is_ascending}

-- a key or a value in an entry: the number of its bytes, they, and zeros up to fifteen
abbrev pub padded_short : List ℕ → List ℕ
padded_short bytes = length bytes ∷ padded 15 bytes

abbrev pub entry_bytes : Pair → List ℕ
entry_bytes e = padded_short e.0 ++ padded_short e.1

-- the entries one behind another, and zeros up to the end of the page
abbrev pub bucket_bytes : ℕ → List Pair → List ℕ
bucket_bytes page_bytes pairs = padded page_bytes (flat_map entry_bytes pairs)

-- a key has one to fifteen bytes, and a value up to fifteen
pub record IsEntry (e : Pair) : Type 0 where
  pub least : 1 ≤ length e.0
  pub most : length e.0 ≤ 15
  pub value : length e.1 ≤ 15

-- the bytes of a page as a store of keys reads it: zeros where it is blank
abbrev pub encodes : ℕ → Option (List ℕ) → List ℕ
encodes page_bytes value = unwrap_or value (replicate page_bytes 0)

-- the bytes are these entries
pub record HoldsEntries (page_bytes : ℕ) (bytes : List ℕ) (pairs : List Pair) : Type 0 where
  pub each : AllByRecursion IsEntry pairs
  pub fits : 32 * length pairs ≤ page_bytes
  pub spelled : bytes ≡ bucket_bytes page_bytes pairs

-- these entries are of keys of this page, in ascending order
pub record AreOfPage (logical page : ℕ) (pairs : List Pair) : Type 0 where
  pub belong : AllByRecursion (λ e. is_in logical page e.0 ≡ true) pairs
  pub ascend : IsTrue (is_ascending pairs)

pub record IsBucketOf (page_bytes logical page : ℕ) (bytes : List ℕ) (pairs : List Pair) : Type 0 where
  pub holds : HoldsEntries page_bytes bytes pairs
  pub its : AreOfPage logical page pairs

-- the bytes are a bucket
abbrev pub IsBucket : ℕ → ℕ → ℕ → List ℕ → Type 0
IsBucket page_bytes logical page bytes =
    (pairs : List Pair) × IsBucketOf page_bytes logical page bytes pairs

-- an array shows a map: each page has the map's entries of its keys, in ascending order
abbrev pub EncodesMap : Config → Pages → KeyMap → Type 0
EncodesMap its pages m =
    (page : ℕ) → page < its.logical →
    HoldsEntries its.page_bytes (encodes its.page_bytes (page_at pages page))
    (map.entries (part its.logical page m))

-- each page of an array is a bucket
abbrev pub AreBuckets : Config → Pages → Type 0
AreBuckets its pages =
    (page : ℕ) → page < its.logical →
    IsBucket its.page_bytes its.logical page (encodes its.page_bytes (page_at pages page))
