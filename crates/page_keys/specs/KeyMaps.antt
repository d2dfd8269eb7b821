-- The map machine: a finite map from short keys to short values, and what a put makes of it.
use Rattle.std.specs.Prelude.{ℕ, ◌+◌, ◌*◌, ◌%◌, ◌^◌, ◌==◌, Bool, List, [], ◌∷◌, filter, fold, Option, None, Some, if◌then◌else◌}
use Rattle.std.specs.List.{list_any, range_with_len}
use Rattle.std.specs.Cmp.Lexicographic.{slice_cmp}
use Rattle.std.specs.Ordering.{nat_cmp}
use Rattle.std.specs.declared.cmp.Ordering.{Ordering}
use Rattle.std.specs.FinMap as map
use Rattle.std.specs.FinMap.Entries as sorted
use Rattle.page_keys.specs.declared.changes.Change.{Change}

-- the order of keys: that of their bytes, a beginning of a key before the key
abbrev pub key_order : List ℕ → List ℕ → Ordering
key_order = slice_cmp nat_cmp

abbrev pub KeyMap : Type 0
KeyMap = map.FinMap key_order (List ℕ)

-- a key and its value
abbrev pub Pair : Type 0
Pair = List ℕ × List ℕ

-- whether the keys of entries strictly ascend
abbrev pub is_ascending : List Pair → Bool
is_ascending pairs = sorted.is_sorted key_order pairs

-- the value of a key among entries
abbrev pub value_of : List ℕ → List Pair → Option (List ℕ)
value_of key pairs = sorted.find key_order key pairs

abbrev pub with_value : KeyMap → List ℕ → Option (List ℕ) → KeyMap
with_value m key None = map.remove m key
with_value m key (Some value) = map.insert m key value

-- the map after all changes, in their order
abbrev pub apply : KeyMap → List Change → KeyMap
apply m [] = m
apply m (c ∷ cs) = apply (with_value m c.key c.value) cs

abbrev pub hash_more : ℕ → ℕ → ℕ
hash_more h byte = (h * 31 + byte) % 2 ^ 32

unfoldable pub hash : List ℕ → ℕ
hash key = fold hash_more 0 key

-- the page that a key belongs to, of this many
abbrev pub bucket_of : ℕ → List ℕ → ℕ
bucket_of logical key = hash key % logical

abbrev pub is_in : ℕ → ℕ → List ℕ → Bool
is_in logical page key = bucket_of logical key == page

-- the keys of a page
abbrev pub part : ℕ → ℕ → KeyMap → KeyMap
part logical page m = map.retain_keys m (is_in logical page)

-- the changes of keys of a page
abbrev pub of_page : ℕ → ℕ → List Change → List Change
of_page logical page changes = filter (λ c. is_in logical page c.key) changes

-- a change has a key of the page
abbrev pub is_touched : ℕ → List Change → ℕ → Bool
is_touched logical changes page = list_any (λ c. is_in logical page c.key) changes

-- the pages of the keys of the changes, in ascending order
abbrev pub pages_of : ℕ → List Change → List ℕ
pages_of logical changes = filter (is_touched logical changes) (range_with_len 0 logical)

-- each of these pages may be mentioned once more
abbrev pub seen_by : ℕ → List Change → (ℕ → ℕ) → ℕ → ℕ
seen_by logical changes seen page =
    if is_touched logical changes page then seen page + 1 else seen page
