-- An array shows one map.
use Rattle.page_keys.proofs.Common.{◌≡◌, ℕ, ◌<◌, true, ◌==◌, List, sym, ap, ◌∙◌, arith, nat_list_cmp_total, nat_tests, Config, Pages, page_at, EncodesMap, encodes, KeyMap, Pair, bucket_of, is_in, key_order, part}
use Rattle.std.proofs.Common.{◌%◌}
use Rattle.std.specs.FinMap.{same_map, entries}
use Rattle.std.specs.FinMap.Entries as sorted
use Rattle.page_keys.specs.KeyMaps.{hash}
use Rattle.page_keys.proofs.OfBucket.Parts.{get_in_part, only_equal}
use Rattle.page_keys.proofs.OfBucket.Spelling.{one_list}

its_own : (logical : ℕ) (key : List ℕ) → is_in logical (bucket_of logical key) key ≡ true
its_own logical key = same (bucket_of logical key)
  where
    same : (n : ℕ) → (n == n) ≡ true
    same n = grind (arith, nat_tests)

within : (n logical : ℕ) → 0 < logical → n % logical < logical
within n logical exist = omega arith

pub one_map : (its : Config) (pages : Pages) (m n : KeyMap) → 0 < its.logical →
    EncodesMap its pages m → EncodesMap its pages n → m ≡ n
one_map its pages m n exist first second =
    same_map nat_list_cmp_total only_equal m n (λ key.
    let page = bucket_of its.logical key in
    let exists : page < its.logical = within (hash key) its.logical exist in
    let here = its_own its.logical key in
    let one = one_list its.page_bytes (encodes its.page_bytes (page_at pages page))
    (entries (part its.logical page n)) (entries (part its.logical page m)) (second page exists)
    (first page exists) in
    get_in_part its.logical page m key here ∙ ap (λ (l : List Pair). sorted.find key_order key l) one
    ∙ sym (get_in_part its.logical page n key here))
