-- The entries of a page after the changes of a put.
use Rattle.page_keys.proofs.Common.{◌≡◌, ℕ, Bool, true, false, not, cond, List, [], ◌∷◌, filter, Option, Some, None, sym, ap, subst, ◌∙◌, AllByRecursion, eq_by_cmp, Less, Equal, Greater, Config, IsEntry, HoldsEntries, IsBucketOf, with_pair, changed, KeyMap, Pair, key_order, apply, part, of_page, IsKeyChange, Change}
use Rattle.std.specs.FinMap as keys
use Rattle.std.specs.FinMap.Entries as sorted
use Rattle.page_keys.proofs.OfBucket.Parts.{entries_change}
use Rattle.page_keys.proofs.OfBucket.Spelling.{one_list}

-- what is so of all is so of those that pass
pub all_filtered : {X : Type 0} (P : X → Type 0) (p : X → Bool) (xs : List X) → AllByRecursion P xs →
    AllByRecursion P (filter p xs)
all_filtered P p [] each = tt
all_filtered P p (x ∷ xs) each =
    let rest = all_filtered P p xs each.1 in
    elim (p x) as (λ b. AllByRecursion P (cond b (x ∷ filter p xs) (filter p xs))) [
      | true ↦ (each.0, rest)
      | false ↦ rest
    ]

each_put : (key value : List ℕ) (pairs : List Pair) → IsEntry (key, value) →
    AllByRecursion IsEntry pairs → AllByRecursion IsEntry (sorted.put key_order key value pairs)
each_put key value [] is each = (is, tt)
each_put key value (e ∷ pairs) is each =
    let rest = each_put key value pairs is each.1 in
    elim (key_order key e.0) as (λ r. AllByRecursion IsEntry
    (sorted.by_order r ((key, value) ∷ e ∷ pairs) ((e.0, value) ∷ pairs)
    (e ∷ sorted.put key_order key value pairs))) [
      | Less ↦ (is, each)
      | Equal ↦ (record { least = each.0.least; most = each.0.most; value = is.value }, each.1)
      | Greater ↦ (each.0, rest)
    ]

each_with_pair : (pairs : List Pair) (key : List ℕ) (value : Option (List ℕ)) →
    IsKeyChange (record { key = key; value = value }) → AllByRecursion IsEntry pairs →
    AllByRecursion IsEntry (with_pair pairs key value)
each_with_pair pairs key None is each =
    all_filtered IsEntry (λ e. not (eq_by_cmp key_order key e.0)) pairs each
each_with_pair pairs key (Some value) is each =
    each_put key value pairs
    (record { least = is.least; most = is.most; value = is.value }) each

pub each_changed : (pairs : List Pair) (cs : List Change) → AllByRecursion IsKeyChange cs →
    AllByRecursion IsEntry pairs → AllByRecursion IsEntry (changed pairs cs)
each_changed pairs [] is each = each
each_changed pairs (c ∷ cs) is each =
    each_changed (with_pair pairs c.key c.value) cs is.1
    (each_with_pair pairs c.key c.value is.0 each)

module _ (its : Config) (m : KeyMap) (cs : List Change) (page : ℕ)
    (bytes : List ℕ) (shows : HoldsEntries its.page_bytes bytes (keys.entries (part its.logical page m))) where
  -- the entries that are read are the map's
  pub read_are : (pairs : List Pair) → IsBucketOf its.page_bytes its.logical page bytes pairs →
      pairs ≡ keys.entries (part its.logical page m)
  read_are pairs is = one_list its.page_bytes bytes _ pairs shows is.holds

  -- and so are they after the changes
  pub merged_are : (pairs merged : List Pair) →
      IsBucketOf its.page_bytes its.logical page bytes pairs →
      merged ≡ changed pairs (of_page its.logical page cs) →
      merged ≡ keys.entries (part its.logical page (apply m cs))
  merged_are pairs merged is made =
      made ∙ ap (λ (l : List Pair). changed l (of_page its.logical page cs)) (read_are pairs is)
      ∙ sym (entries_change its.logical page m cs)

  pub each_after : AllByRecursion IsKeyChange (of_page its.logical page cs) →
      AllByRecursion IsEntry (keys.entries (part its.logical page (apply m cs)))
  each_after valid =
      subst (AllByRecursion IsEntry) (sym (entries_change its.logical page m cs))
      (each_changed _ _ valid shows.each)
