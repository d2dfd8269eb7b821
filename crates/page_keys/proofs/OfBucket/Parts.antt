-- The keys of a page, after changes.
use Rattle.page_keys.proofs.Common.{◌≡◌, ℕ, Bool, true, false, not, cond, List, [], ◌∷◌, Option, Some, None, refl, sym, ap, subst, ◌∙◌, eq_by_cmp, is_eq, Ordering, Less, Equal, Greater, nat_list_cmp_total, slice_cmp-IsAntisymmetric, nat_cmp-IsAntisymmetric, KeyMap, Pair, key_order, apply, part, is_in, of_page, AllByRecursion, Config, Pages, AreOfPage, AreBuckets, EncodesMap, with_pair, changed, Change}
use Rattle.std.specs.Cmp.{eq_by_cmp_equiv}
use Rattle.std.specs.FinMap.{same_map, entries-insert, entries_sorted, from_sorted, get-insert, get-remove}
use Rattle.std.specs.FinMap.{get-from_sorted, get-entries, get-retain_keys, entries-from_sorted, IsAntisymmetric}
use Rattle.std.specs.FinMap as keys
use Rattle.std.specs.FinMap.Entries as sorted
use Rattle.std.specs.FinMap.Entries.{is_sorted-where_key, find-where_key}
use Rattle.page_keys.specs.KeyMaps.{with_value}
use Rattle.page_keys.proofs.OfBucket.EntryLists.{true_of}

pub only_equal : IsAntisymmetric key_order
only_equal = slice_cmp-IsAntisymmetric nat_cmp-IsAntisymmetric

-- a test of keys answers alike at keys that tie
alike : (p : List ℕ → Bool) (q x : List ℕ) → key_order q x ≡ Equal → p x ≡ p q
alike p q x ties = ap p (sym (only_equal q x ties))

abbrev keeps : List ℕ → List ℕ → Bool
keeps key k = not (eq_by_cmp key_order key k)

removed : (b : Bool) (x : Option (List ℕ)) → cond (not b) x None ≡ cond b None x
removed true x = refl
removed false x = refl

-- the entries without a key
entries_remove : (m : KeyMap) (key : List ℕ) →
    keys.entries (keys.remove m key) ≡ with_pair (keys.entries m) key None
entries_remove m key =
    let pairs = with_pair (keys.entries m) key None in
    let order = is_sorted-where_key key_order (keeps key) (keys.entries m) (entries_sorted m) in
    let same : keys.remove m key ≡ from_sorted {R = key_order} pairs =
    same_map nat_list_cmp_total only_equal _ _ (λ q.
    get-remove nat_list_cmp_total m key q
    ∙ sym (get-from_sorted key_order pairs q order
    ∙ find-where_key key_order (keeps key) q (alike (keeps key) q) (keys.entries m)
    ∙ removed (eq_by_cmp key_order key q) (sorted.find key_order q (keys.entries m))
    ∙ ap (λ b. cond b None (sorted.find key_order q (keys.entries m)))
    ((eq_by_cmp_equiv nat_list_cmp_total).symm key q)
    ∙ ap (cond (eq_by_cmp key_order q key) None) (sym (get-entries m q)))) in
    ap keys.entries same ∙ entries-from_sorted key_order pairs order

entries_with_value : (m : KeyMap) (key : List ℕ) (value : Option (List ℕ)) →
    keys.entries (with_value m key value) ≡ with_pair (keys.entries m) key value
entries_with_value m key None = entries_remove m key
entries_with_value m key (Some value) = entries-insert nat_list_cmp_total m key value

-- what a change leaves at a key
abbrev value_after : List ℕ → Option (List ℕ) → List ℕ → Option (List ℕ) → Option (List ℕ)
value_after key value q before = cond (eq_by_cmp key_order q key) value before

get_with_value : (m : KeyMap) (key : List ℕ) (value : Option (List ℕ)) (q : List ℕ) →
    keys.get (with_value m key value) q ≡ value_after key value q (keys.get m q)
get_with_value m key None q = get-remove nat_list_cmp_total m key q
get_with_value m key (Some value) q = get-insert nat_list_cmp_total m key value q

module _ (logical page : ℕ) where
  get_part : (m : KeyMap) (q : List ℕ) →
      keys.get (part logical page m) q
      ≡ cond (is_in logical page q) (keys.get m q) None
  get_part m q =
      get-retain_keys m (is_in logical page) q (alike (is_in logical page) q)

  -- tests at a key, at a key that is changed, and whether they are one
  inside : (same here there : Bool) (value before : Option (List ℕ)) →
      (same ≡ true → here ≡ there) → there ≡ true →
      cond here (cond same value before) None ≡ cond same value (cond here before None)
  inside true true there value before tie is = refl
  inside true false there value before tie is = cc (tie refl)
  inside false true there value before tie is = refl
  inside false false there value before tie is = refl

  outside : (same here there : Bool) (value before : Option (List ℕ)) →
      (same ≡ true → here ≡ there) → there ≡ false →
      cond here (cond same value before) None ≡ cond here before None
  outside true true there value before tie is = cc (tie refl)
  outside true false there value before tie is = refl
  outside false true there value before tie is = refl
  outside false false there value before tie is = refl

  tie_of : (key q : List ℕ) → eq_by_cmp key_order q key ≡ true →
      is_in logical page q ≡ is_in logical page key
  tie_of key q same = by_order_of (key_order q key) refl same
    where
      by_order_of : (r : Ordering) → key_order q key ≡ r → is_eq r ≡ true →
          is_in logical page q ≡ is_in logical page key
      by_order_of Less is h = cc
      by_order_of Equal is h = ap (is_in logical page) (only_equal q key is)
      by_order_of Greater is h = cc

  part_inside : (m : KeyMap) (key : List ℕ) (value : Option (List ℕ)) →
      is_in logical page key ≡ true →
      part logical page (with_value m key value) ≡ with_value (part logical page m) key value
  part_inside m key value here =
      same_map nat_list_cmp_total only_equal _ _ (λ q.
      get_part (with_value m key value) q
      ∙ ap (λ x. cond (is_in logical page q) x None) (get_with_value m key value q)
      ∙ inside (eq_by_cmp key_order q key) (is_in logical page q) (is_in logical page key) value
      (keys.get m q) (tie_of key q) here
      ∙ sym (get_with_value (part logical page m) key value q
      ∙ ap (value_after key value q) (get_part m q)))

  part_outside : (m : KeyMap) (key : List ℕ) (value : Option (List ℕ)) →
      is_in logical page key ≡ false →
      part logical page (with_value m key value) ≡ part logical page m
  part_outside m key value here =
      same_map nat_list_cmp_total only_equal _ _ (λ q.
      get_part (with_value m key value) q
      ∙ ap (λ x. cond (is_in logical page q) x None) (get_with_value m key value q)
      ∙ outside (eq_by_cmp key_order q key) (is_in logical page q) (is_in logical page key) value
      (keys.get m q) (tie_of key q) here
      ∙ sym (get_part m q))

  part_more : (m : KeyMap) (c : Change) (cs : List Change) (b : Bool) →
      is_in logical page c.key ≡ b →
      apply (part logical page (with_value m c.key c.value)) (of_page logical page cs)
      ≡ apply (part logical page m) (of_page logical page (c ∷ cs))
  part_more m c cs true is =
      ap (λ (n : KeyMap). apply n (of_page logical page cs)) (part_inside m c.key c.value is)
      ∙ rw is refl
  part_more m c cs false is =
      ap (λ (n : KeyMap). apply n (of_page logical page cs)) (part_outside m c.key c.value is)
      ∙ rw is refl

  -- parts change: the keys of a page after all changes are those after the changes of the page
  pub parts_change : (m : KeyMap) (cs : List Change) →
      part logical page (apply m cs) ≡ apply (part logical page m) (of_page logical page cs)
  parts_change m [] = refl
  parts_change m (c ∷ cs) =
      parts_change (with_value m c.key c.value) cs
      ∙ part_more m c cs (is_in logical page c.key) refl

entries_after : (m : KeyMap) (cs : List Change) →
    keys.entries (apply m cs) ≡ changed (keys.entries m) cs
entries_after m [] = refl
entries_after m (c ∷ cs) =
    entries_after (with_value m c.key c.value) cs
    ∙ ap (λ (l : List Pair). changed l cs) (entries_with_value m c.key c.value)

-- the entries of a page after changes are the old ones with the changes of the page
pub entries_change : (logical page : ℕ) (m : KeyMap) (cs : List Change) →
    keys.entries (part logical page (apply m cs))
    ≡ changed (keys.entries (part logical page m)) (of_page logical page cs)
entries_change logical page m cs =
    ap keys.entries (parts_change logical page m cs)
    ∙ entries_after (part logical page m) (of_page logical page cs)

-- a key is found in the map where it is found among the entries of its page
pub get_in_part : (logical page : ℕ) (m : KeyMap) (key : List ℕ) →
    is_in logical page key ≡ true →
    keys.get m key ≡ sorted.find key_order key (keys.entries (part logical page m))
get_in_part logical page m key here =
    sym (get_part logical page m key ∙ ap (λ b. cond b (keys.get m key) None) here)
    ∙ get-entries (part logical page m) key

-- the empty map has no keys in a page
pub part_of_empty : (logical page : ℕ) →
    keys.entries (part logical page (keys.empty {X = List ℕ} {R = key_order})) ≡ []
part_of_empty logical page =
    let none : keys.empty {X = List ℕ} {R = key_order} ≡ from_sorted [] =
    same_map nat_list_cmp_total only_equal _ _ (λ q.
    keys.get-empty key_order q ∙ sym (get-from_sorted key_order [] q tt)) in
    let same : part logical page (keys.empty {X = List ℕ} {R = key_order}) ≡ from_sorted [] =
    same_map nat_list_cmp_total only_equal _ _ (λ q.
    get_part logical page (keys.empty {X = List ℕ} {R = key_order}) q
    ∙ ap (λ x. cond (is_in logical page q) x None) (keys.get-empty key_order q)
    ∙ neither (is_in logical page q) None
    ∙ sym (get-from_sorted key_order [] q tt)) in
    ap keys.entries same ∙ entries-from_sorted key_order [] tt
  where
    neither : (b : Bool) (x : Option (List ℕ)) → cond b x x ≡ x
    neither true x = refl
    neither false x = refl

entries_part : (logical page : ℕ) (m : KeyMap) →
    keys.entries (part logical page m)
    ≡ sorted.where_key key_order (is_in logical page) (keys.entries m)
entries_part logical page m =
    let pairs = sorted.where_key key_order (is_in logical page) (keys.entries m) in
    let order = is_sorted-where_key key_order (is_in logical page) (keys.entries m)
    (entries_sorted m) in
    let same : part logical page m ≡ from_sorted {R = key_order} pairs =
    same_map nat_list_cmp_total only_equal _ _ (λ q.
    get_part logical page m q
    ∙ sym (get-from_sorted key_order pairs q order
    ∙ find-where_key key_order (is_in logical page) q (alike (is_in logical page) q)
    (keys.entries m)
    ∙ ap (λ x. cond (is_in logical page q) x None) (sym (get-entries m q)))) in
    ap keys.entries same ∙ entries-from_sorted key_order pairs order

kept_head : (p : List ℕ → Bool) (e : Pair) (rest : List Pair) (b : Bool) → p e.0 ≡ b →
    AllByRecursion (λ x. p x.0 ≡ true) rest →
    AllByRecursion (λ x. p x.0 ≡ true) (cond b (e ∷ rest) rest)
kept_head p e rest true is each = (is, each)
kept_head p e rest false is each = each

all_kept : (p : List ℕ → Bool) (es : List Pair) →
    AllByRecursion (λ x. p x.0 ≡ true) (sorted.where_key key_order p es)
all_kept p [] = tt
all_kept p (e ∷ es) = kept_head p e (sorted.where_key key_order p es) (p e.0) refl (all_kept p es)

-- the entries of a page are of the page, and in order
pub part_of_page : (logical page : ℕ) (m : KeyMap) →
    AreOfPage logical page (keys.entries (part logical page m))
part_of_page logical page m = record {
  belong = subst (AllByRecursion (λ e. is_in logical page e.0 ≡ true))
      (sym (entries_part logical page m)) (all_kept (is_in logical page) (keys.entries m));
  ascend = true_of _ (entries_sorted (part logical page m));
}

-- pages that show a map are buckets
pub shown_buckets : (its : Config) (pages : Pages) (m : KeyMap) → EncodesMap its pages m →
    AreBuckets its pages
shown_buckets its pages m shows page exists = (
  keys.entries (part its.logical page m),
  record { holds = shows page exists; its = part_of_page its.logical page m },
)
