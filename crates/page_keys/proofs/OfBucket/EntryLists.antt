-- A change of a key in a list of entries in ascending order.
use Rattle.page_keys.proofs.Common.{◌≡◌, ◌≢◌, ℕ, suc, ◌+◌, ◌<◌, Bool, true, false, not, ◌&&◌, List, [], ◌∷◌, ◌++◌, length, take, drop, set, Option, Some, None, ◌==◌, IsTrue, get_or, refl, sym, ap, subst, ◌∙◌, arith, length-take, eq_by_cmp, is_lt, Ordering, Less, Equal, Greater, nat_list_cmp_total, slice_cmp-IsAntisymmetric, nat_cmp-IsAntisymmetric, nat_tests, take-append-drop, take_more, drop-cons, take-append_seam, drop-append_seam, changes_of, Pair, key_order, is_ascending, is_in, bucket_of, Change, with_pair, changed, AreBelow}
use Rattle.std.specs.List.{insert, remove}
use Rattle.std.specs.Ordering.{ordering_reverse}
use Rattle.std.specs.Cmp.{tied_itself}
use Rattle.std.specs.FinMap.Entries as sorted
use Rattle.std.specs.FinMap.Entries.{is_sorted-put, is_sorted-where_key}
use lib.Dec.{T}
use Rattle.std.proofs.lemmas.List.{map-append}
use Rattle.std.proofs.Math.Seq.{set-append_seam, drop-append-add}
use Rattle.page_keys.specs.Groups.{Placed}
use Rattle.page_keys.specs.Entries.{BeginsAbove, IsFoundAt, IsGapAt}

pub first_of : (a b : Bool) → (a && b) ≡ true → a ≡ true
first_of true b h = refl
first_of false b h = h

pub second_of : (a b : Bool) → (a && b) ≡ true → b ≡ true
second_of true b h = h
second_of false b h = cc

pub both_of : (a b : Bool) → a ≡ true → b ≡ true → (a && b) ≡ true
both_of a b p q = rw (p, q)

-- what is below is not above, and not the same
pub turned : (x y : List ℕ) (r : Ordering) → key_order x y ≡ r → key_order y x ≡ ordering_reverse r
turned x y r h = nat_list_cmp_total.antisymm y x ∙ ap ordering_reverse h

less_is : (r : Ordering) → is_lt r ≡ true → r ≡ Less
less_is Less h = refl
less_is Equal h = cc
less_is Greater h = cc

-- the entries that stay where a key is removed
abbrev others : List ℕ → List Pair → List Pair
others key pairs = with_pair pairs key None

below_all_beyond : (x y : List ℕ) (pairs : List Pair) → key_order x y ≡ Less →
    sorted.below_all key_order y pairs ≡ true → sorted.below_all key_order x pairs ≡ true
below_all_beyond x y [] less h = refl
below_all_beyond x y (e ∷ es) less h =
    both_of _ _
    (ap is_lt (nat_list_cmp_total.trans x y e.0 less (less_is _ (first_of _ _ h))))
    (below_all_beyond x y es less (second_of _ _ h))

pub put_past : (key value : List ℕ) (front behind : List Pair) → AreBelow key front →
    sorted.put key_order key value (front ++ behind)
    ≡ front ++ sorted.put key_order key value behind
put_past key value [] behind below = refl
put_past key value (e ∷ front) behind below =
    rw (turned e.0 key Less below.0)
    (ap (λ (l : List Pair). e ∷ l) (put_past key value front behind below.1))

others_past : (key : List ℕ) (front behind : List Pair) → AreBelow key front →
    others key (front ++ behind) ≡ front ++ others key behind
others_past key [] behind below = refl
others_past key (e ∷ front) behind below =
    rw (turned e.0 key Less below.0)
    (ap (λ (l : List Pair). e ∷ l) (others_past key front behind below.1))

-- entries with keys above a key stay
others_above : (key : List ℕ) (pairs : List Pair) → sorted.below_all key_order key pairs ≡ true →
    others key pairs ≡ pairs
others_above key [] above = refl
others_above key (e ∷ es) above =
    let less : key_order key e.0 ≡ Less = less_is _ (first_of _ _ above) in
    rw less
    (ap (λ (l : List Pair). e ∷ l) (others_above key es (second_of _ _ above)))

pub ascending_behind : (front behind : List Pair) → IsTrue (is_ascending (front ++ behind)) →
    IsTrue (is_ascending behind)
ascending_behind [] behind ascend = ascend
ascending_behind (e ∷ front) behind ascend =
    ascending_behind front behind (second_of _ _ ascend)

all_above : (key : List ℕ) (behind : List Pair) → BeginsAbove key behind →
    IsTrue (is_ascending behind) → sorted.below_all key_order key behind ≡ true
all_above key [] above ascend = refl
all_above key (e ∷ es) above ascend =
    let less = turned e.0 key Greater above in
    both_of _ _ (ap is_lt less) (below_all_beyond key e.0 es less (first_of _ _ ascend))

put_gap : (key value : List ℕ) (behind : List Pair) → BeginsAbove key behind →
    sorted.put key_order key value behind ≡ (key, value) ∷ behind
put_gap key value [] above = refl
put_gap key value (e ∷ es) above = rw (turned e.0 key Greater above) refl

put_found : (key old value : List ℕ) (behind : List Pair) →
    sorted.put key_order key value ((key, old) ∷ behind) ≡ (key, value) ∷ behind
put_found key old value behind = rw (tied_itself nat_list_cmp_total key) refl

others_found : (key old : List ℕ) (behind : List Pair) →
    sorted.below_all key_order key behind ≡ true → others key ((key, old) ∷ behind) ≡ behind
others_found key old behind above =
    rw (tied_itself nat_list_cmp_total key) (others_above key behind above)

insert_seam : (front behind : List Pair) (x : Pair) (at : ℕ) → length front ≡ at →
    insert (front ++ behind) at x ≡ front ++ x ∷ behind
insert_seam front behind x at place =
    rw (← place, take-append_seam front behind, drop-append_seam front behind) refl

remove_seam : (front behind : List Pair) (x : Pair) (at : ℕ) → length front ≡ at →
    remove (front ++ x ∷ behind) at ≡ front ++ behind
remove_seam front behind x at place =
    let later : suc (length front) ≡ length front + 1 = omega arith in
    rw (← place, take-append_seam front (x ∷ behind), later, drop-append-add front (x ∷ behind) 1) refl

module _ (pairs : List Pair) (key : List ℕ) (at : ℕ) where
  pub set_found : (value : List ℕ) → IsFoundAt pairs key at →
      set pairs at (key, value) ≡ with_pair pairs key (Some value)
  set_found value found =
      let old : Pair = (key, found.value) in
      rw (found.parts, ← found.place)
      (set-append_seam found.front old found.behind (key, value)
      ∙ sym (put_past key value found.front (old ∷ found.behind) found.below
      ∙ ap (λ (l : List Pair). found.front ++ l) (put_found key found.value value found.behind)))

  pub remove_found : IsFoundAt pairs key at → IsTrue (is_ascending pairs) →
      remove pairs at ≡ with_pair pairs key None
  remove_found found ascend =
      let old : Pair = (key, found.value) in
      let behind = ascending_behind found.front (old ∷ found.behind)
      (subst (λ (l : List Pair). IsTrue (is_ascending l)) found.parts ascend) in
      rw found.parts
      (remove_seam found.front found.behind old at found.place
      ∙ sym (others_past key found.front (old ∷ found.behind) found.below
      ∙ ap (λ (l : List Pair). found.front ++ l)
      (others_found key found.value found.behind (first_of _ _ behind))))

  pub insert_gap : (value : List ℕ) → IsGapAt pairs key at →
      insert pairs at (key, value) ≡ with_pair pairs key (Some value)
  insert_gap value gap =
      rw gap.parts
      (insert_seam gap.front gap.behind (key, value) at gap.place
      ∙ sym (put_past key value gap.front gap.behind gap.below
      ∙ ap (λ (l : List Pair). gap.front ++ l) (put_gap key value gap.behind gap.above)))

  pub gap_stays : IsGapAt pairs key at → IsTrue (is_ascending pairs) →
      pairs ≡ with_pair pairs key None
  gap_stays gap ascend =
      let behind = ascending_behind gap.front gap.behind
      (subst (λ (l : List Pair). IsTrue (is_ascending l)) gap.parts ascend) in
      rw gap.parts
      (sym (others_past key gap.front gap.behind gap.below
      ∙ ap (λ (l : List Pair). gap.front ++ l)
      (others_above key gap.behind (all_above key gap.behind gap.above behind))))

pub split_here : {A : Type 0} (l : List A) (i : ℕ) (x : A) → i < length l → x ≡ get_or l i x →
    l ≡ take i l ++ x ∷ drop (suc i) l
split_here {A} l i x within is =
    sym (take-append-drop i l)
    ∙ ap (λ (r : List A). take i l ++ r)
    (drop-cons l i x within ∙ ap (λ (y : A). y ∷ drop (suc i) l) (sym is))

taken : (l : List Pair) (i : ℕ) → i < length l → length (take i l) ≡ i
taken l i within = omega (arith, length-take i l)

below_append : (key : List ℕ) (front : List Pair) (e : Pair) → AreBelow key front →
    key_order e.0 key ≡ Less → AreBelow key (front ++ e ∷ [])
below_append key [] e below less = (less, tt)
below_append key (x ∷ front) e below less = (below.0, below_append key front e below.1 less)

module _ (l : List Pair) (key : List ℕ) (i : ℕ) (e : Pair) (within : i < length l)
    (is : e ≡ get_or l i e) (below : AreBelow key (take i l)) where
  pub found_here : key_order e.0 key ≡ Equal → IsFoundAt l key i
  found_here same =
      let its : e.0 ≡ key = slice_cmp-IsAntisymmetric nat_cmp-IsAntisymmetric e.0 key same in
      record {
        front = take i l;
        value = e.1;
        behind = drop (suc i) l;
        parts = split_here l i e within is
            ∙ ap (λ (k : List ℕ). take i l ++ (k, e.1) ∷ drop (suc i) l) its;
        place = taken l i within;
        below = below;
      }

  pub gap_here : key_order e.0 key ≡ Greater → IsGapAt l key i
  gap_here above = record {
    front = take i l;
    behind = e ∷ drop (suc i) l;
    parts = split_here l i e within is;
    place = taken l i within;
    below = below;
    above = above;
  }

  pub below_more : key_order e.0 key ≡ Less → AreBelow key (take (i + 1) l)
  below_more less =
      rw (take_more l i e within, ← is) (below_append key (take i l) e below less)

-- the order of a key that was read
pub order_read : (s k key : List ℕ) (r o : Ordering) → s ≡ k → r ≡ key_order s key → r ≡ o →
    key_order k key ≡ o
order_read s k key r o read compared is =
    subst (λ (x : List ℕ). key_order x key ≡ o) read (sym compared ∙ is)

pub true_of : (b : Bool) → T b → b ≡ true
true_of true h = refl
true_of false h = absurd h

-- a change keeps the order
pub ascending_with_pair : (pairs : List Pair) (key : List ℕ) (value : Option (List ℕ)) →
    IsTrue (is_ascending pairs) → IsTrue (is_ascending (with_pair pairs key value))
ascending_with_pair pairs key None ascend =
    true_of _ (is_sorted-where_key key_order (λ k. not (eq_by_cmp key_order key k)) pairs
    (subst T (sym ascend) tt))
ascending_with_pair pairs key (Some value) ascend =
    true_of _ (is_sorted-put key_order nat_list_cmp_total key value pairs (subst T (sym ascend) tt))

changed_append : (pairs : List Pair) (cs ds : List Change) →
    changed pairs (cs ++ ds) ≡ changed (changed pairs cs) ds
changed_append pairs [] ds = refl
changed_append pairs (c ∷ cs) ds = changed_append (with_pair pairs c.key c.value) cs ds

-- one change more
pub merged_more : (start : List Pair) (ps : List Placed) (i : ℕ) (p : Placed) → i < length ps →
    p ≡ get_or ps i p →
    changed start (changes_of (take (i + 1) ps))
    ≡ with_pair (changed start (changes_of (take i ps))) p.1.now.key p.1.now.value
merged_more start ps i p within is =
    ap (λ (l : List Placed). changed start (changes_of l))
    (take_more ps i p within ∙ ap (λ (q : Placed). take i ps ++ q ∷ []) (sym is))
    ∙ ap (changed start) (map-append (λ (q : Placed). q.1.now) (take i ps) (p ∷ []))
    ∙ changed_append start (changes_of (take i ps)) (p.1.now ∷ [])

-- whether a key that was read is in a page
pub test_read : (logical page r : ℕ) (s key : List ℕ) → s ≡ key → r ≡ bucket_of logical s →
    (r == page) ≡ is_in logical page key
test_read logical page r s key read is =
    rw is (ap (λ (k : List ℕ). is_in logical page k) read)

pub in_page : (logical page r : ℕ) (s key : List ℕ) → s ≡ key → r ≡ bucket_of logical s →
    r ≡ page → is_in logical page key ≡ true
in_page logical page r s key read is here =
    sym (test_read logical page r s key read is) ∙ grind (arith, nat_tests)

pub not_in_page : (logical page r : ℕ) (s key : List ℕ) → s ≡ key → r ≡ bucket_of logical s →
    r ≢ page → is_in logical page key ≡ false
not_in_page logical page r s key read is other =
    sym (test_read logical page r s key read is) ∙ grind (arith, nat_tests)
