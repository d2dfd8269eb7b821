-- Reading the entries of a page, one after another.
use Rattle.page_keys.proofs.Common.{◌≡◌, ◌≢◌, ℕ, suc, ◌+◌, ◌-◌, ◌<◌, ◌≤◌, Bool, true, false, ◌&&◌, ◌==◌, List, [], ◌∷◌, ◌++◌, length, take, drop, get_or, replicate, flat_map, ◌⊎◌, inl, inr, Some, IsTrue, refl, sym, ap, subst, ◌∙◌, arith, length-append, append_assoc, AllByRecursion, is_lt, is_eq, Ordering, Less, Equal, Greater, nat_list_cmp_total, slice_cmp-IsAntisymmetric, nat_cmp-IsAntisymmetric, take-append_seam, drop-append_seam, take-length, take_more, Pair, key_order, is_ascending, value_of, is_in, entry_bytes, IsEntry, AreOfPage, IsBucketOf, IsBucket}
use Rattle.std.proofs.Common.{◌*◌}
use Rattle.std.proofs.Common.{eqb}
use Rattle.std.specs.Ordering.{ordering_index}
use Rattle.std.specs.Cmp.{tied_itself}
use Rattle.std.specs.FinMap.Entries as sorted
use Rattle.std.proofs.lemmas.Slice.Eq.{slice_eq-Decides}
use Rattle.std.proofs.lemmas.Bool.Decides.{Decides-eqb}
use Rattle.std.specs.Cmp.Lexicographic.{pointwise}
use Rattle.page_keys.specs.Buckets.{padded_short}
use Rattle.page_keys.proofs.OfBucket.EntryLists.{first_of, second_of, both_of}
use Rattle.page_keys.proofs.OfBucket.Spelling.{length_short, length_entry, entry_equal, goes_on, GoesOn, length_zeros, first_zero}

take_front : (a b : List ℕ) (n : ℕ) → length a ≡ n → take n (a ++ b) ≡ a
take_front a b n e = subst (λ k. take k (a ++ b) ≡ a) e (take-append_seam a b)

drop_front : (a b : List ℕ) (n : ℕ) → length a ≡ n → drop n (a ++ b) ≡ b
drop_front a b n e = subst (λ k. drop k (a ++ b) ≡ b) e (drop-append_seam a b)

-- the two fields of an entry
pub halves : (bytes : List ℕ) (e : Pair) → IsEntry e → bytes ≡ entry_bytes e →
    (take 16 bytes ≡ padded_short e.0) × (drop 16 bytes ≡ padded_short e.1)
halves bytes e is same =
    let size = length_short e.0 is.most in (
      ap (take 16) same ∙ take_front (padded_short e.0) (padded_short e.1) 16 size,
      ap (drop 16) same ∙ drop_front (padded_short e.0) (padded_short e.1) 16 size,
    )

-- what is left of a page are these entries, and zeros
pub record IsLeft (rest : List ℕ) (more : List Pair) (n : ℕ) : Type 0 where
  pub each : AllByRecursion IsEntry more
  pub spelled : rest ≡ flat_map entry_bytes more ++ replicate n 0

pub record First (rest : List ℕ) (more : List Pair) (n : ℕ) : Type 0 where
  pub one : Pair
  pub others : List Pair
  pub parts : more ≡ one ∷ others
  pub is : IsEntry one
  pub here : take 32 rest ≡ entry_bytes one
  pub left : IsLeft (drop 32 rest) others n

-- where the next byte is no zero there is a next entry
pub first_entry : (rest : List ℕ) (more : List Pair) (n : ℕ) → IsLeft rest more n →
    get_or rest 0 0 ≢ 0 → First rest more n
first_entry rest [] n left here =
    absurd (here (ap (λ (l : List ℕ). get_or l 0 0) left.spelled ∙ first_zero n))
first_entry rest (e ∷ more) n left here =
    let size = length_entry e left.each.0 in
    let same = left.spelled ∙ append_assoc (entry_bytes e) (flat_map entry_bytes more) (replicate n 0) in
    record {
      one = e;
      others = more;
      parts = refl;
      is = left.each.0;
      here = ap (take 32) same ∙ take_front (entry_bytes e) _ 32 size;
      left = record {
        each = left.each.1;
        spelled = ap (drop 32) same ∙ drop_front (entry_bytes e) _ 32 size;
      };
    }

-- where it is a zero, or there is no room, there is none
pub none_left : (rest : List ℕ) (more : List Pair) (n : ℕ) → IsLeft rest more n →
    get_or rest 0 0 ≡ 0 → more ≡ []
none_left rest [] n left here = refl
none_left rest (e ∷ more) n left here =
    let first : get_or rest 0 0 ≡ length e.0 = ap (λ (l : List ℕ). get_or l 0 0) left.spelled in
    let some = left.each.0.least in
    absurd (omega arith)

pub none_short : (rest : List ℕ) (more : List Pair) (n : ℕ) → IsLeft rest more n →
    length rest < 32 → more ≡ []
none_short rest [] n left short = refl
none_short rest (e ∷ more) n left short =
    let same = left.spelled ∙ append_assoc (entry_bytes e) (flat_map entry_bytes more) (replicate n 0) in
    let size : length rest ≡ 32 + length (flat_map entry_bytes more ++ replicate n 0) =
    ap (length {A = ℕ}) same ∙ length-append (entry_bytes e) _
    ∙ ap (λ k. k + length (flat_map entry_bytes more ++ replicate n 0))
    (length_entry e left.each.0) in
    absurd (omega arith)

-- a key of entries in order is above their last one, where it may follow it
last_is : (x : List ℕ) (front : List Pair) (last : Pair) →
    sorted.below_all key_order x (front ++ last ∷ []) ≡ true → is_lt (key_order x last.0) ≡ true
last_is x [] last below = first_of _ _ below
last_is x (e ∷ front) last below = last_is x front last (second_of _ _ below)

below_one_more : (x : List ℕ) (front : List Pair) (e : Pair) →
    sorted.below_all key_order x front ≡ true → is_lt (key_order x e.0) ≡ true →
    sorted.below_all key_order x (front ++ e ∷ []) ≡ true
below_one_more x [] e below less = both_of _ _ less refl
below_one_more x (f ∷ front) e below less =
    both_of _ _ (first_of _ _ below) (below_one_more x front e (second_of _ _ below) less)

pub is_less : (r : Ordering) → is_lt r ≡ true → r ≡ Less
is_less Less h = refl
is_less Equal h = cc
is_less Greater h = cc

and_false : (b : Bool) → (b && false) ≡ false
and_false true = refl
and_false false = refl

module _ (key value : List ℕ) (last : Pair) where
  ends_above : (front : List Pair) → IsTrue (is_ascending (front ++ last ∷ [])) →
      is_lt (key_order last.0 key) ≡ true →
      is_ascending ((front ++ last ∷ []) ++ (key, value) ∷ []) ≡ true
  ends_above [] ascend less = both_of _ _ (both_of _ _ less refl) refl
  ends_above (e ∷ front) ascend less =
      let before = is_less _ (last_is e.0 front last (first_of _ _ ascend)) in
      let over = ap is_lt (nat_list_cmp_total.trans e.0 last.0 key before (is_less _ less)) in
      both_of _ _ (below_one_more e.0 (front ++ last ∷ []) (key, value) (first_of _ _ ascend) over)
      (ends_above front (second_of _ _ ascend) less)

  ends_not_above : (front : List Pair) → is_lt (key_order last.0 key) ≡ false →
      is_ascending ((front ++ last ∷ []) ++ (key, value) ∷ []) ≡ false
  ends_not_above [] other = rw other refl
  ends_not_above (e ∷ front) other = rw (ends_not_above front other) (and_false _)

  pub above_last : (front : List Pair) → IsTrue (is_ascending (front ++ last ∷ [])) →
      is_ascending ((front ++ last ∷ []) ++ (key, value) ∷ []) ≡ is_lt (key_order last.0 key)
  above_last front ascend = by (is_lt (key_order last.0 key)) refl
    where
      by : (b : Bool) → is_lt (key_order last.0 key) ≡ b →
          is_ascending ((front ++ last ∷ []) ++ (key, value) ∷ []) ≡ is_lt (key_order last.0 key)
      by true is = ends_above front ascend is ∙ sym is
      by false is = ends_not_above front is ∙ sym is

-- where a key that was read is found among entries
pub found_first : (key : List ℕ) (e : Pair) (others : List Pair) → e.0 ≡ key →
    value_of key (e ∷ others) ≡ Some e.1
found_first key e others is = rw (is, tied_itself nat_list_cmp_total key) refl

not_equal : (key k : List ℕ) (r : Ordering) → key_order key k ≡ r → k ≢ key → is_eq r ≡ false
not_equal key k Less is other = refl
not_equal key k Equal is other =
    absurd (other (sym (slice_cmp-IsAntisymmetric nat_cmp-IsAntisymmetric key k is)))
not_equal key k Greater is other = refl

pub found_later : (key : List ℕ) (e : Pair) (others : List Pair) → e.0 ≢ key →
    value_of key (e ∷ others) ≡ value_of key others
found_later key e others other = rw (not_equal key e.0 _ refl other) refl

-- a beginning of entries in order is in order
below_front : (x : List ℕ) (front behind : List Pair) →
    sorted.below_all key_order x (front ++ behind) ≡ true →
    sorted.below_all key_order x front ≡ true
below_front x [] behind below = refl
below_front x (e ∷ front) behind below =
    both_of _ _ (first_of _ _ below) (below_front x front behind (second_of _ _ below))

pub ascending_front : (front behind : List Pair) → IsTrue (is_ascending (front ++ behind)) →
    IsTrue (is_ascending front)
ascending_front [] behind ascend = refl
ascending_front (e ∷ front) behind ascend =
    both_of _ _ (below_front e.0 front behind (first_of _ _ ascend))
    (ascending_front front behind (second_of _ _ ascend))

pub all_middle : (P : Pair → Type 0) (front behind : List Pair) (e : Pair) →
    AllByRecursion P (front ++ e ∷ behind) → P e
all_middle P [] behind e each = each.0
all_middle P (f ∷ front) behind e each = all_middle P front behind e each.1

pub all_more : (P : Pair → Type 0) (front : List Pair) (e : Pair) → AllByRecursion P front → P e →
    AllByRecursion P (front ++ e ∷ [])
all_more P [] e each is = (is, tt)
all_more P (f ∷ front) e each is = (each.0, all_more P front e each.1 is)

pub length_entries : (pairs : List Pair) → AllByRecursion IsEntry pairs →
    length (flat_map entry_bytes pairs) ≡ 32 * length pairs
length_entries [] each = refl
length_entries (e ∷ pairs) each =
    let size = length_entry e each.0 in
    let more = length_entries pairs each.1 in
    let parts = length-append (entry_bytes e) (flat_map entry_bytes pairs) in
    let next : 32 * suc (length pairs) ≡ 32 + 32 * length pairs = omega arith in
    parts ∙ rw (size, more) (sym next)

-- the last item of a list
pub last_here : (l : List Pair) (x : Pair) → 1 ≤ length l → x ≡ get_or l (length l - 1) x →
    l ≡ take (length l - 1) l ++ x ∷ []
last_here l x some is =
    let most : length l - 1 + 1 ≡ length l = omega arith in
    let within : length l - 1 < length l = omega arith in
    sym (take-length l) ∙ sym (ap (λ n. take n l) most) ∙ take_more l (length l - 1) x within
    ∙ ap (λ (y : Pair). take (length l - 1) l ++ y ∷ []) (sym is)

pub less_index : (r : Ordering) → (ordering_index r == 0) ≡ is_lt r
less_index Less = refl
less_index Equal = refl
less_index Greater = refl

-- whether a key may follow entries in order, by their last one
pub follows : (l : List Pair) (x : Pair) (s key value : List ℕ) (b : Bool) → 1 ≤ length l →
    x ≡ get_or l (length l - 1) x → IsTrue (is_ascending l) → s ≡ x.0 →
    b ≡ is_lt (key_order s key) → b ≡ is_ascending (l ++ (key, value) ∷ [])
follows l x s key value b some is ascend read told =
    let parts = last_here l x some is in
    let front = take (length l - 1) l in
    let ordered = subst (λ (p : List Pair). IsTrue (is_ascending p)) parts ascend in
    told ∙ ap (λ (k : List ℕ). is_lt (key_order k key)) read
    ∙ sym (above_last key value x front ordered)
    ∙ ap (λ (p : List Pair). is_ascending (p ++ (key, value) ∷ [])) (sym parts)

pub same_bytes : (xs ys : List ℕ) (r : Bool) → r ≡ pointwise eqb xs ys → r ≡ true → xs ≡ ys
same_bytes xs ys r told is = (slice_eq-Decides Decides-eqb xs ys r told).0 is

pub other_bytes : (xs ys : List ℕ) (r : Bool) → r ≡ pointwise eqb xs ys → r ≡ false → xs ≢ ys
other_bytes xs ys r told is same =
    let equal = (slice_eq-Decides Decides-eqb xs ys r told).1 same in
    let apart : true ≡ false = sym equal ∙ is in
    cc

-- the bytes are these entries and the rest
module _ (logical page : ℕ) (bytes rest : List ℕ) (into : List Pair)
    (split : bytes ≡ flat_map entry_bytes into ++ rest)
    (each : AllByRecursion IsEntry into) where
  abbrev zeros_behind : List Pair → ℕ
  zeros_behind all = length bytes - length (flat_map entry_bytes all)

  goes_on_to : (all : List Pair) → IsBucketOf (length bytes) logical page bytes all →
      GoesOn into all rest (length bytes - length (flat_map entry_bytes all))
  goes_on_to all is = goes_on into all rest _ each is.holds.each (sym split ∙ is.holds.spelled)

  left_of : (all : List Pair) (n : ℕ) → (on : GoesOn into all rest n) → IsLeft rest on.more n
  left_of all n on = record { each = on.each; spelled = on.spelled }

  -- where the next entry cannot be read
  pub unread : get_or rest 0 0 ≢ 0 → ((e : Pair) → IsEntry e → take 32 rest ≢ entry_bytes e) →
      ¬ IsBucket (length bytes) logical page bytes
  unread here none (all, is) =
      let on = goes_on_to all is in
      let one = first_entry rest on.more _ (left_of all _ on) here in
      none one.one one.is one.here

  -- where it is of another page, or not above the entry before it
  pub astray : get_or rest 0 0 ≢ 0 → (e : Pair) → IsEntry e → take 32 rest ≡ entry_bytes e →
      (is_in logical page e.0 ≡ false) ⊎ (is_ascending (into ++ e ∷ []) ≡ false) →
      ¬ IsBucket (length bytes) logical page bytes
  astray here e entry same wrong (all, is) =
      let on = goes_on_to all is in
      let one = first_entry rest on.more _ (left_of all _ on) here in
      let its : one.one ≡ e = entry_equal one.one e one.is entry (sym one.here ∙ same) in
      let parts : all ≡ into ++ e ∷ one.others =
      on.parts ∙ ap (λ (l : List Pair). into ++ l) one.parts
      ∙ ap (λ (x : Pair). into ++ x ∷ one.others) its in
      clash wrong
      (all_middle (λ x. is_in logical page x.0 ≡ true) into one.others e
      (subst (AllByRecursion (λ x. is_in logical page x.0 ≡ true)) parts is.its.belong))
      (ascending_front (into ++ e ∷ []) one.others
      (rw (append_assoc into (e ∷ []) one.others)
      (subst (λ (l : List Pair). IsTrue (is_ascending l)) parts is.its.ascend)))
    where
      clash : {p q : Bool} → (p ≡ false) ⊎ (q ≡ false) → p ≡ true → q ≡ true → ⊥
      clash (inl a) b d = cc
      clash (inr a) b d = cc

  -- where no entry is left, and not all bytes are zeros
  pub no_zeros_left : (get_or rest 0 0 ≡ 0) ⊎ (length rest < 32) →
      ¬ (rest ≡ replicate (length rest) 0) → ¬ IsBucket (length bytes) logical page bytes
  no_zeros_left ended other (all, is) =
      let on = goes_on_to all is in
      let left = left_of all _ on in
      let none = none_in on.more _ left ended in
      let zeros = on.spelled
      ∙ ap (λ (l : List Pair). flat_map entry_bytes l ++ replicate (zeros_behind all) 0) none in
      let size : length rest ≡ zeros_behind all =
      ap (length {A = ℕ}) zeros ∙ length_zeros (zeros_behind all) in
      other (zeros ∙ ap (λ n. replicate n 0) (sym size))
    where
      none_in : (more : List Pair) (n : ℕ) → IsLeft rest more n →
          (get_or rest 0 0 ≡ 0) ⊎ (length rest < 32) → more ≡ []
      none_in more n left (inl h) = none_left rest more n left h
      none_in more n left (inr h) = none_short rest more n left h

  -- where the rest are zeros, all entries were read
  pub all_read : rest ≡ replicate (length rest) 0 → AreOfPage logical page into →
      IsBucketOf (length bytes) logical page bytes into
  all_read zeros its =
      let size : length bytes ≡ length (flat_map entry_bytes into) + length rest =
      ap (length {A = ℕ}) split ∙ length-append (flat_map entry_bytes into) rest in
      let entries = length_entries into each in
      let behind : length rest ≡ length bytes - length (flat_map entry_bytes into) = omega arith in
      record {
        holds = record {
          each = each;
          fits = omega arith;
          spelled = split ∙ ap (λ (l : List ℕ). flat_map entry_bytes into ++ l)
              (zeros ∙ ap (λ n. replicate n 0) behind);
        };
        its = its;
      }
