-- There is a map that buckets show.
use Rattle.page_keys.proofs.Common.{◌≡◌, ◌≢◌, ℕ, zero, suc, ◌<◌, ◌≤◌, true, false, List, [], ◌∷◌, ◌++◌, Some, IsTrue, refl, sym, ap, subst, ◌∙◌, inl, inr, arith, append_assoc, append-nil, AllByRecursion, Less, nat_tests, Config, Pages, page_at, AreBuckets, EncodesMap, HoldsEntries, encodes, AreBelow, changed, KeyMap, Pair, key_order, is_ascending, apply, part, is_in, of_page, bucket_of, Change}
use Rattle.std.specs.FinMap as keys
use Rattle.std.specs.FinMap.{empty}
use Rattle.std.specs.FinMap.Entries as sorted
use Rattle.std.proofs.lemmas.Bool.Decides.{eqb_tells}
use Rattle.page_keys.proofs.OfBucket.EntryLists.{first_of, second_of, put_past}
use Rattle.page_keys.proofs.OfPut.EntriesLeft.{is_less}
use Rattle.page_keys.proofs.OfBucket.Parts.{entries_change, part_of_empty}

-- puts of entries
puts_of : List Pair → List Change
puts_of [] = []
puts_of (e ∷ es) = record { key = e.0; value = Some e.1 } ∷ puts_of es

middle : (x : List ℕ) (front : List Pair) (e : Pair) (behind : List Pair) →
    sorted.below_all key_order x (front ++ e ∷ behind) ≡ true → key_order x e.0 ≡ Less
middle x [] e behind below = is_less _ (first_of _ _ below)
middle x (f ∷ front) e behind below = middle x front e behind (second_of _ _ below)

below_of : (front : List Pair) (e : Pair) (behind : List Pair) →
    IsTrue (is_ascending (front ++ e ∷ behind)) → AreBelow e.0 front
below_of [] e behind ascend = tt
below_of (f ∷ front) e behind ascend =
    (middle f.0 front e behind (first_of _ _ ascend), below_of front e behind (second_of _ _ ascend))

-- entries in order that are put one after another
changed_puts : (front es : List Pair) → IsTrue (is_ascending (front ++ es)) →
    changed front (puts_of es) ≡ front ++ es
unfolding puts_of
changed_puts front [] ascend = sym (append-nil front)
changed_puts front (e ∷ es) ascend =
    let added : sorted.put key_order e.0 e.1 front ≡ front ++ e ∷ [] =
    ap (sorted.put key_order e.0 e.1) (sym (append-nil front))
    ∙ put_past e.0 e.1 front [] (below_of front e es ascend) in
    ap (λ (l : List Pair). changed l (puts_of es)) added
    ∙ changed_puts (front ++ e ∷ []) es
    (subst (λ (l : List Pair). IsTrue (is_ascending l)) (sym (append_assoc front (e ∷ []) es)) ascend)
    ∙ append_assoc front (e ∷ []) es

module _ (logical page : ℕ) where
  of_all : (es : List Pair) → AllByRecursion (λ e. is_in logical page e.0 ≡ true) es →
      of_page logical page (puts_of es) ≡ puts_of es
  unfolding puts_of
  of_all [] belong = refl
  of_all (e ∷ es) belong = rw (belong.0, of_all es belong.1) refl

  other_page : (q : ℕ) (key : List ℕ) → q ≢ page → is_in logical page key ≡ true →
      is_in logical q key ≡ false
  other_page q key apart here =
      let b = bucket_of logical key in
      let same : b ≡ page = grind (arith, nat_tests) in
      grind (arith, nat_tests)

  of_none : (q : ℕ) → q ≢ page → (es : List Pair) →
      AllByRecursion (λ e. is_in logical page e.0 ≡ true) es → of_page logical q (puts_of es) ≡ []
  unfolding puts_of
  of_none q apart [] belong = refl
  of_none q apart (e ∷ es) belong =
      rw (other_page q e.0 apart belong.0) (of_none q apart es belong.1)

-- a map whose keys are those of the first pages
record ShowsFirst (its : Config) (pages : Pages) (n : ℕ) (m : KeyMap) : Type 0 where
  first : (q : ℕ) → q < n → HoldsEntries its.page_bytes
      (encodes its.page_bytes (page_at pages q)) (keys.entries (part its.logical q m))
  others : (q : ℕ) → n ≤ q → keys.entries (part its.logical q m) ≡ []

shows_first : (its : Config) (pages : Pages) → AreBuckets its pages → (n : ℕ) → n ≤ its.logical →
    (m : KeyMap) × ShowsFirst its pages n m
shows_first its pages buckets zero most = (
  empty,
  record {
    first = λ q below. absurd (omega arith);
    others = λ q least. part_of_empty its.logical q;
  },
)
shows_first its pages buckets (suc n) most =
    let before = shows_first its pages buckets n (omega arith) in
    let m = before.0 in
    let bucket = buckets n (omega arith) in
    let es = bucket.0 in
    let its_keys = bucket.1.its in
    let other : (q : ℕ) → q ≢ n →
    keys.entries (part its.logical q (apply m (puts_of es)))
    ≡ keys.entries (part its.logical q m) = λ q apart.
    entries_change its.logical q m (puts_of es)
    ∙ ap (changed (keys.entries (part its.logical q m)))
    (of_none its.logical n q apart es its_keys.belong) in
    let own : keys.entries (part its.logical n (apply m (puts_of es))) ≡ es =
    entries_change its.logical n m (puts_of es)
    ∙ ap (changed (keys.entries (part its.logical n m))) (of_all its.logical n es its_keys.belong)
    ∙ ap (λ (l : List Pair). changed l (puts_of es)) (before.1.others n (omega arith))
    ∙ changed_puts [] es its_keys.ascend in (
      apply m (puts_of es),
      record {
        first = λ q below. elim (eqb_tells q n) [
          | inl same ↦
              subst (λ k. HoldsEntries its.page_bytes (encodes its.page_bytes (page_at pages k))
              (keys.entries (part its.logical k (apply m (puts_of es))))) (sym same.1)
              (subst (HoldsEntries its.page_bytes (encodes its.page_bytes (page_at pages n))) (sym own)
              bucket.1.holds)
          | inr apart ↦
              let earlier : q < n = omega (arith, apart.1) in
              subst (HoldsEntries its.page_bytes (encodes its.page_bytes (page_at pages q)))
              (sym (other q apart.1)) (before.1.first q earlier)
        ];
        others = λ q least.
            let apart : q ≢ n = λ h. absurd (omega arith) in
            other q apart ∙ before.1.others q (omega arith);
      },
    )

-- buckets show a map
pub shows_some : (its : Config) (pages : Pages) → AreBuckets its pages →
    (m : KeyMap) × EncodesMap its pages m
shows_some its pages buckets =
    let all = shows_first its pages buckets its.logical (omega arith) in
    (all.0, λ page exists. all.1.first page exists)
