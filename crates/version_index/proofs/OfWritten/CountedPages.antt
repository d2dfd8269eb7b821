-- How many pages are not blank, by their current records.
use Rattle.version_index.proofs.Common.{◌≡◌, ℕ, zero, suc, ◌+◌, ◌<◌, ◌≤◌, Bool, false, not, ◌&&◌, cond, List, [], ◌∷◌, map, length, set, count_by, Option, Some, None, refl, sym, ap, ap₂, ◌∙◌, inl, inr, arith, range_with_len, option_map_or, cases_Option, ext_get_or, Config, Protocol, Rec, TablesState, number_at, current_of, discarded_of, rec_at, named, name_at, name_of, noted_by, AreIndexed}
use Rattle.std.proofs.Common.{ne_eqb, eq-eqb}
use Rattle.std.proofs.lemmas.List.FromFn.{length-map-range_with_len, get_or-map-range_with_len}
use Rattle.std.proofs.lemmas.List.Sums.{sum_by-cons, sum_by-set, count_by-le-length, get_or-le-sum_by}
use Rattle.judged_records.proofs.OfNotes.Derived.{name_at_is}
use Rattle.judged_records.proofs.OfNotes.Numbered.{named_some}
use Rattle.version_index.specs.Tables.{discard_at}
use Rattle.version_index.specs.Written.{fills, pages_written, is_written, written_of}
use Rattle.version_index.proofs.OfReadings.KeptReadings.{current_none, read_discard}

-- a count of a list that is made of another
pub count_map : {X : Type 0} (p : X → Bool) (f : ℕ → X) (xs : List ℕ) →
    count_by p (map f xs) ≡ count_by (λ i. p (f i)) xs
count_map p f [] = refl
count_map p f (x ∷ xs) =
    sum_by-cons (λ y. cond (p y) 1 0) (f x) (map f xs)
    ∙ ap (λ n. cond (p (f x)) 1 0 + n) (count_map p f xs)
    ∙ sym (sum_by-cons (λ i. cond (p (f i)) 1 0) x xs)

-- two tests that agree on a range
pub count_range : (p q : ℕ → Bool) (a n : ℕ) → ((i : ℕ) → a ≤ i → i < a + n → p i ≡ q i) →
    count_by p (range_with_len a n) ≡ count_by q (range_with_len a n)
count_range p q a zero h = refl
count_range p q a (suc n) h =
    sum_by-cons (λ i. cond (p i) 1 0) a (range_with_len (a + 1) n)
    ∙ ap₂ (λ b rest. cond b 1 0 + rest) (h a (omega arith) (omega arith))
    (count_range p q (a + 1) n (λ i low high. h i (omega arith) (omega arith)))
    ∙ sym (sum_by-cons (λ i. cond (q i) 1 0) a (range_with_len (a + 1) n))

-- a count by places
pub count_places : (p : Option ℕ → Bool) (xs : List (Option ℕ)) →
    count_by p xs ≡ count_by (λ i. p (number_at xs i)) (range_with_len 0 (length xs))
count_places p xs =
    ap (count_by p)
    (ext_get_or None xs (map (number_at xs) (range_with_len 0 (length xs)))
    (sym (length-map-range_with_len (number_at xs) 0 (length xs)))
    (λ i low. sym (get_or-map-range_with_len (number_at xs) 0 (length xs) i i None low (omega arith))))
    ∙ count_map p (number_at xs) (range_with_len 0 (length xs))

-- as many pages are not blank where each current record stays
pub same_written : (k t : TablesState) → t.current ≡ k.current →
    ((page x : ℕ) → page < length k.current → number_at k.current page ≡ Some x →
    rec_at t.records x ≡ rec_at k.records x) →
    pages_written t ≡ pages_written k
same_written k t same stays =
    ap (count_by (fills t.records)) same
    ∙ count_places (fills t.records) k.current
    ∙ count_range (λ page. fills t.records (number_at k.current page))
    (λ page. fills k.records (number_at k.current page)) 0 (length k.current)
    (λ page low high. alike page (omega arith))
    ∙ sym (count_places (fills k.records) k.current)
  where
    alike : (page : ℕ) → page < length k.current →
        fills t.records (number_at k.current page) ≡ fills k.records (number_at k.current page)
    alike page within = elim (cases_Option (number_at k.current page)) [
      | inl none ↦ ap (fills t.records) none ∙ sym (ap (fills k.records) none)
      | inr some ↦ ap (fills t.records) some.1
          ∙ ap (λ o. option_map_or (λ (r : Rec). not r.discard) o false) (stays page some.0 within some.1)
          ∙ sym (ap (fills k.records) some.1)
    ]

-- equal tests count alike
pub same_bit : (a b : Bool) → a ≡ b → cond {A = ℕ} a 1 0 ≡ cond {A = ℕ} b 1 0
same_bit a b e = ap (λ (c : Bool). cond {A = ℕ} c 1 0) e

-- a page more or less where one gets another current record
pub set_written : (k : TablesState) (page : ℕ) (to : Option ℕ) → page < length k.current →
    pages_written (record k { current = set k.current page to }) + cond (fills k.records (number_at k.current page)) 1 0
    ≡ pages_written k + cond (fills k.records to) 1 0
set_written k page to within =
    sum_by-set (λ o. cond (fills k.records o) 1 0) k.current page to None within

-- a page that is filled is counted
pub is_counted : (k : TablesState) (page : ℕ) → page < length k.current →
    cond (fills k.records (number_at k.current page)) 1 0 ≤ pages_written k
is_counted k page within = get_or-le-sum_by (λ o. cond (fills k.records o) 1 0) k.current page None within

-- and no more are than there are
pub most_written : (k : TablesState) → pages_written k ≤ length k.current
most_written k = count_by-le-length (fills k.records) k.current

module _ (protocol : Protocol) (its : Config) (m : List ℕ) (k : TablesState) (i : AreIndexed protocol its m k) where
  -- a page is filled where it is not blank
  read_written : (page : ℕ) → page < its.logical →
      fills k.records (number_at k.current page) ≡ is_written (noted_by its m k) page
  read_written page below =
      let n = noted_by its m k in
      elim (cases_Option (number_at k.current page)) [
        | inl none ↦ ap (fills k.records) none
            ∙ sym (ap (λ b. not b && not (discarded_of n page))
            (eq-eqb (current_of n page) 0 (current_none protocol its m k i page below none)))
        | inr some ↦ (
            let o = name_at page (current_of n page) in
            let r = named_some k.records o some.0 (ap (named k.records) (sym some.1) ∙ i.judged.current page below) in
            let positive = (name_at_is page (current_of n page) (name_of r.0) r.2).0 in
            let discard : r.0.discard ≡ discarded_of n page =
            sym (ap (discard_at k) some.1 ∙ ap (λ o. option_map_or (λ (s : Rec). s.discard) o false) r.1)
            ∙ read_discard protocol its m k i page below in
            ap (fills k.records) some.1 ∙ ap (λ o. option_map_or (λ (s : Rec). not s.discard) o false) r.1
            ∙ ap (λ b. not b) discard
            ∙ sym (ap (λ b. not b && not (discarded_of n page))
            (ne_eqb (current_of n page) 0 (λ none. absurd (omega arith)))))
      ]

  -- so as many are filled as are not blank
  pub pages_filled : length k.current ≡ its.logical → pages_written k ≡ written_of (noted_by its m k)
  unfolding written_of
  pages_filled long =
      count_places (fills k.records) k.current
      ∙ ap (λ count. count_by (λ page. fills k.records (number_at k.current page)) (range_with_len 0 count)) long
      ∙ count_range (λ page. fills k.records (number_at k.current page)) (is_written (noted_by its m k)) 0 its.logical
      (λ page low high. read_written page (omega arith))
