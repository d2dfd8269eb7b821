-- The pages of changes, in ascending order.
use Rattle.page_keys.proofs.Common.{◌≡◌, ℕ, zero, suc, ◌+◌, ◌<◌, ◌≤◌, Bool, true, false, ◌||◌, cond, if◌then◌else◌, List, [], ◌∷◌, ◌++◌, length, take, drop, get_or, filter, ◌==◌, nat_lt, inl, inr, refl, sym, ap, ◌∙◌, arith, length-append, append_assoc, nat_cmp, Less, Equal, Greater, list_any, range_with_len, cases_lt, nat_tests, drop-cons, take-length, take_more, take-append-drop, list_any-append, is_in, is_touched, pages_of, bucket_of, with_page, Change}
use Rattle.std.specs.BTreeSet.{insert_key}
use Rattle.std.specs.Ordering.{match_ordering}
use Rattle.std.specs.List.{insert}
use Rattle.std.proofs.Math.Seq.{drop-length}
use Rattle.list_lemmas.proofs.Ranges.{filter_taken, filter_passed}

-- a set of pages has one more
pub inserted_page : (page : ℕ) (qs : List ℕ) → insert_key nat_cmp qs page ≡ with_page page qs
inserted_page page [] = refl
inserted_page page (q ∷ qs) =
    by_tests (nat_lt page q) (page == q) (inserted_page page qs)
  where
    by_tests : (less same : Bool) → insert_key nat_cmp qs page ≡ with_page page qs →
        match_ordering (cond less Less (cond same Equal Greater)) (page ∷ q ∷ qs) (q ∷ qs)
        (q ∷ insert_key nat_cmp qs page)
        ≡ cond less (page ∷ q ∷ qs) (cond same (q ∷ qs) (q ∷ with_page page qs))
    by_tests true same later = refl
    by_tests false true later = refl
    by_tests false false later = ap (λ (l : List ℕ). q ∷ l) later

-- a page among others, of which those before a place are below it
module _ (page : ℕ) (qs : List ℕ) (i : ℕ)
    (from : with_page page qs ≡ take i qs ++ with_page page (drop i qs)) where
  module _ (q : ℕ) (within : i < length qs) (is : q ≡ get_or qs i q) where
    here : drop i qs ≡ q ∷ drop (suc i) qs
    here = drop-cons qs i q within ∙ ap (λ k. k ∷ drop (suc i) qs) (sym is)

    at_place : (l : List ℕ) → with_page page (q ∷ drop (suc i) qs) ≡ l → with_page page qs ≡ take i qs ++ l
    at_place l one =
        from ∙ ap (λ (r : List ℕ). take i qs ++ with_page page r) here
        ∙ ap (λ (r : List ℕ). take i qs ++ r) one

    pub page_past : q < page → with_page page qs ≡ take (i + 1) qs ++ with_page page (drop (i + 1) qs)
    page_past below =
        let less : nat_lt page q ≡ false = grind (arith, nat_tests) in
        let same : (page == q) ≡ false = grind (arith, nat_tests) in
        let later : suc i ≡ i + 1 = omega arith in
        at_place (q ∷ with_page page (drop (suc i) qs)) (rw (less, same) refl)
        ∙ ap (λ k. take i qs ++ q ∷ with_page page (drop k qs)) later
        ∙ sym (append_assoc (take i qs) (q ∷ []) (with_page page (drop (i + 1) qs)))
        ∙ ap (λ (l : List ℕ). l ++ with_page page (drop (i + 1) qs))
        (sym (take_more qs i q within ∙ ap (λ k. take i qs ++ k ∷ []) (sym is)))

    pub page_here : q ≡ page → qs ≡ with_page page qs
    page_here found =
        let less : nat_lt page q ≡ false = grind (arith, nat_tests) in
        let same : (page == q) ≡ true = grind (arith, nat_tests) in
        sym (at_place (q ∷ drop (suc i) qs) (rw (less, same) refl)
        ∙ ap (λ (l : List ℕ). take i qs ++ l) (sym here) ∙ take-append-drop i qs)

    pub page_before : page < q → insert qs i page ≡ with_page page qs
    page_before above =
        let less : nat_lt page q ≡ true = grind (arith, nat_tests) in
        sym (at_place (page ∷ q ∷ drop (suc i) qs) (rw less refl)
        ∙ ap (λ (l : List ℕ). take i qs ++ page ∷ l) (sym here))

  pub page_last : length qs ≤ i → i ≤ length qs → qs ++ page ∷ [] ≡ with_page page qs
  page_last least most =
      let end : i ≡ length qs = omega arith in
      sym (from ∙ ap (λ k. take k qs ++ with_page page (drop k qs)) end
      ∙ ap (λ (l : List ℕ). l ++ with_page page (drop (length qs) qs)) (take-length qs)
      ∙ ap (λ (l : List ℕ). qs ++ with_page page l) (drop-length qs))

-- with this page too
abbrev or_page : (ℕ → Bool) → ℕ → ℕ → Bool
or_page t page q = t q || (page == q)

-- a list that begins above a page, or is empty
abbrev AreAbove : ℕ → List ℕ → Type 0
AreAbove page [] = Unit {0}
AreAbove page (q ∷ qs) = page < q

above_filter : (t : ℕ → Bool) (a n page : ℕ) → page < a →
    AreAbove page (filter t (range_with_len a n))
above_filter t a zero page below = tt
above_filter t a (suc n) page below =
    elim (t a) as (λ b. AreAbove page (cond b (a ∷ filter t (range_with_len (a + 1) n))
    (filter t (range_with_len (a + 1) n)))) [
      | true ↦ below
      | false ↦ above_filter t (a + 1) n page (omega arith)
    ]

before_all : (page : ℕ) (qs : List ℕ) → AreAbove page qs → with_page page qs ≡ page ∷ qs
before_all page [] above = refl
before_all page (q ∷ qs) above =
    let less : nat_lt page q ≡ true = grind (arith, nat_tests) in
    rw less refl

or_false : (b : Bool) → (b || false) ≡ b
or_false true = refl
or_false false = refl

-- above a page, it makes no difference
no_difference : (t : ℕ → Bool) (page a n : ℕ) → page < a →
    filter (or_page t page) (range_with_len a n) ≡ filter t (range_with_len a n)
no_difference t page a zero below = refl
no_difference t page a (suc n) below =
    let rest = no_difference t page (a + 1) n (omega arith) in
    let other : (page == a) ≡ false = grind (arith, nat_tests) in
    let head : or_page t page a ≡ t a = rw other (or_false (t a)) in
    rw (head, rest) refl

or_true : (b : Bool) → (b || true) ≡ true
or_true true = refl
or_true false = refl

at_head : (t : ℕ → Bool) (a n : ℕ) (b : Bool) → t a ≡ b →
    a ∷ filter t (range_with_len (a + 1) n)
    ≡ with_page a (cond b (a ∷ filter t (range_with_len (a + 1) n))
    (filter t (range_with_len (a + 1) n)))
at_head t a n true is =
    let less : nat_lt a a ≡ false = grind (arith, nat_tests) in
    let same : (a == a) ≡ true = grind (arith, nat_tests) in
    rw (less, same) refl
at_head t a n false is =
    sym (before_all a (filter t (range_with_len (a + 1) n))
    (above_filter t (a + 1) n a (omega arith)))

past_head : (a page : ℕ) (b : Bool) (qs : List ℕ) → a < page →
    cond b (a ∷ with_page page qs) (with_page page qs)
    ≡ with_page page (cond b (a ∷ qs) qs)
past_head a page true qs below =
    let less : nat_lt page a ≡ false = grind (arith, nat_tests) in
    let same : (page == a) ≡ false = grind (arith, nat_tests) in
    rw (less, same) refl
past_head a page false qs below = refl

-- the numbers of a range that pass, with one more
one_page_more : (t : ℕ → Bool) (page a n : ℕ) → a ≤ page → page < a + n →
    filter (or_page t page) (range_with_len a n) ≡ with_page page (filter t (range_with_len a n))
one_page_more t page a zero least most = absurd (omega arith)
one_page_more t page a (suc n) least most =
    elim (cases_lt a page) [
      | inl below ↦
          let rest = one_page_more t page (a + 1) n (omega arith) (omega arith) in
          let other : (page == a) ≡ false = grind (arith, nat_tests) in
          let head : or_page t page a ≡ t a = rw other (or_false (t a)) in
          rw (head, rest) (past_head a page (t a) (filter t (range_with_len (a + 1) n)) below)
      | inr over ↦
          let same : page ≡ a = omega arith in
          let rest = no_difference t page (a + 1) n (omega arith) in
          let here : (page == a) ≡ true = grind (arith, nat_tests) in
          let head : or_page t page a ≡ true = rw here (or_true (t a)) in
          rw (head, rest, same) (at_head t a n (t a) refl)
    ]

-- no change, no page
pub no_pages : (logical : ℕ) → pages_of logical [] ≡ []
no_pages logical = none 0 logical
  where
    none : (a n : ℕ) → filter (is_touched logical []) (range_with_len a n) ≡ []
    none a zero = refl
    none a (suc n) = none (a + 1) n

-- the pages of one change more
pub pages_more : (logical page : ℕ) (cs : List Change) (i : ℕ) (c : Change) (key : List ℕ) →
    i < length cs → c ≡ get_or cs i c → key ≡ c.key → page ≡ bucket_of logical key →
    page < logical →
    pages_of logical (take (i + 1) cs) ≡ with_page page (pages_of logical (take i cs))
pages_more logical page cs i c key within is read hashed exists =
    let old = is_touched logical (take i cs) in
    let test : (q : ℕ) → is_touched logical (take (i + 1) cs) q ≡ or_page old page q = λ q.
    ap (λ (l : List Change). list_any (λ d. is_in logical q d.key) l)
    (take_more cs i c within ∙ ap (λ (d : Change). take i cs ++ d ∷ []) (sym is))
    ∙ list_any-append (λ d. is_in logical q d.key) (take i cs) (c ∷ [])
    ∙ ap (λ b. old q || b)
    (or_false (is_in logical q c.key)
    ∙ ap (λ k. k == q) (ap (bucket_of logical) (sym read) ∙ sym hashed)) in
    ap (λ (p : ℕ → Bool). filter p (range_with_len 0 logical)) (λ i q. test q i)
    ∙ one_page_more old page 0 logical (omega arith) (omega arith)

few_in_range : (t : ℕ → Bool) (a n : ℕ) → length (filter t (range_with_len a n)) ≤ n
few_in_range t a zero = omega arith
few_in_range t a (suc n) =
    let rest = few_in_range t (a + 1) n in
    elim (t a) as (λ b. length (cond b (a ∷ filter t (range_with_len (a + 1) n))
    (filter t (range_with_len (a + 1) n))) ≤ suc n) [
      | true ↦ omega arith
      | false ↦ omega arith
    ]

-- the pages up to one more
pub counted_more : (t : ℕ → Bool) (page : ℕ) (b : Bool) → t page ≡ b →
    length (filter t (range_with_len 0 (page + 1)))
    ≡ length (filter t (range_with_len 0 page)) + (if b then 1 else 0)
counted_more t page true is =
    ap (length {A = ℕ}) (filter_taken t 0 page page (omega arith) is)
    ∙ length-append (filter t (range_with_len 0 page)) (page ∷ [])
counted_more t page false is =
    let same = ap (length {A = ℕ}) (filter_passed t 0 page page (omega arith) is) in omega (arith, same)

pub few_counted : (t : ℕ → Bool) (n : ℕ) → length (filter t (range_with_len 0 n)) ≤ n
few_counted t n = few_in_range t 0 n

pub few_pages : (logical : ℕ) (cs : List Change) → length (pages_of logical cs) ≤ logical
few_pages logical cs = few_in_range (is_touched logical cs) 0 logical
