-- A page counts exactly where a safe set of pages contains it: from each page of the set the link of its newest record
-- passes, or leads to the newest record of a page of the set. So no other proof speaks of the turns of a walk. And a
-- walk that may look at more links than there are pages ends as it does.
use Rattle.record_list.proofs.Common.{◌≡◌, ℕ, zero, suc, ◌+◌, ◌<◌, ◌≤◌, Bool, true, false, eqb, ◌⊎◌, List, [], ◌∷◌, length, refl, sym, ap, ◌∙◌, subst, inl, inr, arith, if◌then◌else◌, eqb-true, eq-eqb, ne_eqb, lt-ltb, le-ltb, ltb-true, false≢true, cases_lt, cases_eq, and_parts, and_from, Link, Protocol, Found, Cycle, Absent, newest, is_present, is_same, newest_name, link_of, why_below_newest, is_ahead, is_behind, walk, why, is_committed}
use Rattle.std.proofs.Common.{ltb-false}
use Rattle.std.specs.List.{AllByRecursion, IsDistinct}
use Rattle.std.proofs.lemmas.Map.Steps.{length-le_from_distinct_below}
use Rattle.list_lemmas.proofs.Tests.{below_any}
use Rattle.record_list.specs.declared.found.Why.{Why}
use Rattle.record_list.proofs.OfFacts.Names.{same_name, newest_present}

-- the link of the newest record of a page
abbrev pub top_link : List Found → ℕ → Link
top_link l page = link_of l (newest_name l page)

-- no record straddles this name, where the protocol asks
abbrev pub is_clear : Protocol → List Found → Link → Bool
is_clear p l q = is_committed (why_below_newest p l q)

-- a link passes, or leads to the newest record of a page of the set
abbrev pub Goes : Protocol → List Found → (ℕ → Type 0) → Link → Type 0
Goes p l X q = ((q.version < newest l q.page) × (is_clear p l q ≡ true)) ⊎ ((q.version ≡ newest l q.page) × X q.page)

-- a set of pages with records, from each of which the newest record's link goes on
pub record IsSafe (p : Protocol) (l : List Found) (logical : ℕ) (X : ℕ → Type 0) : Type 0 where
  pub written : (page : ℕ) → X page → 0 < newest l page
  pub goes : (page : ℕ) → X page → Goes p l X (top_link l page)

-- what the verdict takes of a list: its pages exist, no version is 0, and two names have two links
pub record IsLinked (l : List Found) (logical : ℕ) : Type 0 where
  pub pages : (u : Link) → is_present l u ≡ true → (u.page < logical) × ((link_of l u).page < logical)
  pub versions : (u : Link) → is_present l u ≡ true → (1 ≤ u.version) × (1 ≤ (link_of l u).version)
  pub once : (u v : Link) → is_present l u ≡ true → is_present l v ≡ true → link_of l u ≡ link_of l v → u ≡ v

-- a page has records and its newest is committed
abbrev pub Counts : Protocol → List Found → ℕ → ℕ → Type 0
Counts p l logical page = (0 < newest l page) × (is_committed (why p l logical page) ≡ true)

-- one turn of a walk over its three tests
turn_says : (a b c : Bool) (w x : Why) → is_committed (if a then Absent else if b then w else if c then Cycle
    else x) ≡ true →
    (a ≡ false) × (((b ≡ true) × (is_committed w ≡ true)) ⊎ ((b ≡ false) × ((c ≡ true) ⊎ (is_committed x ≡ true))))
turn_says true b c w x h = absurd (false≢true h)
turn_says false true c w x h = (refl, inl (refl, h))
turn_says false false true w x h = (refl, inr (refl, inl refl))
turn_says false false false w x h = (refl, inr (refl, inr h))

-- a turn at a link that passes
turn_passes : (a b c : Bool) (w x : Why) → a ≡ false → b ≡ true → is_committed w ≡ true →
    is_committed (if a then Absent else if b then w else if c then Cycle else x) ≡ true
turn_passes true b c w x e f h = absurd (false≢true (sym e))
turn_passes false true c w x e f h = h
turn_passes false false c w x e f h = absurd (false≢true f)

-- a turn at a link to the start
pub turn_closes : (a b c : Bool) (w x : Why) → a ≡ false → b ≡ false → c ≡ true →
    is_committed (if a then Absent else if b then w else if c then Cycle else x) ≡ true
turn_closes true b c w x e f h = absurd (false≢true (sym e))
turn_closes false true c w x e f h = absurd (false≢true (sym f))
turn_closes false false true w x e f h = refl
turn_closes false false false w x e f h = absurd (false≢true h)

-- a turn at a link to another newest record
turn_goes : (a b c : Bool) (w x : Why) → a ≡ false → b ≡ false → is_committed x ≡ true →
    is_committed (if a then Absent else if b then w else if c then Cycle else x) ≡ true
turn_goes true b c w x e f h = absurd (false≢true (sym e))
turn_goes false true c w x e f h = absurd (false≢true (sym f))
turn_goes false false true w x e f h = refl
turn_goes false false false w x e f h = h

-- two turns at one link that go on alike
turn_same : (a b c : Bool) (w x y : Why) → (a ≡ false → b ≡ false → c ≡ false → x ≡ y) →
    (if a then Absent else if b then w else if c then Cycle else x) ≡ (if a then Absent else if b then w else if c
    then Cycle else y)
turn_same true b c w x y h = refl
turn_same false true c w x y h = refl
turn_same false false true w x y h = refl
turn_same false false false w x y h = h refl refl refl

-- the pages from which a walk that began at `start` says yes
abbrev pub Reaches : Protocol → List Found → ℕ → ℕ → Type 0
Reaches p l start page =
    (0 < newest l page) × ((turns : ℕ) × (is_committed (walk p l (newest_name l start) turns (top_link l page)) ≡ true))

module _ (p : Protocol) (l : List Found) (logical : ℕ) (linked : IsLinked l logical) where
  -- the next link from such a page goes on within them
  reaches_on : (start page : ℕ) → Reaches p l start start → 0 < newest l page → (turns : ℕ) →
      is_committed (walk p l (newest_name l start) turns (top_link l page)) ≡ true →
      Goes p l (Reaches p l start) (top_link l page)
  reaches_on start page own has zero h = absurd (false≢true h)
  reaches_on start page own has (suc n) h =
      let q = top_link l page in
      let says = turn_says (is_ahead l q) (is_behind l q) (is_same q (newest_name l start)) (why_below_newest p l q)
      (walk p l (newest_name l start) n (link_of l q)) h in
      elim says.1 [
        | inl passes ↦ inl (ltb-true q.version (newest l q.page) passes.0, passes.1)
        | inr on ↦ (
            let low : newest l q.page ≤ q.version = ltb-false q.version (newest l q.page) on.0 in
            let high : q.version ≤ newest l q.page = ltb-false (newest l q.page) q.version says.0 in
            let at : q.version ≡ newest l q.page = omega arith in
            let positive = (linked.versions (newest_name l page) (newest_present l page has)).1 in
            elim on.1 [
              | inl same ↦ inr (
                at,
                subst (λ x. Reaches p l start x) (sym (eqb-true q.page start
                    (and_parts (eqb q.page start) (eqb q.version (newest l start)) same).0)) own,
              )
              | inr more ↦ inr (
                at,
                (
                  omega arith,
                  (
                    n,
                    subst (λ x. is_committed (walk p l (newest_name l start) n (link_of l x)) ≡ true)
                        (same_name q (newest_name l q.page) refl at) more,
                  ),
                ),
              )
            ])
      ]

  -- the pages that a committed walk comes to are safe
  reaches_safe : (start : ℕ) → Counts p l logical start → IsSafe p l logical (Reaches p l start)
  reaches_safe start own = record {
    written = λ page x. x.0;
    goes = λ page x. reaches_on start page (own.0, (suc logical, own.1)) x.0 x.1.0 x.1.1;
  }

-- the page that this many links lead to, each from the newest record of a page
abbrev trail : List Found → ℕ → ℕ → ℕ
trail l start zero = start
trail l start (suc n) = (top_link l (trail l start n)).page

-- the pages of the trail, the last one first
abbrev trails : List Found → ℕ → ℕ → List ℕ
trails l start zero = start ∷ []
trails l start (suc n) = trail l start (suc n) ∷ trails l start n

-- a trail of newest records that has not come back to its start
record IsTrail (l : List Found) (start n : ℕ) : Type 0 where
  written : (j : ℕ) → j ≤ n → 0 < newest l (trail l start j)
  joined : (j : ℕ) → j < n → top_link l (trail l start j) ≡ newest_name l (trail l start (suc j))
  away : (j : ℕ) → j < n → trail l start (suc j) ≡ start → ⊥

-- a trail of n links has n + 1 pages
trails_length : (l : List Found) (start n : ℕ) → length (trails l start n) ≡ suc n
trails_length l start zero = refl
trails_length l start (suc n) = ap suc (trails_length l start n)

-- what is so of each page of the trail
along_trails : (Q : ℕ → Type 0) (l : List Found) (start n : ℕ) → ((j : ℕ) → j ≤ n → Q (trail l start j)) →
    AllByRecursion Q (trails l start n)
along_trails Q l start zero h = (h zero (omega arith), tt)
along_trails Q l start (suc n) h = (h (suc n) (omega arith), along_trails Q l start n (λ j le. h j (omega arith)))

module _ (l : List Found) (logical : ℕ) (linked : IsLinked l logical) (start : ℕ) where
  -- no page stands twice on such a trail, since two names have two links
  apart : (n : ℕ) → IsTrail l start n → (i j : ℕ) → i < j → j ≤ n → trail l start i ≡ trail l start j → ⊥
  apart n t i zero less le e = absurd (omega arith)
  apart n t zero (suc j) less le e = t.away j (omega arith) (sym e)
  apart n t (suc i) (suc j) less le e =
      let near = newest_present l (trail l start i) (t.written i (omega arith)) in
      let far = newest_present l (trail l start j) (t.written j (omega arith)) in
      let links = t.joined i (omega arith) ∙ ap (newest_name l) e ∙ sym (t.joined j (omega arith)) in
      apart n t i j (omega arith) (omega arith) (ap (λ u. u.page) (linked.once (newest_name l (trail l start i))
      (newest_name l (trail l start j)) near far links))

  -- so its pages are distinct
  distinct : (n m : ℕ) → IsTrail l start n → m ≤ n → IsDistinct eqb (trails l start m)
  unfolding IsDistinct
  distinct n zero t le = (tt, tt)
  distinct n (suc m) t le = (
    along_trails (λ y. eqb (trail l start (suc m)) y ≡ false) l start m
        (λ j lj. ne_eqb (trail l start (suc m)) (trail l start j)
        (λ e. apart n t j (suc m) (omega arith) le (sym e))),
    distinct n m t (omega arith),
  )

  -- a trail that has not come back is no longer than there are pages
  trail_short : (n : ℕ) → IsTrail l start n → suc n ≤ logical
  trail_short n t =
      let len = length-le_from_distinct_below (trails l start n) logical (distinct n n t (omega arith))
      (λ q h. below_any (trails l start n) logical q
      (along_trails (λ x. x < logical) l start n (λ j le. (linked.pages (newest_name l (trail l start j))
      (newest_present l (trail l start j) (t.written j le))).0)) h) in
      let e = trails_length l start n in
      omega arith

  -- one page more on the trail
  longer : (n : ℕ) → IsTrail l start n → 0 < newest l (trail l start (suc n)) →
      top_link l (trail l start n) ≡ newest_name l (trail l start (suc n)) → (trail l start (suc n) ≡ start → ⊥) →
      IsTrail l start (suc n)
  longer n t has e away = record {
    written = λ j le. elim (cases_lt n j) [
      | inl more ↦ (let at : suc n ≡ j = omega arith in subst (λ i. 0 < newest l (trail l start i)) at has)
      | inr less ↦ t.written j less
    ];
    joined = λ j le. elim (cases_lt j n) [
      | inl less ↦ t.joined j less
      | inr more ↦ (let at : n ≡ j = omega arith in
          subst (λ i. top_link l (trail l start i) ≡ newest_name l (trail l start (suc i))) at e)
    ];
    away = λ j le. elim (cases_lt j n) [
      | inl less ↦ t.away j less
      | inr more ↦ (let at : n ≡ j = omega arith in subst (λ i. trail l start (suc i) ≡ start → ⊥) at away)
    ];
  }

  -- a page with records begins one
  begins : 0 < newest l start → IsTrail l start zero
  begins has = record {
    written = λ j le. (let at : zero ≡ j = omega arith in subst (λ i. 0 < newest l (trail l start i)) at has);
    joined = λ j less. absurd (omega arith);
    away = λ j less. absurd (omega arith);
  }

module _ (p : Protocol) (l : List Found) (logical : ℕ) (linked : IsLinked l logical) (start : ℕ) where
  -- walks along a trail that may look at as many links as there are pages end alike
  walk_alike : (few many n : ℕ) → logical ≤ n + few → logical ≤ n + many → IsTrail l start n →
      walk p l (newest_name l start) few (top_link l (trail l start n))
      ≡ walk p l (newest_name l start) many (top_link l (trail l start n))
  walk_alike zero many n enough too t = let short = trail_short l logical linked start n t in absurd (omega arith)
  walk_alike (suc a) zero n enough too t = let short = trail_short l logical linked start n t in absurd (omega arith)
  walk_alike (suc a) (suc b) n enough too t =
      let q = top_link l (trail l start n) in
      let step = walk_alike a b (suc n) (omega arith) (omega arith) in
      let positive = (linked.versions (newest_name l (trail l start n))
      (newest_present l (trail l start n) (t.written n (omega arith)))).1 in
      turn_same (is_ahead l q) (is_behind l q) (is_same q (newest_name l start)) (why_below_newest p l q)
      (walk p l (newest_name l start) a (link_of l q))
      (walk p l (newest_name l start) b (link_of l q)) (λ ahead behind other.
      let high : q.version ≤ newest l q.page = ltb-false (newest l q.page) q.version ahead in
      let low : newest l q.page ≤ q.version = ltb-false q.version (newest l q.page) behind in
      let at : q.version ≡ newest l q.page = omega arith in
      let name : q ≡ newest_name l q.page = same_name q (newest_name l q.page) refl at in
      let away : q.page ≡ start → ⊥ = λ e. false≢true (sym other
      ∙ and_from (eqb q.page start) (eqb q.version (newest l start)) (eq-eqb q.page start e)
      (eq-eqb q.version (newest l start) (at ∙ ap (newest l) e))) in
      subst (λ x. walk p l (newest_name l start) a (link_of l x) ≡ walk p l (newest_name l start) b (link_of l x))
      (sym name)
      (step (longer l logical linked start n t (omega arith) name away)))

module _ (p : Protocol) (l : List Found) (logical : ℕ) (linked : IsLinked l logical) (X : ℕ → Type 0)
    (safe : IsSafe p l logical X) (start : ℕ) where
  -- a walk that stays in a safe set says yes
  safe_walk : (turns n : ℕ) → logical ≤ n + turns → IsTrail l start n → X (trail l start n) →
      is_committed (walk p l (newest_name l start) turns (top_link l (trail l start n))) ≡ true
  safe_walk zero n enough t x = let short = trail_short l logical linked start n t in absurd (omega arith)
  safe_walk (suc m) n enough t x =
      let q = top_link l (trail l start n) in
      let step = safe_walk m (suc n) (omega arith) in
      elim (safe.goes (trail l start n) x) [
        | inl passes ↦ turn_passes (is_ahead l q) (is_behind l q) (is_same q (newest_name l start))
            (why_below_newest p l q)
            (walk p l (newest_name l start) m (link_of l q))
            (le-ltb (newest l q.page) q.version (omega arith)) (lt-ltb q.version (newest l q.page) passes.0) passes.1
        | inr on ↦ (
            let ahead : is_ahead l q ≡ false = le-ltb (newest l q.page) q.version (omega arith) in
            let behind : is_behind l q ≡ false = le-ltb q.version (newest l q.page) (omega arith) in
            let name : q ≡ newest_name l q.page = same_name q (newest_name l q.page) refl on.0 in
            elim (cases_eq q.page start) [
              | inl back ↦ turn_closes (is_ahead l q) (is_behind l q) (is_same q (newest_name l start))
                  (why_below_newest p l q)
                  (walk p l (newest_name l start) m (link_of l q)) ahead behind
                  (and_from (eqb q.page start) (eqb q.version (newest l start)) (eq-eqb q.page start back)
                  (eq-eqb q.version (newest l start) (on.0 ∙ ap (newest l) back)))
              | inr off ↦ turn_goes (is_ahead l q) (is_behind l q) (is_same q (newest_name l start))
                  (why_below_newest p l q)
                  (walk p l (newest_name l start) m (link_of l q)) ahead behind
                  (subst (λ x. is_committed (walk p l (newest_name l start) m (link_of l x)) ≡ true) (sym name)
                  (step (longer l logical linked start n t (safe.written q.page on.1) name off) on.1))
            ])
      ]

module _ (p : Protocol) (l : List Found) (logical : ℕ) (linked : IsLinked l logical) where
  -- each page of a safe set counts
  pub counts_from : (X : ℕ → Type 0) → IsSafe p l logical X → (page : ℕ) → X page → Counts p l logical page
  counts_from X safe page x = (
    safe.written page x,
    safe_walk p l logical linked X safe page (suc logical) zero (omega arith)
        (begins l logical linked page (safe.written page x)) x,
  )

  -- the pages that count are a safe set
  pub counts_safe : IsSafe p l logical (Counts p l logical)
  counts_safe = record {
    written = λ page c. c.0;
    goes = λ page c.
        let safe = reaches_safe p l logical linked page c in
        elim (safe.goes page (c.0, (suc logical, c.1))) [
          | inl passes ↦ inl passes
          | inr on ↦ inr (on.0, counts_from (Reaches p l page) safe (top_link l page).page on.1)
        ];
  }

  -- as many links as there are pages decide the verdict
  pub walk_ends : (page turns : ℕ) → 0 < newest l page → logical ≤ turns →
      walk p l (newest_name l page) turns (top_link l page) ≡ why p l logical page
  walk_ends page turns has enough = walk_alike p l logical linked page turns (suc logical) zero (omega arith)
      (omega arith) (begins l logical linked page has)
