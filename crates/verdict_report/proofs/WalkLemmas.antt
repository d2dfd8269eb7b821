-- A walk, link by link.
use Rattle.verdict_report.proofs.Common.{◌≡◌, ℕ, zero, suc, ◌+◌, ◌<◌, ◌≤◌, min, Bool, true, false, cond, ◌||◌, List, [], ◌∷◌, ◌++◌, length, take, refl, sym, ap, ap₂, ◌∙◌, subst, inl, inr, arith, append-nil, append_assoc, Some, None, cases_Bool, cases_lt, cond-true, cond-false, Link, Protocol, Found, is_same, newest_name, link_of, walk_links, links_of}
use Rattle.std.proofs.Common.{◌-◌, get_or}
use Rattle.std.proofs.lemmas.Bool.{false≢true}
use Rattle.std.proofs.Math.Nat.{min-eq_left, min-eq_right}
use Rattle.record_list.specs.declared.found.Why.TheVariants.{Cycle, Absent}
use Rattle.record_list.specs.Verdict.{why_below_newest, is_ahead, is_behind, walk}
use Rattle.verdict_report.specs.Walks.{is_end, why_by_last_link, IsDecidingWalk}

-- the last of a link and those after it
abbrev last_of : Link → List Link → Link
last_of link [] = link
last_of link (next ∷ links) = last_of next links

last_at : (link : Link) (links : List Link) (none : Link) → get_or (link ∷ links) (length (link ∷ links) - 1) none
    ≡ last_of link links
last_at link [] none = refl
last_at link (next ∷ links) none =
    let e : length (link ∷ next ∷ links) - 1 ≡ suc (length (next ∷ links) - 1) = omega arith in
    ap (λ i. get_or (link ∷ next ∷ links) i none) e ∙ last_at next links none

-- of three answers with a last one, the last does not count where one of the tests holds
one_of : {A : Type 0} (a b c : Bool) (x y z v w : A) → ((a || b) || c) ≡ true →
    cond a x (cond b y (cond c z v)) ≡ cond a x (cond b y (cond c z w))
one_of true b c x y z v w h = refl
one_of false true c x y z v w h = refl
one_of false false true x y z v w h = refl
one_of false false false x y z v w h = absurd (false≢true h)

-- and it alone counts where none holds
none_of : {A : Type 0} (a b c : Bool) (x y z v : A) → ((a || b) || c) ≡ false → cond a x (cond b y (cond c z v)) ≡ v
none_of true b c x y z v h = absurd (false≢true (sym h))
none_of false true c x y z v h = absurd (false≢true (sym h))
none_of false false true x y z v h = absurd (false≢true (sym h))
none_of false false false x y z v h = refl

module _ (list : List Found) (start : Link) where
  -- the links after this one
  abbrev pub after : ℕ → Link → List Link
  after turns link = cond (is_end list start link) [] (walk_links list start turns (link_of list link))

  pub after_end : (turns : ℕ) (link : Link) → is_end list start link ≡ true → after turns link ≡ []
  after_end turns link e = cond-true (is_end list start link) [] (walk_links list start turns (link_of list link)) e

  pub after_more : (turns : ℕ) (link : Link) → is_end list start link ≡ false →
      after turns link ≡ walk_links list start turns (link_of list link)
  after_more turns link e = cond-false (is_end list start link) [] (walk_links list start turns (link_of list link)) e

  pub after_none : (link : Link) → after 0 link ≡ []
  after_none link = elim (cases_Bool (is_end list start link)) [
    | inl e ↦ after_end 0 link e
    | inr e ↦ after_more 0 link e
  ]

  -- what decides is what the last link shows
  walk_shown : (protocol : Protocol) (turns : ℕ) (link : Link) →
      walk protocol list start (suc turns) link ≡ why_by_last_link protocol list start (last_of link (after turns link))
  walk_shown protocol zero link =
      ap (λ links. why_by_last_link protocol list start (last_of link links)) (sym (after_none link))
  walk_shown protocol (suc turns) link = elim (cases_Bool (is_end list start link)) [
    | inl e ↦ one_of (is_ahead list link) (is_behind list link) (is_same link start) Absent
        (why_below_newest protocol list link) Cycle _ Absent e
        ∙ ap (λ links. why_by_last_link protocol list start (last_of link links)) (sym (after_end (suc turns) link e))
    | inr e ↦ none_of (is_ahead list link) (is_behind list link) (is_same link start) Absent
        (why_below_newest protocol list link) Cycle _ e
        ∙ walk_shown protocol turns (link_of list link)
        ∙ ap (λ links. why_by_last_link protocol list start (last_of link links)) (sym (after_more (suc turns) link e))
  ]

  -- the last link is an end where the links are fewer than this many turns give
  last_end : (turns : ℕ) (link : Link) → length (after turns link) < turns →
      is_end list start (last_of link (after turns link)) ≡ true
  last_end zero link few = absurd (omega arith)
  last_end (suc turns) link few = elim (cases_Bool (is_end list start link)) [
    | inl e ↦ subst (λ links. is_end list start (last_of link links) ≡ true) (sym (after_end (suc turns) link e)) e
    | inr e ↦ (let more = after_more (suc turns) link e in
        let fewer : length (after turns (link_of list link)) < turns = (let l = ap length more in omega arith) in
        subst (λ links. is_end list start (last_of link links) ≡ true) (sym more)
        (last_end turns (link_of list link) fewer))
  ]

  length_after : (turns : ℕ) (link : Link) → length (after turns link) ≤ turns
  length_after zero link = let e = ap length (after_none link) in omega arith
  length_after (suc turns) link = elim (cases_Bool (is_end list start link)) [
    | inl e ↦ (let l = ap length (after_end (suc turns) link e) in omega arith)
    | inr e ↦ (let l = ap length (after_more (suc turns) link e) in let ih = length_after turns (link_of list link) in
        omega arith)
  ]

  -- from a link the walk goes on to the next
  abbrev GoesOn : List Link → ℕ → Link → Type 0
  GoesOn links i none =
      (is_end list start (get_or links i none) ≡ false)
      × (get_or links (suc i) none ≡ link_of list (get_or links i none))

  -- with one link more in front
  goes_on_first : (link : Link) (links : List Link) (i : ℕ) (none : Link) → is_end list start link ≡ false →
      ((j : ℕ) → j < length links → GoesOn (link_of list link ∷ links) j none) → i < suc (length links) →
      GoesOn (link ∷ link_of list link ∷ links) i none
  goes_on_first link links zero none e ih h = (e, refl)
  goes_on_first link links (suc i) none e ih h = ih i (omega arith)

  -- from each link but the last it does
  goes_on : (turns : ℕ) (link : Link) (i : ℕ) (none : Link) → i < length (after turns link) →
      GoesOn (link ∷ after turns link) i none
  goes_on zero link i none h = absurd (let e = ap length (after_none link) in omega arith)
  goes_on (suc turns) link i none h = elim (cases_Bool (is_end list start link)) [
    | inl e ↦ absurd (let l = ap length (after_end (suc turns) link e) in omega arith)
    | inr e ↦ (let more = after_more (suc turns) link e in
        let h' : i < suc (length (after turns (link_of list link))) = (let l = ap length more in omega arith) in
        subst (λ links. GoesOn (link ∷ links) i none) (sym more)
        (goes_on_first link (after turns (link_of list link)) i none e
        (λ j k. goes_on turns (link_of list link) j none k) h'))
  ]

-- the walk from the newest record of a page decides the verdict on it
pub walk_decides : (protocol : Protocol) (list : List Found) (logical page : ℕ) →
    IsDecidingWalk protocol list logical page (links_of list logical page)
walk_decides protocol list logical page =
    let start = newest_name list page in
    let link = link_of list start in
    let rest = after list start logical link in
    let bound = length_after list start logical link in
    record {
      first = λ none. refl;
      next = λ i none h. goes_on list start logical link i none (omega arith);
      last = λ none. walk_shown list start protocol logical link
          ∙ ap (why_by_last_link protocol list start) (sym (last_at link rest none));
      whole = λ none few. ap (is_end list start) (last_at link rest none)
          ∙ last_end list start logical link (omega arith);
      bound = (omega arith, omega arith);
    }

-- the first links of a walk are those of one that looks at fewer
pub one_less : (turns n : ℕ) → suc (min turns n) ≡ min (suc turns) (suc n)
one_less turns n = elim (cases_lt turns n) [
  | inl low ↦ (let a = min-eq_left {n = turns} {m = n} (omega arith) in
      let b = min-eq_left {n = suc turns} {m = suc n} (omega arith) in cc)
  | inr high ↦ (let a = min-eq_right {n = n} {m = turns} high in
      let b = min-eq_right {n = suc n} {m = suc turns} (omega arith) in cc)
]

take_after : (list : List Found) (start : Link) (n turns : ℕ) (link : Link) →
    take n (after list start turns link) ≡ after list start (min turns n) link
take_after list start zero turns link =
    sym (ap (λ m. after list start m link) (min-eq_right {n = 0} {m = turns} (omega arith))
    ∙ after_none list start link)
take_after list start (suc n) zero link =
    ap (take (suc n)) (after_none list start link)
    ∙ sym (ap (λ m. after list start m link) (min-eq_left {n = 0} {m = suc n} (omega arith))
    ∙ after_none list start link)
take_after list start (suc n) (suc turns) link =
    elim (cases_Bool (is_end list start link)) [
      | inl e ↦ ap (take (suc n)) (after_end list start (suc turns) link e)
          ∙ sym (after_end list start (suc (min turns n)) link e)
      | inr e ↦ ap (take (suc n)) (after_more list start (suc turns) link e)
          ∙ ap (λ links. link_of list link ∷ links) (take_after list start n turns (link_of list link))
          ∙ sym (after_more list start (suc (min turns n)) link e)
    ]
    ∙ ap (λ m. after list start m link) (one_less turns n)

-- the links that were taken, and those that are still to come
abbrev pub IsTaking : List Found → Link → ℕ → ℕ → List Link → Link → Type 0
IsTaking list start most turn links last =
    links ++ after list start (most - turn) last ≡ walk_links list start (suc most) (link_of list start)

pub taking_first : (list : List Found) (start last : Link) (most : ℕ) → last ≡ link_of list start →
    IsTaking list start most 0 (last ∷ []) last
taking_first list start last most e =
    ap (λ n. last ∷ after list start n last) (let z : most - 0 ≡ most = omega arith in z)
    ∙ ap (walk_links list start (suc most)) e

pub taking_next : (list : List Found) (start : Link) (most turn : ℕ) (links : List Link) (last next : Link) →
    turn < most →
    Some next ≡ cond (is_end list start last) None (Some (link_of list last)) →
    IsTaking list start most turn links last →
    IsTaking list start most (turn + 1) (links ++ next ∷ []) next
taking_next list start most turn links last next more is taking =
    let leads = some_next (is_end list start last) next (link_of list last) is in
    let left : most - turn ≡ suc (most - (turn + 1)) = omega arith in
    append_assoc links (next ∷ []) (after list start (most - (turn + 1)) next)
    ∙ ap (λ rest. links ++ rest) (sym (after_more list start (most - turn) last leads.0
    ∙ ap₂ (λ n link. walk_links list start n link) left (sym leads.1)))
    ∙ taking
  where
    some_next : (b : Bool) (x y : Link) → Some x ≡ cond b None (Some y) → (b ≡ false) × (x ≡ y)
    some_next true x y e = cc
    some_next false x y e = (refl, cc)

-- where no link is to come they are the first of all
taken_all : (list : List Found) (start : Link) (logical turn : ℕ) (links : List Link) (last : Link) →
    after list start (min logical 15 - turn) last ≡ [] → IsTaking list start (min logical 15) turn links last →
    links ≡ take 16 (walk_links list start (suc logical) (link_of list start))
taken_all list start logical turn links last none taking =
    sym (append-nil links) ∙ ap (λ rest. links ++ rest) (sym none) ∙ taking
    ∙ ap (λ rest. link_of list start ∷ rest) (sym (take_after list start 15 logical (link_of list start)))

pub taking_ended : (list : List Found) (start : Link) (logical turn : ℕ) (links : List Link) (last : Link) →
    None ≡ cond (is_end list start last) None (Some (link_of list last)) →
    IsTaking list start (min logical 15) turn links last →
    links ≡ take 16 (walk_links list start (suc logical) (link_of list start))
taking_ended list start logical turn links last is taking =
    taken_all list start logical turn links last
    (after_end list start (min logical 15 - turn) last (none_next (is_end list start last) is)) taking
  where
    none_next : (b : Bool) → None ≡ cond b None (Some (link_of list last)) → b ≡ true
    none_next true e = refl
    none_next false e = cc

pub taking_done : (list : List Found) (start : Link) (logical turn : ℕ) (links : List Link) (last : Link) →
    min logical 15 ≤ turn → IsTaking list start (min logical 15) turn links last →
    links ≡ take 16 (walk_links list start (suc logical) (link_of list start))
taking_done list start logical turn links last most taking =
    let none : min logical 15 - turn ≡ 0 = omega arith in
    taken_all list start logical turn links last
    (ap (λ n. after list start n last) none ∙ after_none list start last) taking

-- the link of the newest record of a page, by the name of that
pub link_of_newest : (list : List Found) (page : ℕ) (start : Link) → start ≡ newest_name list page →
    link_of list (newest_name list page) ≡ link_of list start
link_of_newest list page start e = ap (link_of list) (sym e)
