-- How many links a walk takes, by the orbit of the place at which it begins.
use Rattle.verdict_report.proofs.Common.{◌≡◌, ℕ, zero, suc, ◌+◌, ◌<◌, ◌≤◌, min, Bool, true, false, Some, None, List, length, refl, sym, ap, ap₂, ◌∙◌, subst, inl, inr, arith, cases_Bool, cases_lt, cond-true, cond-false, Link, Found, newest, is_same, newest_name, walk_links, links_of}
use Rattle.std.proofs.Common.{◌≢◌, if◌then◌else◌, ◌==◌, Option, position}
use Rattle.std.proofs.Common.{eq-eqb, lt-ltb}
use Rattle.std.proofs.Math.Nat.{min-eq_left, min-eq_right}
use Rattle.std.proofs.lemmas.Bool.{cases_eq, cases_order, le-ltb, ne_eqb}
use Rattle.std.proofs.lemmas.List.Quantifiers.{position-Some}
use Rattle.tx_types.specs.declared.config.Protocol.TheVariants.{Scc}
use Rattle.record_list.specs.Records.{has_name, is_present, record_at, nothing}
use Rattle.record_list.proofs.OfFacts.Names.{absent_link, has_name_true}
use Rattle.sorted_records.specs.declared.orbit.Orbit.{Orbit}
use Rattle.sorted_records.specs.declared.orbit.Orbit.TheVariants.{Ends, Round, Aside}
use Rattle.sorted_records.specs.Orbits.{next_of, steps, IsEnd, IsOrbit}
use Rattle.sorted_records.specs.SortedRecords.{place_of, link_graph, IsOrbitOfNewest}
use Rattle.sorted_records.proofs.OfRecords.Steps.{some_or_none, steps_none, steps_stop, steps_more, round_goes_on}
use Rattle.sorted_records.proofs.OfWalk.WalkOrbits.{link_at, absent_at, same_as_itself, next_at, leads, same_place, next_within, end_never}
use Rattle.verdict_report.proofs.WalkLemmas.{one_less}
use Rattle.verdict_report.specs.Walks.{stays_at}

module _ (list : List Found) (start : Link) (first : ℕ)
    (there : position (λ f. has_name start f.rec) list ≡ Some first) where
  abbrev graph : List (Option ℕ)
  graph = link_graph list

  abbrev taken : ℕ → Link → ℕ
  taken turns link = length (walk_links list start turns link)

  -- a link that leads to a place ends the walk where this is its start
  leads_on : (turns : ℕ) (link : Link) (y : ℕ) → place_of list link ≡ Some y →
      taken (suc turns) link ≡ suc (if y == first then 0 else taken turns (record_at list y).next)
  leads_on turns link y at =
      let to = leads Scc list start first there link y at in
      let found = position-Some (λ f. has_name link f.rec) list y nothing to.1 in
      rw (
        le-ltb (newest list link.page) link.version (omega arith),
        le-ltb link.version (newest list link.page) (omega arith),
        same_place Scc list start first there link y to.1,
        link_at list link y found.0 found.1 found.2,
      ) (elim (cases_Bool (y == first)) [
        | inl t ↦ rw t refl
        | inr t ↦ rw t refl
      ])

  -- the start has a record
  not_start : (link : Link) → position (λ f. has_name link f.rec) list ≡ None → is_same link start ≡ false
  not_start link none = elim (cases_Bool (is_same link start)) [
    | inl t ↦ absurd (
        let e : link ≡ start = has_name_true start (record (record_at list first) {
          page = link.page;
          version = link.version;
        }) t in
        let p = ap (λ n. position (λ f. has_name n f.rec) list) e in
        cc)
    | inr f ↦ f
  ]

  -- where a walk stays, no record has the link's name
  nowhere : (link : Link) → place_of list link ≡ None → newest list link.page ≡ link.version →
      position (λ f. has_name link f.rec) list ≡ None
  nowhere link none same =
      sym (cond-true (newest list link.page == link.version) (position (λ f. has_name link f.rec) list) None
      (eq-eqb (newest list link.page) link.version same)) ∙ none

  stays : (turns : ℕ) (link : Link) → newest list link.page ≡ link.version → position (λ f. has_name link f.rec) list
      ≡ None → taken turns link ≡ turns
  stays zero link same none = refl
  stays (suc turns) link same none =
      rw (
        le-ltb (newest list link.page) link.version (omega arith),
        le-ltb link.version (newest list link.page) (omega arith),
        not_start link none,
        absent_link list link (absent_at list link none),
      ) (ap suc (stays turns link same none))

  -- a walk at a link that leads to no place
  at_last : (turns : ℕ) (link : Link) → place_of list link ≡ None →
      taken turns link ≡ (if stays_at list link then turns else min turns 1)
  at_last zero link none = elim (cases_Bool (stays_at list link)) [
    | inl t ↦ rw t refl
    | inr t ↦ rw t refl
  ]
  at_last (suc turns) link none = elim (cases_order (newest list link.page) link.version) [
    | inl same ↦ (
        let at = nowhere link none same in
        let absent : is_present list (newest_name list link.page) ≡ false =
        ap (λ v. is_present list (record { page = link.page; version = v })) same ∙ absent_at list link at in
        let yes : stays_at list link ≡ true = rw (
          eq-eqb link.version (newest list link.page) (sym same),
          absent,
        ) refl in
        stays (suc turns) link same at ∙ sym (cond-true (stays_at list link) (suc turns) (min (suc turns) 1) yes))
    | inr (inl ahead) ↦ (
        let no : stays_at list link ≡ false = rw (ne_eqb link.version (newest list link.page) (omega arith)) refl in
        rw (no, lt-ltb (newest list link.page) link.version ahead)
        (sym (min-eq_right {n = 1} {m = suc turns} (omega arith))))
    | inr (inr behind) ↦ (
        let no : stays_at list link ≡ false = rw (ne_eqb link.version (newest list link.page) (omega arith)) refl in
        rw (
          no,
          le-ltb (newest list link.page) link.version (omega arith),
          lt-ltb link.version (newest list link.page) behind,
        )
        (sym (min-eq_right {n = 1} {m = suc turns} (omega arith))))
  ]

  step_on : (turns x y : ℕ) → x < length list → next_of graph x ≡ Some y → y ≢ first →
      taken (suc turns) (record_at list x).next ≡ suc (taken turns (record_at list y).next)
  step_on turns x y within next other =
      leads_on turns (record_at list x).next y (next_within Scc list start first there x y within next).0
      ∙ ap suc (cond-false (y == first) 0 (taken turns (record_at list y).next) (ne_eqb y first other))

  none_taken : (b : Bool) (n : ℕ) → 0 ≡ (if b then 0 else min 0 n)
  none_taken true n = refl
  none_taken false n = sym (min-eq_left {n = 0} {m = n} (omega arith))

  -- one link more
  one_more : (b : Bool) (turns n : ℕ) → suc (if b then turns else min turns n)
      ≡ (if b then suc turns else min (suc turns) (suc n))
  one_more true turns n = refl
  one_more false turns n = one_less turns n

  pub to_end : (turns x after at : ℕ) → x < length list → IsEnd graph x after at →
      ((k : ℕ) → 0 < k → steps graph k x ≢ Some first) →
      taken turns (record_at list x).next ≡ (if stays_at list (record_at list at).next then turns
      else min turns (suc after))
  to_end turns x zero at within end never =
      let here = end.leads in
      let z = steps_none graph x in
      let same : x ≡ at = cc in
      let last : place_of list (record_at list x).next ≡ None =
      sym (next_at Scc list start first there x within) ∙ ap (next_of graph) same ∙ end.last in
      at_last turns (record_at list x).next last
      ∙ ap (λ n. if stays_at list (record_at list n).next then turns else min turns 1) same
  to_end zero x (suc after) at within end never = none_taken (stays_at list (record_at list at).next) (suc (suc after))
  to_end (suc turns) x (suc after) at within end never = elim (some_or_none (next_of graph x)) [
    | inl none ↦ absurd (let e = steps_stop graph after x none in let f = end.leads in cc)
    | inr some ↦ (
        let (y, next) = some in
        step_on turns x y within next (λ e. never 1 (omega arith) (steps_more graph 0 x y next
        ∙ steps_none graph y ∙ ap Some e))
        ∙ ap suc (to_end turns y after at (next_within Scc list start first there x y within next).1
        record { leads = sym (steps_more graph after x y next) ∙ end.leads; last = end.last }
        (λ k more e. never (suc k) (omega arith) (steps_more graph k x y next ∙ e)))
        ∙ one_more (stays_at list (record_at list at).next) turns (suc after))
  ]

  pub to_none : (turns x : ℕ) → x < length list → ((k : ℕ) → k ≤ turns → steps graph k x ≢ None) →
      ((k : ℕ) → 0 < k → k < turns → steps graph k x ≢ Some first) → taken turns (record_at list x).next ≡ turns
  to_none zero x within on never = refl
  to_none (suc turns) x within on never = elim (some_or_none (next_of graph x)) [
    | inl none ↦ absurd (on 1 (omega arith) (steps_stop graph 0 x none))
    | inr some ↦ (
        let (y, next) = some in
        elim (cases_eq turns 0) [
          | inl last ↦ (rw last (leads_on 0 (record_at list x).next y
              (next_within Scc list start first there x y within next).0
              ∙ ap suc (no_turn (y == first) y)))
          | inr other ↦ step_on turns x y within next
              (λ e. never 1 (omega arith) (omega arith) (steps_more graph 0 x y next ∙ steps_none graph y ∙ ap Some e))
              ∙ ap suc (to_none turns y (next_within Scc list start first there x y within next).1
              (λ k low e. on (suc k) (omega arith) (steps_more graph k x y next ∙ e))
              (λ k some low e. never (suc k) (omega arith) (omega arith) (steps_more graph k x y next ∙ e)))
        ])
  ]
    where
      no_turn : (b : Bool) (y : ℕ) → (if b then 0 else taken 0 (record_at list y).next) ≡ 0
      no_turn true y = refl
      no_turn false y = refl

  pub to_start : (turns x n : ℕ) → x < length list → 0 < n → steps graph n x ≡ Some first →
      ((k : ℕ) → 0 < k → k < n → steps graph k x ≢ Some first) → n ≤ turns → taken turns (record_at list x).next ≡ n
  to_start turns x zero within some back never few = absurd (omega arith)
  to_start zero x (suc n) within some back never few = absurd (omega arith)
  to_start (suc turns) x (suc n) within some back never few = elim (some_or_none (next_of graph x)) [
    | inl none ↦ absurd (let e = steps_stop graph n x none in cc)
    | inr some_next ↦ (
        let (y, next) = some_next in
        let rest = sym (steps_more graph n x y next) ∙ back in
        elim (cases_eq n 0) [
          | inl last ↦ (
              let home : y ≡ first = home_now n y last rest in
              leads_on turns (record_at list x).next y (next_within Scc list start first there x y within next).0
              ∙ ap suc (cond-true (y == first) 0 (taken turns (record_at list y).next) (eq-eqb y first home)
              ∙ sym last))
          | inr other ↦ step_on turns x y within next
              (λ e. never 1 (omega arith) (omega arith) (steps_more graph 0 x y next ∙ steps_none graph y ∙ ap Some e))
              ∙ ap suc (to_start turns y n (next_within Scc list start first there x y within next).1 (omega arith) rest
              (λ k more low e. never (suc k) (omega arith) (omega arith) (steps_more graph k x y next ∙ e))
              (omega arith))
        ])
  ]
    where
      home_now : (n y : ℕ) → n ≡ 0 → steps graph n y ≡ Some first → y ≡ first
      home_now zero y e back = let z = steps_none graph y in cc
      home_now (suc n) y e back = absurd (omega arith)

-- how many links a walk looks at that may look at this many, from the orbit of the place at which it begins
abbrev pub length_by : List Found → ℕ → Orbit → ℕ
length_by list most (Ends after at) = if stays_at list (record_at list at).next then most else min most (suc after)
length_by list most (Round turns) = min most turns
length_by list most Aside = most

-- the number of links of a walk from a record
counted : (list : List Found) (start : Link) (first turns : ℕ) (o : Orbit) → position (λ f. has_name start f.rec) list
    ≡ Some first → first < length list →
    IsOrbit (link_graph list) first o → length (walk_links list start turns (record_at list first).next)
    ≡ length_by list turns o
counted list start first turns (Ends after at) there within end =
    to_end list start first there turns first after at within end (end_never (link_graph list) first after at end)
counted list start first turns (Round n) there within round = elim (cases_lt turns n) [
  | inl far ↦ to_none list start first there turns first within
      (λ k low. round_goes_on (link_graph list) first n round k) (λ k some low. round.first k some (omega arith))
      ∙ sym (min-eq_left {n = turns} {m = n} (omega arith))
  | inr near ↦ to_start list start first there turns first n within round.some round.back round.first near
      ∙ sym (min-eq_right {n = n} {m = turns} near)
]
counted list start first turns Aside there within aside =
    to_none list start first there turns first within (λ k low. aside.goes_on k) (λ k some low. aside.never_back k some)

-- that of the walk from the newest record of a page
pub walk_length : (list : List Found) (logical page : ℕ) (orbit : Orbit) → IsOrbitOfNewest list page (Some orbit) →
    length (links_of list logical page) ≡ length_by list (suc logical) orbit
walk_length list logical page orbit (first, there, is) =
    let start = newest_name list page in
    let found = position-Some (λ f. has_name start f.rec) list first nothing there in
    ap (λ link. length (walk_links list start (suc logical) link)) (link_at list start first found.0 found.1 found.2)
    ∙ counted list start first (suc logical) orbit there found.0 is

-- where the page has no record it is that of one link, to its start
pub walk_alone : (list : List Found) (logical page : ℕ) → IsOrbitOfNewest list page None →
    length (links_of list logical page) ≡ 1
walk_alone list logical page none =
    rw (
      absent_link list (newest_name list page) (absent_at list (newest_name list page) none),
      le-ltb (newest list page) (newest list page) (omega arith),
      same_as_itself (newest_name list page) (newest_name list page) refl,
    ) refl

-- it may stay at its last link, or stop there
pub walk_stays : (list : List Found) (logical page after at : ℕ) → IsOrbitOfNewest list page (Some (Ends after at)) →
    stays_at list (record_at list at).next ≡ true → length (links_of list logical page) ≡ suc logical
walk_stays list logical page after at orbit stays =
    walk_length list logical page (Ends after at) orbit
    ∙ cond-true _ (suc logical) (min (suc logical) (suc after)) stays

pub walk_stops : (list : List Found) (logical page after at : ℕ) → IsOrbitOfNewest list page (Some (Ends after at)) →
    stays_at list (record_at list at).next ≡ false → length (links_of list logical page) ≡ min (suc logical) (suc after)
walk_stops list logical page after at orbit stops =
    walk_length list logical page (Ends after at) orbit
    ∙ cond-false _ (suc logical) (min (suc logical) (suc after)) stops

-- the counts of links, as they are computed
pub counted_most : (most logical n : ℕ) → most ≡ logical → n ≡ suc logical → most + 1 ≡ n
counted_most most logical n m e = omega arith

pub counted_least : (most logical fewer less result n : ℕ) → most ≡ logical → fewer ≡ less →
    result ≡ min (most + 1) fewer → n ≡ min (suc logical) less →
    result ≡ n
counted_least most logical fewer less result n m f is e =
    let bound : most + 1 ≡ suc logical = omega arith in is ∙ ap₂ min bound f ∙ sym e

pub orbit_is : (list : List Found) (page : ℕ) {a b : Orbit} → a ≡ b → IsOrbitOfNewest list page (Some a) →
    IsOrbitOfNewest list page (Some b)
orbit_is list page same orbit = subst (λ o. IsOrbitOfNewest list page (Some o)) same orbit
