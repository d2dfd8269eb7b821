-- Walks along the links of newest records are orbits of the graph of their places.
use Rattle.sorted_records.proofs.Common.{◌≡◌, ◌≢◌, ℕ, zero, suc, ◌+◌, ◌<◌, ◌≤◌, Bool, true, false, ◌==◌, nat_lt, leb, not, Option, Some, None, IfSome, List, [], ◌∷◌, length, get_or, position, map, refl, sym, ap, ap₂, ◌∙◌, inl, inr, arith, eqb-true, eq-eqb, ne_eqb, lt-ltb, le-ltb, list_any, false≢true, cases_Bool, cases_lt, cases_eq, cases_order, cond-true, cond-false, position-Some, Link, Found, newest, name_of, has_name, is_present, is_same, record_at, nothing, link_of, has_name_true, Orbit, Ends, Round, Aside, IsGraph, next_of, steps, IsEnd, IsOrbit, link_graph, name_graph}
use Rattle.std.proofs.Common.{◌||◌}
use Rattle.std.proofs.Common.{if◌then◌else◌}
use Rattle.std.specs.Prelude.{is_some}
use Rattle.std.specs.List.{position_or_len}
use Rattle.std.proofs.lemmas.Bool.{ltb-false, le-leb, lt-leb}
use Rattle.std.proofs.lemmas.List.{get_or-map, length-map}
use Rattle.std.proofs.lemmas.List.Elements.{All-map, Contains-get_or}
use Rattle.list_lemmas.proofs.Tests.{any_from}
use Rattle.tx_types.specs.declared.config.Protocol.{Protocol}
use Rattle.record_list.specs.declared.found.Why.TheVariants.{Cycle, Absent}
use Rattle.record_list.specs.Verdict.{newest_name, back_of, walk, why}
use Rattle.record_list.proofs.OfFacts.Names.{absent_link, absent_back, has_own_name}
use Rattle.sorted_records.specs.Orbits.{AreOrbits}
use Rattle.sorted_records.specs.SortedRecords.{newest_target, place_of, ending, why_from_orbit, EndsBelow, IsOrbitOfNewest}
use Rattle.sorted_records.proofs.OfRecords.Steps.{some_or_none, steps_none, steps_stop, steps_more, steps_add, steps_before, steps_stay, end_stops, round_goes_on}

-- the link and the back version of the first record that has a name
pub link_at : (l : List Found) (name : Link) (i : ℕ) → i < length l → has_name name (record_at l i) ≡ true →
    ((k : ℕ) → k < i → has_name name (record_at l k) ≡ false) → link_of l name ≡ (record_at l i).next
link_at [] name i within has before = absurd (omega arith)
link_at (f ∷ fs) name zero within has before = cond-true (has_name name f.rec) f.rec.next (link_of fs name) has
link_at (f ∷ fs) name (suc i) within has before =
    cond-false (has_name name f.rec) f.rec.next (link_of fs name) (before 0 (omega arith))
    ∙ link_at fs name i (omega arith) has (λ k low. before (suc k) (omega arith))

pub back_at : (l : List Found) (name : Link) (i : ℕ) → i < length l → has_name name (record_at l i) ≡ true →
    ((k : ℕ) → k < i → has_name name (record_at l k) ≡ false) → back_of l name ≡ (record_at l i).back
back_at [] name i within has before = absurd (omega arith)
back_at (f ∷ fs) name zero within has before = cond-true (has_name name f.rec) f.rec.back (back_of fs name) has
back_at (f ∷ fs) name (suc i) within has before =
    cond-false (has_name name f.rec) f.rec.back (back_of fs name) (before 0 (omega arith))
    ∙ back_at fs name i (omega arith) has (λ k low. before (suc k) (omega arith))

-- where no item is at hand that passes, none does
none_pass : {X : Type 0} (p : X → Bool) (xs : List X) → length xs ≤ position_or_len p xs → list_any p xs ≡ false
none_pass p [] far = refl
none_pass p (x ∷ xs) far = elim (cases_Bool (p x)) [
  | inl t ↦ absurd (let e = cond-false (not (p x)) (1 + position_or_len p xs) 0 (ap not t) in omega arith)
  | inr t ↦ (let e = cond-true (not (p x)) (1 + position_or_len p xs) 0 (ap not t) in
      ap (λ b. b || list_any p xs) t ∙ none_pass p xs (omega arith))
]

pub absent_at : (l : List Found) (name : Link) → position (λ f. has_name name f.rec) l ≡ None →
    is_present l name ≡ false
absent_at l name none = elim (cases_Bool (nat_lt (position_or_len (λ f. has_name name f.rec) l) (length l))) [
  | inl t ↦ absurd (let e = cond-true _ (Some (position_or_len (λ f. has_name name f.rec) l)) None t in cc)
  | inr t ↦ none_pass (λ f. has_name name f.rec) l
      (ltb-false (position_or_len (λ f. has_name name f.rec) l) (length l) t)
]

-- the name of a record is at hand
pub own_place : (l : List Found) (at : ℕ) → at < length l →
    position (λ f. has_name (name_of (record_at l at)) f.rec) l ≡ None → ⊥
own_place l at within none =
    let name = name_of (record_at l at) in
    false≢true (sym (absent_at l name none)
    ∙ any_from (λ f. has_name name f.rec) l (get_or l at nothing) (Contains-get_or l at nothing within)
    (has_own_name name (record_at l at) refl))

-- whether some record has a name, by whether one was found
pub present_found : (l : List Found) (name : Link) (o : Option ℕ) → o ≡ position (λ f. has_name name f.rec) l →
    is_some o ≡ is_present l name
present_found l name None at = sym (absent_at l name (sym at))
present_found l name (Some i) at =
    let found = position-Some (λ f. has_name name f.rec) l i nothing (sym at) in
    sym (any_from (λ f. has_name name f.rec) l (get_or l i nothing) (Contains-get_or l i nothing found.0) found.1)

-- a link leads to a place within the list
place_within : (l : List Found) (link : Link) (j : ℕ) → place_of l link ≡ Some j → j < length l
place_within l link j at = elim (cases_Bool (newest l link.page == link.version)) [
  | inl t ↦ (position-Some (λ f. has_name link f.rec) l j nothing
      (sym (cond-true (newest l link.page == link.version) (position (λ f. has_name link f.rec) l) None t) ∙ at)).0
  | inr t ↦ absurd (let e = cond-false (newest l link.page == link.version)
      (position (λ f. has_name link f.rec) l) None t in cc)
]

-- the place that a link names, where this is the newest, is that to which it leads
kept_place : (l : List Found) (link : Link) (o : Option ℕ) → position (λ f. has_name link f.rec) l ≡ o →
    newest_target l o ≡ place_of l link
kept_place l link None at = elim (cases_Bool (newest l link.page == link.version)) [
  | inl t ↦ sym (cond-true (newest l link.page == link.version) (position (λ f. has_name link f.rec) l) None t ∙ at)
  | inr t ↦ sym (cond-false (newest l link.page == link.version) (position (λ f. has_name link f.rec) l) None t)
]
kept_place l link (Some i) at =
    let found = position-Some (λ f. has_name link f.rec) l i nothing at in
    let named : name_of (record_at l i) ≡ link = has_name_true link (record_at l i) found.1 in
    rw (at, lt-ltb i (length l) found.0) (ap (λ (n : Link). if newest l n.page == n.version then Some i
    else None) named)

pub map_alike : {X Y Z : Type 0} (h : Y → Z) (f : X → Y) (g : X → Z) (xs : List X) → ((x : X) → h (f x) ≡ g x) →
    map h (map f xs) ≡ map g xs
map_alike h f g [] same = refl
map_alike h f g (x ∷ xs) same = ap₂ (λ y ys. y ∷ ys) (same x) (map_alike h f g xs same)

pub kept_links : (l : List Found) → map (newest_target l) (name_graph l) ≡ link_graph l
kept_links l = map_alike (newest_target l) (λ f. position (λ g. has_name f.rec.next g.rec) l)
    (λ f. place_of l f.rec.next) l
    (λ f. kept_place l f.rec.next (position (λ g. has_name f.rec.next g.rec) l) refl)

pub link_found : (l : List Found) (name : Link) (i : ℕ) → Some i ≡ position (λ f. has_name name f.rec) l →
    (record_at l i).next ≡ link_of l name
link_found l name i at =
    let found = position-Some (λ f. has_name name f.rec) l i nothing (sym at) in
    sym (link_at l name i found.0 found.1 found.2)

pub back_found : (l : List Found) (name : Link) (i : ℕ) → Some i ≡ position (λ f. has_name name f.rec) l →
    (record_at l i).back ≡ back_of l name
back_found l name i at =
    let found = position-Some (λ f. has_name name f.rec) l i nothing (sym at) in
    sym (back_at l name i found.0 found.1 found.2)

pub link_nowhere : (l : List Found) (name : Link) → None ≡ position (λ f. has_name name f.rec) l → name ≡ link_of l name
link_nowhere l name at = sym (absent_link l name (absent_at l name (sym at)))

pub back_nowhere : (l : List Found) (name : Link) → None ≡ position (λ f. has_name name f.rec) l → 0 ≡ back_of l name
back_nowhere l name at = sym (absent_back l name (absent_at l name (sym at)))

pub same_as_itself : (a b : Link) → a ≡ b → is_same a b ≡ true
same_as_itself a b e = rw (
  eq-eqb a.page b.page (ap (λ n. n.page) e),
  eq-eqb a.version b.version (ap (λ n. n.version) e),
) refl

module _ (protocol : Protocol) (list : List Found) (start : Link) (first : ℕ)
    (there : position (λ f. has_name start f.rec) list ≡ Some first) where
  abbrev pub graph : List (Option ℕ)
  graph = link_graph list

  pub next_at : (x : ℕ) → x < length list → next_of graph x ≡ place_of list (record_at list x).next
  next_at x within = get_or-map (λ f. place_of list f.rec.next) list x nothing None within

  start_name : name_of (record_at list first) ≡ start
  start_name = has_name_true start (record_at list first)
      (position-Some (λ f. has_name start f.rec) list first nothing there).1

  -- a link that leads to a place is to the newest version, and the walk goes on with the record there
  pub leads : (link : Link) (y : ℕ) → place_of list link ≡ Some y →
      (newest list link.page ≡ link.version) × (position (λ f. has_name link f.rec) list ≡ Some y)
  leads link y at = elim (cases_Bool (newest list link.page == link.version)) [
    | inl t ↦ (
      eqb-true (newest list link.page) link.version t,
      sym (cond-true (newest list link.page == link.version) (position (λ f. has_name link f.rec) list) None t) ∙ at,
    )
    | inr t ↦ absurd (let e = cond-false (newest list link.page == link.version)
        (position (λ f. has_name link f.rec) list) None t in cc)
  ]

  pub same_place : (link : Link) (y : ℕ) → position (λ f. has_name link f.rec) list ≡ Some y →
      is_same link start ≡ (y == first)
  same_place link y at = elim (cases_Bool (is_same link start)) [
    | inl t ↦ (
        let e : link ≡ start = has_name_true start (record (record_at list first) {
          page = link.page;
          version = link.version;
        }) t in
        let p = ap (λ n. position (λ f. has_name n f.rec) list) e in
        let same : y ≡ first = cc in
        t ∙ sym (eq-eqb y first same))
    | inr t ↦ (t ∙ sym (ne_eqb y first (λ same.
        let has = has_name_true link (record_at list y)
        (position-Some (λ f. has_name link f.rec) list y nothing at).1 in
        let e : link ≡ start = sym has ∙ ap (λ n. name_of (record_at list n)) same ∙ start_name in
        let yes = same_as_itself link start e in
        cc)))
  ]

  -- where a link leads to a place, the walk goes on from there, and comes round at its start
  walk_on : (turns : ℕ) (link : Link) (y : ℕ) → place_of list link ≡ Some y →
      walk protocol list start (suc turns) link ≡ (if y == first then Cycle
      else walk protocol list start turns (record_at list y).next)
  walk_on turns link y at =
      let to = leads link y at in
      let found = position-Some (λ f. has_name link f.rec) list y nothing to.1 in
      rw (
        le-ltb (newest list link.page) link.version (omega arith),
        le-ltb link.version (newest list link.page) (omega arith),
        same_place link y to.1,
        link_at list link y found.0 found.1 found.2,
      ) refl

  -- a link to the newest version of its page that no record has is the last one that the walk looks at
  stuck : (turns : ℕ) (link : Link) → newest list link.page ≡ link.version →
      position (λ f. has_name link f.rec) list ≡ None →
      walk protocol list start turns link ≡ Absent
  stuck zero link new none = refl
  stuck (suc turns) link new none =
      let other : is_same link start ≡ false = elim (cases_Bool (is_same link start)) [
        | inl t ↦ absurd (
            let e : link ≡ start = has_name_true start (record (record_at list first) {
              page = link.page;
              version = link.version;
            }) t in
            let p = ap (λ n. position (λ f. has_name n f.rec) list) e in
            cc)
        | inr f ↦ f
      ] in
      rw (
        le-ltb (newest list link.page) link.version (omega arith),
        le-ltb link.version (newest list link.page) (omega arith),
        other,
        absent_link list link (absent_at list link none),
      ) (stuck turns link new none)

  -- where it leads to none the walk ends
  walk_ends : (turns : ℕ) (link : Link) → place_of list link ≡ None → walk protocol list start (suc turns) link
      ≡ ending protocol list link
  walk_ends turns link none = elim (cases_order (newest list link.page) link.version) [
    | inl same ↦ (
        let nowhere = sym (cond-true (newest list link.page == link.version)
        (position (λ f. has_name link f.rec) list) None
        (eq-eqb (newest list link.page) link.version same)) ∙ none in
        stuck (suc turns) link same nowhere
        ∙ sym (rw (
          le-ltb (newest list link.page) link.version (omega arith),
          le-ltb link.version (newest list link.page) (omega arith),
        ) refl))
    | inr (inl ahead) ↦ rw (lt-ltb (newest list link.page) link.version ahead) refl
    | inr (inr behind) ↦ rw (
      le-ltb (newest list link.page) link.version (omega arith),
      lt-ltb link.version (newest list link.page) behind,
    ) refl
  ]

  -- the place after one, and that it is one
  pub next_within : (x y : ℕ) → x < length list → next_of graph x ≡ Some y →
      (place_of list (record_at list x).next ≡ Some y) × (y < length list)
  next_within x y within next =
      let at = sym (next_at x within) ∙ next in
      let to = leads (record_at list x).next y at in
      (at, (position-Some (λ f. has_name (record_at list x).next f.rec) list y nothing to.1).0)

  step_on : (turns x y : ℕ) → x < length list → next_of graph x ≡ Some y → y ≢ first →
      walk protocol list start (suc turns) (record_at list x).next
      ≡ walk protocol list start turns (record_at list y).next
  step_on turns x y within next other =
      walk_on turns (record_at list x).next y (next_within x y within next).0
      ∙ cond-false (y == first) Cycle (walk protocol list start turns (record_at list y).next) (ne_eqb y first other)

  -- a walk to an end
  pub to_end : (turns x after at : ℕ) → x < length list → IsEnd graph x after at →
      ((k : ℕ) → 0 < k → steps graph k x ≢ Some first) → after < turns →
      walk protocol list start turns (record_at list x).next ≡ ending protocol list (record_at list at).next
  to_end zero x after at within end never few = absurd (omega arith)
  to_end (suc turns) x zero at within end never few =
      let here = end.leads in
      let z = steps_none graph x in
      let same : x ≡ at = cc in
      let last : place_of list (record_at list x).next ≡ None = sym (next_at x within)
      ∙ ap (next_of graph) same ∙ end.last in
      walk_ends turns (record_at list x).next last ∙ ap (λ n. ending protocol list (record_at list n).next) same
  to_end (suc turns) x (suc after) at within end never few = elim (some_or_none (next_of graph x)) [
    | inl none ↦ absurd (let e = steps_stop graph after x none in let f = end.leads in cc)
    | inr some ↦ (
        let (y, next) = some in
        step_on turns x y within next (λ e. never 1 (omega arith) (steps_more graph 0 x y next
        ∙ steps_none graph y ∙ ap Some e))
        ∙ to_end turns y after at (next_within x y within next).1
        record { leads = sym (steps_more graph after x y next) ∙ end.leads; last = end.last }
        (λ k more e. never (suc k) (omega arith) (steps_more graph k x y next ∙ e)) (omega arith))
  ]

  -- a walk that is given up
  pub to_none : (turns x : ℕ) → x < length list → ((k : ℕ) → k ≤ turns → steps graph k x ≢ None) →
      ((k : ℕ) → 0 < k → k ≤ turns → steps graph k x ≢ Some first) →
      walk protocol list start turns (record_at list x).next ≡ Absent
  to_none zero x within on never = refl
  to_none (suc turns) x within on never = elim (some_or_none (next_of graph x)) [
    | inl none ↦ absurd (on 1 (omega arith) (steps_stop graph 0 x none))
    | inr some ↦ (
        let (y, next) = some in
        step_on turns x y within next (λ e. never 1 (omega arith) (omega arith) (steps_more graph 0 x y next
        ∙ steps_none graph y ∙ ap Some e))
        ∙ to_none turns y (next_within x y within next).1
        (λ k low e. on (suc k) (omega arith) (steps_more graph k x y next ∙ e))
        (λ k some low e. never (suc k) (omega arith) (omega arith) (steps_more graph k x y next ∙ e)))
  ]

  -- a walk that comes round
  pub to_start : (turns x n : ℕ) → x < length list → 0 < n → steps graph n x ≡ Some first →
      ((k : ℕ) → 0 < k → k < n → steps graph k x ≢ Some first) → n ≤ turns →
      walk protocol list start turns (record_at list x).next ≡ Cycle
  to_start turns x zero within some back never few = absurd (omega arith)
  to_start zero x (suc n) within some back never few = absurd (omega arith)
  to_start (suc turns) x (suc n) within some back never few = elim (some_or_none (next_of graph x)) [
    | inl none ↦ absurd (let e = steps_stop graph n x none in cc)
    | inr some_next ↦ (
        let (y, next) = some_next in
        let rest = sym (steps_more graph n x y next) ∙ back in
        elim (cases_eq y first) [
          | inl home ↦ walk_on turns (record_at list x).next y (next_within x y within next).0
              ∙ cond-true (y == first) Cycle (walk protocol list start turns (record_at list y).next)
              (eq-eqb y first home)
          | inr other ↦ step_on turns x y within next other
              ∙ to_start turns y n (next_within x y within next).1 (positive n rest other) rest
              (λ k more low e. never (suc k) (omega arith) (omega arith) (steps_more graph k x y next ∙ e))
              (omega arith)
        ])
  ]
    where
      positive : (n : ℕ) → {y : ℕ} → steps graph n y ≡ Some first → y ≢ first → 0 < n
      positive zero {y} leads_home other = absurd (let z = steps_none graph y in other cc)
      positive (suc n) leads_home other = omega arith

-- what follows a place is a place
pub link_graph_is : (l : List Found) → IsGraph (link_graph l)
link_graph_is l =
    All-map (λ o. IfSome o (λ j. j < length (link_graph l))) (λ f. place_of l f.rec.next) l
    (λ k d within. let size = length-map l (λ f. place_of l f.rec.next) in
    some_within (place_of l (get_or l k d).rec.next) (λ j e. let w = place_within l (get_or l k d).rec.next j e in
    omega arith))
  where
    some_within : (o : Option ℕ) → ((j : ℕ) → o ≡ Some j → j < length (link_graph l)) →
        IfSome o (λ j. j < length (link_graph l))
    some_within None all = tt
    some_within (Some j) all = all j refl

-- an end is not come back to
pub end_never : (graph : List (Option ℕ)) (x after at : ℕ) → IsEnd graph x after at → (k : ℕ) → 0 < k →
    steps graph k x ≢ Some x
end_never graph x after at end k some back =
    let e = steps_add graph k after (k + after) x x refl back ∙ end.leads in
    let f = end_stops graph x after at (k + after) end (omega arith) in
    cc

-- what decides the verdict on the newest record of a page, from the orbit of its place
pub why_is : (protocol : Protocol) (l : List Found) (logical page first : ℕ) (orbit : Orbit) →
    position (λ f. has_name (newest_name l page) f.rec) l ≡ Some first → IsOrbit (link_graph l) first orbit →
    why protocol l logical page ≡ why_from_orbit protocol l logical orbit
why_is protocol l logical page first orbit there is =
    ap (walk protocol l (newest_name l page) (suc logical))
    (link_at l (newest_name l page) first found.0 found.1 found.2) ∙ decided orbit is
  where
    found : (first < length l) × (has_name (newest_name l page) (record_at l first) ≡ true) ×
        ((k : ℕ) → k < first → has_name (newest_name l page) (record_at l k) ≡ false)
    found = position-Some (λ f. has_name (newest_name l page) f.rec) l first nothing there

    decided : (o : Orbit) → IsOrbit (link_graph l) first o →
        walk protocol l (newest_name l page) (suc logical) (record_at l first).next
        ≡ why_from_orbit protocol l logical o
    decided (Ends after at) end = elim (cases_lt logical after) [
      | inl far ↦ to_none protocol l (newest_name l page) first there (suc logical) first found.0
          (λ k low none. let (x, e) = steps_before (link_graph l) k after first at (omega arith) end.leads in cc)
          (λ k some low. end_never (link_graph l) first after at end k some)
          ∙ sym (cond-false (leb after logical) (ending protocol l (record_at l at).next) Absent
          (lt-leb after logical far))
      | inr near ↦ to_end protocol l (newest_name l page) first there (suc logical) first after at found.0 end
          (end_never (link_graph l) first after at end) (omega arith)
          ∙ sym (cond-true (leb after logical) (ending protocol l (record_at l at).next) Absent
          (le-leb after logical near))
    ]
    decided (Round n) round = elim (cases_lt (suc logical) n) [
      | inl far ↦ to_none protocol l (newest_name l page) first there (suc logical) first found.0
          (λ k low. round_goes_on (link_graph l) first n round k)
          (λ k some low. round.first k some (omega arith))
          ∙ sym (cond-false (leb n (suc logical)) Cycle Absent (lt-leb n (suc logical) far))
      | inr near ↦ to_start protocol l (newest_name l page) first there (suc logical) first n found.0 round.some
          round.back round.first (omega arith)
          ∙ sym (cond-true (leb n (suc logical)) Cycle Absent (le-leb n (suc logical) near))
    ]
    decided Aside aside =
        to_none protocol l (newest_name l page) first there (suc logical) first found.0 (λ k low. aside.goes_on k)
        (λ k some low. aside.never_back k some)

-- and of a page of no record
pub why_none : (protocol : Protocol) (l : List Found) (logical page : ℕ) →
    position (λ f. has_name (newest_name l page) f.rec) l ≡ None → why protocol l logical page ≡ Cycle
why_none protocol l logical page none =
    rw (
      absent_link l (newest_name l page) (absent_at l (newest_name l page) none),
      le-ltb (newest l page) (newest l page) (omega arith),
      same_as_itself (newest_name l page) (newest_name l page) refl,
    ) refl

-- the place of an end is one
pub end_within : (l : List Found) (first after at : ℕ) → first < length l →
    IsEnd (link_graph l) first after at → at < length l
end_within l first after at within end =
    steps_stay (link_graph l) (λ n. n < length l) (λ a b low next. place_within l (record_at l a).next b
    (sym (get_or-map (λ f. place_of l f.rec.next) l a nothing None low) ∙ next)) after first at within end.leads

-- an orbit ends at a place, if it ends
pub ends_below : (l : List Found) (page : ℕ) (orbit : Orbit) → IsOrbitOfNewest l page (Some orbit) →
    EndsBelow (length l) orbit
ends_below l page (Ends after at) (place, there, is) =
    end_within l place after at (position-Some (λ f. has_name (newest_name l page) f.rec) l place nothing there).0 is
ends_below l page (Round turns) is = tt
ends_below l page Aside is = tt

-- what decides the verdict, from what is found among the sorted records
pub why_shown : (protocol : Protocol) (l : List Found) (logical page : ℕ) (orbit : Orbit) →
    IsOrbitOfNewest l page (Some orbit) →
    why_from_orbit protocol l logical orbit ≡ why protocol l logical page
why_shown protocol l logical page orbit (place, there, is) = sym (why_is protocol l logical page place orbit there is)

-- the orbit of a place that was found, by the names of the sorted records
pub orbit_found : (l now : List Found) (page version place : ℕ) (orbits : List Orbit) (orbit : Orbit) → l ≡ now →
    version ≡ newest now page →
    Some place ≡ position (λ f. has_name record { page = page; version = version } f.rec) now →
    AreOrbits (link_graph l) orbits →
    orbit ≡ get_or orbits place Aside → IsOrbitOfNewest now page (Some orbit)
orbit_found l now page version place orbits orbit seen top there are is =
    let at : position (λ f. has_name (newest_name now page) f.rec) now ≡ Some place = (rw top at (sym there)) in
    let within = (position-Some (λ f. has_name (newest_name now page) f.rec) now place nothing at).0 in
    let are_now = (rw seen at are) in
    (place, at, rw is (are_now.each place Aside (let e = length-map now (λ f. place_of now f.rec.next) in omega arith)))
