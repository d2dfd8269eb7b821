-- Where a walk leaves the newest records, from the orbit of the place at which it begins.
use Rattle.flash_picture.proofs.Common.{◌≡◌, ℕ, zero, suc, ◌<◌, ◌≤◌, true, false, nat_lt, cond, Some, None, List, length, position, refl, sym, ap, ◌∙◌, inl, inr, arith, lt-ltb, cases_Bool, cases_lt, cond-true, cond-false, le-ltb, Link, Scc, Found, has_name, is_same, newest_name, link_of, leaving_link_at, left_from}
use Rattle.std.proofs.Common.{◌≢◌}
use Rattle.std.proofs.Common.{eq-eqb}
use Rattle.std.proofs.lemmas.Bool.{cases_order, ne_eqb}
use Rattle.std.proofs.lemmas.List.Quantifiers.{position-Some}
use Rattle.record_list.specs.Records.{newest, record_at, nothing}
use Rattle.record_list.proofs.OfFacts.Names.{absent_link}
use Rattle.sorted_records.specs.declared.orbit.Orbit.{Orbit}
use Rattle.sorted_records.specs.declared.orbit.Orbit.TheVariants.{Ends, Round, Aside}
use Rattle.sorted_records.specs.Orbits.{next_of, steps, IsEnd, IsOrbit}
use Rattle.sorted_records.specs.SortedRecords.{place_of, link_graph, IsOrbitOfNewest}
use Rattle.sorted_records.proofs.OfRecords.Steps.{some_or_none, steps_none, steps_stop, steps_more, steps_before, round_goes_on}
use Rattle.sorted_records.proofs.OfWalk.WalkOrbits.{link_at, absent_at, same_as_itself, next_at, leads, same_place, next_within, end_never}
use Rattle.flash_picture.specs.Walks.{leaving_link, leaving_link_by}

module _ (list : List Found) (start : Link) where
  -- a walk stays at a link to the newest version of its page that no record has
  stuck : (turns : ℕ) (link : Link) → newest list link.page ≡ link.version →
      position (λ f. has_name link f.rec) list ≡ None →
      left_from list start turns link ≡ None
  stuck zero link same none = refl
  stuck (suc turns) link same none =
      rw (
        le-ltb (newest list link.page) link.version (omega arith),
        le-ltb link.version (newest list link.page) (omega arith),
        absent_link list link (absent_at list link none),
      ) (elim (cases_Bool (is_same link start)) [
        | inl home ↦ rw home refl
        | inr away ↦ rw away (stuck turns link same none)
      ])

  -- at a link that leads to no place it leaves them, or stays
  leaves : (turns : ℕ) (link : Link) → place_of list link ≡ None →
      left_from list start (suc turns) link ≡ leaving_link list link
  leaves turns link none = elim (cases_order (newest list link.page) link.version) [
    | inl same ↦ (
        let nowhere = sym (cond-true _ (position (λ f. has_name link f.rec) list) None
        (eq-eqb (newest list link.page) link.version same)) ∙ none in
        stuck (suc turns) link same nowhere
        ∙ sym (rw (
          le-ltb (newest list link.page) link.version (omega arith),
          le-ltb link.version (newest list link.page) (omega arith),
        ) refl))
    | inr (inl ahead) ↦ rw (lt-ltb (newest list link.page) link.version ahead) refl
    | inr (inr behind) ↦ rw (
      le-ltb (newest list link.page) link.version (omega arith),
      lt-ltb link.version (newest list link.page) behind,
    ) refl
  ]

  module _ (first : ℕ) (there : position (λ f. has_name start f.rec) list ≡ Some first) where
    -- from a link that leads to a place it goes on, but from the one to its start
    goes_by : (turns : ℕ) (link : Link) (y : ℕ) → place_of list link ≡ Some y →
        left_from list start (suc turns) link ≡ cond (is_same link start) None
        (left_from list start turns (record_at list y).next)
    goes_by turns link y at =
        let to = leads Scc list start first there link y at in
        let found = position-Some (λ f. has_name link f.rec) list y nothing to.1 in
        rw (
          le-ltb (newest list link.page) link.version (omega arith),
          le-ltb link.version (newest list link.page) (omega arith),
          link_at list link y found.0 found.1 found.2,
        ) refl

    step_on : (turns x y : ℕ) → x < length list → next_of (link_graph list) x ≡ Some y → y ≢ first →
        left_from list start (suc turns) (record_at list x).next ≡ left_from list start turns (record_at list y).next
    step_on turns x y within next other =
        let link = (record_at list x).next in
        let at = (next_within Scc list start first there x y within next).0 in
        goes_by turns link y at
        ∙ cond-false (is_same link start) None (left_from list start turns (record_at list y).next)
        (same_place Scc list start first there link y (leads Scc list start first there link y at).1
        ∙ ne_eqb y first other)

    -- a walk to an end
    ended : (turns x after at : ℕ) → x < length list → IsEnd (link_graph list) x after at →
        ((k : ℕ) → 0 < k → steps (link_graph list) k x ≢ Some first) → after < turns →
        left_from list start turns (record_at list x).next ≡ leaving_link list (record_at list at).next
    ended zero x after at within end never few = absurd (omega arith)
    ended (suc turns) x zero at within end never few =
        let here = end.leads in
        let z = steps_none (link_graph list) x in
        let same : x ≡ at = cc in
        let last : place_of list (record_at list x).next ≡ None =
        sym (next_at Scc list start first there x within) ∙ ap (next_of (link_graph list)) same ∙ end.last in
        leaves turns (record_at list x).next last ∙ ap (λ n. leaving_link list (record_at list n).next) same
    ended (suc turns) x (suc after) at within end never few = elim (some_or_none (next_of (link_graph list) x)) [
      | inl none ↦ absurd (let e = steps_stop (link_graph list) after x none in let f = end.leads in cc)
      | inr some ↦ (
          let (y, next) = some in
          step_on turns x y within next (λ e. never 1 (omega arith) (steps_more (link_graph list) 0 x y next
          ∙ steps_none (link_graph list) y ∙ ap Some e))
          ∙ ended turns y after at (next_within Scc list start first there x y within next).1
          record { leads = sym (steps_more (link_graph list) after x y next) ∙ end.leads; last = end.last }
          (λ k more e. never (suc k) (omega arith) (steps_more (link_graph list) k x y next ∙ e)) (omega arith))
    ]

    -- a walk among the newest records
    goes_on : (turns x : ℕ) → x < length list → ((k : ℕ) → k ≤ turns → steps (link_graph list) k x ≢ None) →
        left_from list start turns (record_at list x).next ≡ None
    goes_on zero x within on = refl
    goes_on (suc turns) x within on = elim (some_or_none (next_of (link_graph list) x)) [
      | inl none ↦ absurd (on 1 (omega arith) (steps_stop (link_graph list) 0 x none))
      | inr some ↦ (
          let (y, next) = some in
          let link = (record_at list x).next in
          let to = next_within Scc list start first there x y within next in
          goes_by turns link y to.0
          ∙ elim (cases_Bool (is_same link start)) [
            | inl home ↦ cond-true (is_same link start) None (left_from list start turns (record_at list y).next) home
            | inr away ↦ cond-false (is_same link start) None (left_from list start turns (record_at list y).next) away
                ∙ goes_on turns y to.1 (λ k low e. on (suc k) (omega arith)
                (steps_more (link_graph list) k x y next ∙ e))
          ])
    ]

    from_first : (logical : ℕ) (orbit : Orbit) → IsOrbit (link_graph list) first orbit →
        left_from list start (suc logical) (link_of list start) ≡ leaving_link_by list logical orbit
    from_first logical orbit is = ap (left_from list start (suc logical))
        (link_at list start first found.0 found.1 found.2) ∙ by_orbit orbit is
      where
        found : (first < length list) × (has_name start (record_at list first) ≡ true)
            × ((k : ℕ) → k < first → has_name start (record_at list k) ≡ false)
        found = position-Some (λ f. has_name start f.rec) list first nothing there

        by_orbit : (o : Orbit) → IsOrbit (link_graph list) first o →
            left_from list start (suc logical) (record_at list first).next ≡ leaving_link_by list logical o
        by_orbit (Ends after at) end = elim (cases_lt logical after) [
          | inl far ↦ goes_on (suc logical) first found.0
              (λ k low none. let (x, e) = steps_before (link_graph list) k after first at (omega arith) end.leads in cc)
              ∙ sym (cond-true (nat_lt logical after) None (leaving_link list (record_at list at).next)
              (lt-ltb logical after far))
          | inr near ↦ ended (suc logical) first after at found.0 end (end_never (link_graph list) first after at end)
              (omega arith)
              ∙ sym (cond-false (nat_lt logical after) None (leaving_link list (record_at list at).next)
              (le-ltb logical after near))
        ]
        by_orbit (Round n) round = goes_on (suc logical) first found.0
            (λ k low. round_goes_on (link_graph list) first n round k)
        by_orbit Aside aside = goes_on (suc logical) first found.0 (λ k low. aside.goes_on k)

-- where the walk from the newest record of a page leaves them
pub left_some : (list : List Found) (logical page : ℕ) (orbit : Orbit) → IsOrbitOfNewest list page (Some orbit) →
    leaving_link_by list logical orbit ≡ leaving_link_at list logical page
left_some list logical page orbit (first, there, is) =
    sym (from_first list (newest_name list page) first there logical orbit is)

-- where the page has no record it does not
pub left_none : (list : List Found) (logical page : ℕ) → IsOrbitOfNewest list page None →
    None ≡ leaving_link_at list logical page
left_none list logical page none =
    sym (rw (
      absent_link list (newest_name list page) (absent_at list (newest_name list page) none),
      le-ltb (newest list page) (newest list page) (omega arith),
      same_as_itself (newest_name list page) (newest_name list page) refl,
    ) refl)
