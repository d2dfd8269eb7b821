-- Walk ends along the links of newest records.
use Rattle.verdict_check.proofs.Common.{◌≡◌, ◌≢◌, ℕ, suc, ◌+◌, ◌-◌, ◌<◌, ◌≤◌, Option, Some, None, List, length, set, if◌then◌else◌, refl, sym, ap, ◌∙◌, subst, inl, inr, arith, get_or-set_same, get_or-set_other, cases_eq, cond-true, cond-false, position-Some, Scc, Found, record_at, has_name, newest, nothing, newest_name, same_name, link_graph, steps, steps_none, Ends, newest_place, IsNewestAt, IsWalkEnd, AreWalkEnds}
use Rattle.std.proofs.Common.{position, leb, nat_le}
use Rattle.std.proofs.lemmas.Bool.{cases_lt, le-leb, lt-leb}
use Rattle.record_list.proofs.OfFacts.Names.{has_name_true}
use Rattle.sorted_records.specs.Orbits.{next_of, IsEnd, IsRound}
use Rattle.sorted_records.proofs.OfRecords.Steps.{steps_more, steps_add, steps_before}
use Rattle.sorted_records.proofs.OfWalk.WalkOrbits.{end_never, leads, next_within}
use Rattle.verdict_check.specs.declared.walk_end.WalkEnd.{WalkEnd}
use Rattle.verdict_check.specs.declared.walk_end.WalkEnd.TheVariants.{Long}
use Rattle.verdict_check.specs.WalkEnds.{GoesOn, IsWalkEndOf, walk_end_at}

module _ (graph : List (Option ℕ)) where
  -- this many steps lead from a node to another, and none of them back
  pub record IsOnWay (i taken at : ℕ) : Type 0 where
    pub leads : steps graph taken i ≡ Some at
    pub never : (k : ℕ) → 0 < k → k ≤ taken → steps graph k i ≢ Some i

  pub way_begins : (i : ℕ) → IsOnWay i 0 i
  way_begins i = record { leads = steps_none graph i; never = λ k some low. absurd (omega arith) }

  -- one step more
  pub step_after : (i taken at next : ℕ) → steps graph taken i ≡ Some at → next_of graph at ≡ Some next →
      steps graph (taken + 1) i ≡ Some next
  step_after i taken at next leads is = steps_add graph taken 1 (taken + 1) i at refl leads
      ∙ steps_more graph 0 at next is ∙ steps_none graph next

  pub way_goes_on : (i taken at next : ℕ) → IsOnWay i taken at → next_of graph at ≡ Some next → next ≢ i →
      IsOnWay i (taken + 1) next
  way_goes_on i taken at next way is other = record {
    leads = step_after i taken at next way.leads is;
    never = λ k some low. elim (cases_eq k (taken + 1)) [
      | inl last ↦ λ back. other (let e = step_after i taken at next way.leads is in
          let f : steps graph (taken + 1) i ≡ Some i = subst (λ n. steps graph n i ≡ Some i) last back in cc)
      | inr less ↦ way.never k some (omega arith)
    ];
  }

  pub way_ends : (i taken at : ℕ) → IsOnWay i taken at → next_of graph at ≡ None → IsEnd graph i taken at
  way_ends i taken at way none = record { leads = way.leads; last = none }

  pub way_comes_back : (i taken at : ℕ) → IsOnWay i taken at → next_of graph at ≡ Some i → IsRound graph i (taken + 1)
  way_comes_back i taken at way is = record {
    some = omega arith;
    back = step_after i taken at i way.leads is;
    first = λ k some less. way.never k some (omega arith);
  }

  -- a way that leads to one with a known end
  pub way_joins : (i taken at after end : ℕ) → steps graph taken i ≡ Some at → IsEnd graph at after end →
      IsEnd graph i (taken + after) end
  way_joins i taken at after end leads ends = record {
    leads = steps_add graph taken after (taken + after) i at refl leads ∙ ends.leads;
    last = ends.last;
  }

  pub way_is_long : (i taken at : ℕ) → IsOnWay i taken at → GoesOn graph i taken
  way_is_long i taken at way = record {
    on = λ k low none. let (x, e) = steps_before graph k taken i at low way.leads in absurd cc;
    never = way.never;
  }

  -- an end that is far goes on
  pub end_is_far : (i after end many : ℕ) → IsEnd graph i after end → many ≤ after → GoesOn graph i many
  end_is_far i after end many ends far = record {
    on = λ k low none. let (x, e) = steps_before graph k after i end (omega arith) ends.leads in absurd cc;
    never = λ k some low. end_never graph i after end ends k some;
  }

  -- the end from a node on the way
  pub end_on_way : (i taken at after end : ℕ) → steps graph taken i ≡ Some at → IsEnd graph i after end →
      taken ≤ after → IsEnd graph at (after - taken) end
  end_on_way i taken at after end leads ends low = record {
    leads = sym (steps_add graph taken (after - taken) after i at (omega arith) leads) ∙ ends.leads;
    last = ends.last;
  }

  -- a cycle from one of its nodes
  pub round_on_way : (i taken at links : ℕ) → steps graph taken i ≡ Some at → IsRound graph i links → taken < links →
      IsRound graph at links
  round_on_way i taken at links leads round low =
      let home : steps graph (links - taken) at ≡ Some i =
      sym (steps_add graph taken (links - taken) links i at (omega arith) leads) ∙ round.back in
      record {
        some = round.some;
        back = steps_add graph (links - taken) taken links at i (omega arith) home ∙ leads;
        first = λ k some less back. round.first k some less
            (sym (steps_add graph (links - taken) k (k + (links - taken)) at i (omega arith) home)
            ∙ steps_add graph k (links - taken) (k + (links - taken)) at at refl back ∙ home);
      }

-- where a newest record leads is a newest record
pub next_is_newest : (list : List Found) (at next : ℕ) → at < length list → IsNewestAt list at →
    next_of (link_graph list) at ≡ Some next →
    (next < length list) × IsNewestAt list next
next_is_newest list at next within newest_at is =
    let link = (record_at list at).next in
    let start = newest_name list (record_at list at).page in
    let to = next_within Scc list start at newest_at at next within is in
    let top = leads Scc list start at newest_at link next to.0 in
    let name = has_name_true link (record_at list next) (position-Some (λ f. has_name link f.rec) list next
    nothing top.1).1 in
    let page : (record_at list next).page ≡ link.page = ap (λ n. n.page) name in
    let same : newest_name list (record_at list next).page ≡ link =
    same_name _ link page (ap (newest list) page ∙ top.0) in
    (to.1, ap (λ n. position (λ f. has_name n f.rec) list) same ∙ top.1)

-- a walk end that is noted
pub note_keeps : (list : List Found) (logical place : ℕ) (course : WalkEnd) (courses : List (Option WalkEnd)) →
    (record_at list place).page < length courses → IsNewestAt list place → IsWalkEnd list logical place course →
    AreWalkEnds list logical courses →
    AreWalkEnds list logical (set courses (record_at list place).page (Some course))
note_keeps list logical place course courses within newest_at is known page other e =
    elim (cases_eq page (record_at list place).page) [
      | inl own ↦ (
          let noted = get_or-set_same courses (record_at list place).page (Some course) None within in
          let there : walk_end_at (set courses (record_at list place).page (Some course)) (record_at list place).page
          ≡ Some other =
          subst (λ n. walk_end_at (set courses (record_at list place).page (Some course)) n ≡ Some other) own e in
          let same : course ≡ other = cc in
          subst (λ n. IsWalkEndOf list logical n other) (sym own) (
            place,
            newest_at,
            subst (IsWalkEnd list logical place) same is,
          ))
      | inr ne ↦ known page other (sym (get_or-set_other courses (record_at list place).page page (Some course) None ne)
          ∙ e)
    ]

-- the walk end of a walk that comes to an end
pub ending_is : (list : List Found) (logical place after end : ℕ) → IsEnd (link_graph list) place after end →
    IsWalkEnd list logical place (if nat_le after logical then Ends after end else Long)
ending_is list logical place after end is = elim (cases_lt logical after) [
  | inl far ↦ subst (IsWalkEnd list logical place)
      (sym (cond-false (leb after logical) (Ends after end) Long (lt-leb after logical far)))
      (end_is_far (link_graph list) place after end (suc logical) is (omega arith))
  | inr near ↦ subst (IsWalkEnd list logical place)
      (sym (cond-true (leb after logical) (Ends after end) Long (le-leb after logical near))) (is, near)
]

-- what is known of a page
pub known_of : (list : List Found) (logical : ℕ) (courses : List (Option WalkEnd)) (page : ℕ) {a b : WalkEnd} → a ≡ b →
    AreWalkEnds list logical courses →
    walk_end_at courses page ≡ Some a → IsWalkEndOf list logical page b
known_of list logical courses page same known e = subst (IsWalkEndOf list logical page) same (known page _ e)

-- a known walk end is that from its place
pub known_is : (list : List Found) (logical place page : ℕ) (course : WalkEnd) → newest_place list page ≡ Some place →
    IsWalkEndOf list logical page course →
    IsWalkEnd list logical place course
known_is list logical place page course there (other, is, known) = let same : other ≡ place = cc in
    subst (λ n. IsWalkEnd list logical n course) same known
