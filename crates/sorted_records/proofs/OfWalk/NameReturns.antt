-- Links lead back to a name where the orbit of its place is a round, after as many links as the round has steps.
use Rattle.sorted_records.proofs.Common.{◌≡◌, ℕ, zero, suc, ◌<◌, true, Option, Some, None, IfSome, List, length, get_or, position, refl, sym, ap, ◌∙◌, inl, inr, arith, false≢true, position-Some, Link, Found, has_name, is_present, record_at, nothing, link_of, has_name_true, Orbit, Round, Aside, IsGraph, next_of, steps, IsRound, IsOrbit, name_graph}
use Rattle.std.proofs.lemmas.List.{get_or-map, length-map}
use Rattle.std.proofs.lemmas.List.Elements.{All-map}
use Rattle.record_list.specs.SoundList.{follow}
use Rattle.record_list.specs.Counts.{IsFirstReturn}
use Rattle.record_list.proofs.OfFacts.Names.{absent_link}
use Rattle.record_list.proofs.OfWalks.Follow.{stays_absent}
use Rattle.record_list.proofs.OfWalks.Returns.{one_return}
use Rattle.sorted_records.specs.Orbits.{AreOrbits}
use Rattle.sorted_records.proofs.OfWalk.OneOrbit.{one_orbit}
use Rattle.sorted_records.proofs.OfRecords.Steps.{some_or_none, steps_none, steps_stop, steps_more}
use Rattle.sorted_records.proofs.OfWalk.WalkOrbits.{link_found, absent_at, present_found}

module _ (l : List Found) where
  abbrev place : Link → Option ℕ
  place name = position (λ f. has_name name f.rec) l

  pub next_place : (i : ℕ) → i < length l → next_of (name_graph l) i ≡ place (record_at l i).next
  next_place i within = get_or-map (λ f. place f.rec.next) l i nothing None within

  pub place_within : (name : Link) (i : ℕ) → place name ≡ Some i → i < length l
  place_within name i at = (position-Some (λ f. has_name name f.rec) l i nothing at).0

  -- a place is that of one name
  place_once : (a b : Link) (i : ℕ) → place a ≡ Some i → place b ≡ Some i → a ≡ b
  place_once a b i e f =
      sym (has_name_true a (record_at l i) (position-Some (λ g. has_name a g.rec) l i nothing e).1)
      ∙ has_name_true b (record_at l i) (position-Some (λ g. has_name b g.rec) l i nothing f).1

  -- the links are a graph of places
  pub name_graph_is : IsGraph (name_graph l)
  name_graph_is =
      All-map (λ o. IfSome o (λ j. j < length (name_graph l))) (λ f. place f.rec.next) l
      (λ k d within. some_within (place (get_or l k d).rec.next)
      (λ j e. let w = place_within (get_or l k d).rec.next j e in let size = length-map l (λ f. place f.rec.next) in
      omega arith))
    where
      some_within : (o : Option ℕ) → ((j : ℕ) → o ≡ Some j → j < length (name_graph l)) →
          IfSome o (λ j. j < length (name_graph l))
      some_within None all = tt
      some_within (Some j) all = all j refl

  -- this many links lead to the name of the place at which this many steps are
  pub steps_follow : (n : ℕ) (name : Link) (p x : ℕ) → place name ≡ Some p → steps (name_graph l) n p ≡ Some x →
      place (follow l name n) ≡ Some x
  steps_follow zero name p x at leads = at ∙ sym (steps_none (name_graph l) p) ∙ leads
  steps_follow (suc n) name p x at leads = elim (some_or_none (next_of (name_graph l) p)) [
    | inl stop ↦ absurd (let e = steps_stop (name_graph l) n p stop in cc)
    | inr (q, next) ↦ (
        let link : (record_at l p).next ≡ link_of l name = link_found l name p (sym at) in
        let there : place (link_of l name) ≡ Some q = ap place (sym link)
        ∙ sym (next_place p (place_within name p at)) ∙ next in
        steps_follow n (link_of l name) q x there (sym (steps_more (name_graph l) n p q next) ∙ leads))
  ]

  -- and this many steps to the place of the name to which this many links lead, where it is present
  follow_steps : (n : ℕ) (name : Link) (p : ℕ) → place name ≡ Some p → is_present l (follow l name n) ≡ true →
      steps (name_graph l) n p ≡ place (follow l name n)
  follow_steps zero name p at here = steps_none (name_graph l) p ∙ sym at
  follow_steps (suc n) name p at here =
      let link : (record_at l p).next ≡ link_of l name = link_found l name p (sym at) in
      let there : next_of (name_graph l) p ≡ place (link_of l name) = next_place p (place_within name p at)
      ∙ ap place link in
      elim (some_or_none (next_of (name_graph l) p)) [
        | inl stop ↦ (
            let gone = absent_at l (link_of l name) (sym there ∙ stop) in
            absurd (false≢true (sym (stays_absent l name 1 (suc n) (omega arith) gone) ∙ here)))
        | inr (q, next) ↦ steps_more (name_graph l) n p q next
            ∙ follow_steps n (link_of l name) q (sym there ∙ next) here
      ]

  module _ (name : Link) (p : ℕ) (at : place name ≡ Some p) where
    name_present : is_present l name ≡ true
    name_present = sym (present_found l name (Some p) (sym at))

    round_of_return : (n : ℕ) → IsFirstReturn l name n → IsRound (name_graph l) p n
    round_of_return n r = record {
      some = r.some;
      back = follow_steps n name p at (ap (is_present l) r.back ∙ name_present) ∙ ap place r.back ∙ at;
      first = λ k some less e. r.first k some less (place_once (follow l name k) name p
          (steps_follow k name p p at e) at);
    }

    return_of_round : (n : ℕ) → IsRound (name_graph l) p n → IsFirstReturn l name n
    return_of_round n r = record {
      some = r.some;
      back = place_once (follow l name n) name p (steps_follow n name p p at r.back) at;
      first = λ m some less e. r.first m some less (follow_steps m name p at (ap (is_present l) e ∙ name_present)
          ∙ ap place e ∙ at);
    }

    module _ (orbits : List Orbit) (orbit : Orbit) (are : AreOrbits (name_graph l) orbits)
        (is : orbit ≡ get_or orbits p Aside) where
      orbit_is : IsOrbit (name_graph l) p orbit
      orbit_is =
          let size = length-map l (λ f. place f.rec.next) in
          let within = place_within name p at in
          rw is (are.each p Aside (omega arith))

      -- a first return is a round
      pub return_is_round : (n : ℕ) → IsFirstReturn l name n → orbit ≡ Round n
      return_is_round n r = one_orbit (name_graph l) p orbit (Round n) orbit_is (round_of_return n r)

      -- and a round a first return
      pub round_is_return : (n : ℕ) → orbit ≡ Round n → IsFirstReturn l name n
      round_is_return n e = return_of_round n (rw e at orbit_is)

  -- where no record has the name, one link leads back to it
  pub nowhere_returns : (name : Link) → place name ≡ None → IsFirstReturn l name 1
  nowhere_returns name none = record {
    some = omega arith;
    back = absent_link l name (absent_at l name none);
    first = λ m some less e. omega arith;
  }

  pub nowhere_once : (name : Link) → place name ≡ None → (n : ℕ) → IsFirstReturn l name n → n ≡ 1
  nowhere_once name none n r = one_return l name n 1 r (nowhere_returns name none)
