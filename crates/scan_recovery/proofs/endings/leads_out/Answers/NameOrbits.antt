-- Links lead to an absent name where the orbit of their places ends.
use Rattle.scan_recovery.proofs.Common.{◌≡◌, ◌≢◌, ℕ, suc, Option, Some, None, List, get_or, position, sym, ap, ◌∙◌, inl, inr, arith, false≢true, length-map, Link, Found, has_name, is_present, record_at, absent_at}
use Rattle.record_list.specs.Verdict.{link_of}
use Rattle.record_list.specs.SoundList.{follow}
use Rattle.record_list.proofs.OfWalks.Follow.{follow_last}
use Rattle.sorted_records.specs.declared.orbit.Orbit.{Orbit}
use Rattle.sorted_records.specs.declared.orbit.Orbit.TheVariants.{Ends, Round, Aside}
use Rattle.sorted_records.specs.Orbits.{steps, IsOrbit, AreOrbits}
use Rattle.sorted_records.proofs.OfRecords.Steps.{some_or_none, round_goes_on}
use Rattle.sorted_records.proofs.OfWalk.WalkOrbits.{link_found, present_found}
use Rattle.sorted_records.specs.NameGraph.{name_graph}
use Rattle.sorted_records.proofs.OfWalk.NameReturns.{next_place, place_within, steps_follow}
use Rattle.scan_recovery.specs.Searches.{LeadsOut}

module _ (l : List Found) where
  abbrev place : Link → Option ℕ
  place name = position (λ f. has_name name f.rec) l

  -- an orbit that ends leads to an absent name
  pub end_leads_out : (name : Link) (p after at : ℕ) → place name ≡ Some p → IsOrbit (name_graph l) p (Ends after at) →
      LeadsOut l name
  end_leads_out name p after at there end =
      let last = steps_follow l after name p at there end.leads in
      let within = place_within l (follow l name after) at last in
      let link : (record_at l at).next ≡ link_of l (follow l name after) =
      link_found l (follow l name after) at (sym last) in
      let none : place (link_of l (follow l name after)) ≡ None = ap place (sym link)
      ∙ sym (next_place l at within) ∙ end.last in
      (suc after, ap (is_present l) (follow_last l name after) ∙ absent_at l (link_of l (follow l name after)) none)

  -- one that does not end never does
  pub goes_on : (name : Link) (p : ℕ) → place name ≡ Some p → ((k : ℕ) → steps (name_graph l) k p ≢ None) →
      LeadsOut l name → ⊥
  goes_on name p there on (n, gone) = elim (some_or_none (steps (name_graph l) n p)) [
    | inl none ↦ on n none
    | inr (x, leads) ↦ (
        let here = steps_follow l n name p x there leads in
        false≢true (sym gone ∙ sym (present_found l (follow l name n) (Some x) (sym here))))
  ]

  pub round_never : (name : Link) (p turns : ℕ) → place name ≡ Some p → IsOrbit (name_graph l) p (Round turns) →
      LeadsOut l name → ⊥
  round_never name p turns there round = goes_on name p there (round_goes_on (name_graph l) p turns round)

  pub aside_never : (name : Link) (p : ℕ) → place name ≡ Some p → IsOrbit (name_graph l) p Aside → LeadsOut l name → ⊥
  aside_never name p there aside = goes_on name p there aside.goes_on

  -- the orbit of a place that was found
  pub orbit_at : (name : Link) (p : ℕ) (orbits : List Orbit) (orbit : Orbit) → Some p ≡ place name →
      AreOrbits (name_graph l) orbits →
      orbit ≡ get_or orbits p Aside → IsOrbit (name_graph l) p orbit
  orbit_at name p orbits orbit at are is =
      let size = length-map l (λ f. place f.rec.next) in
      let within = place_within l name p (sym at) in
      rw is (are.each p Aside (omega arith))
