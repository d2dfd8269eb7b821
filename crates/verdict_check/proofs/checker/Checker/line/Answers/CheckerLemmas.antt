-- What a walk end shows.
use Rattle.verdict_check.proofs.Common.{◌≡◌, ℕ, suc, ◌<◌, true, false, ◌==◌, Some, List, length, refl, sym, ap, ◌∙◌, inl, inr, arith, eqb-true, if◌then◌else◌, cases_Bool, cond-true, position-Some, Protocol, Found, Cycle, Absent, newest, has_name, record_at, nothing, IsScanned, newest_name, why, cur, link_graph, links_of, Ends, newest_place, IsNewestAt, IsWalkEnd}
use Rattle.std.proofs.Common.{leb}
use Rattle.std.proofs.Math.Nat.{min-eq_right}
use Rattle.std.proofs.lemmas.Bool.{le-leb}
use Rattle.record_list.specs.Verdict.{walk, is_committed}
use Rattle.record_list.proofs.OfFacts.Names.{newest_present}
use Rattle.record_list.specs.Current.{fallback}
use Rattle.sorted_records.specs.declared.orbit.Orbit.TheVariants as orbit
use Rattle.sorted_records.specs.SortedRecords.{ending}
use Rattle.sorted_records.proofs.OfRecords.Steps.{steps_stay}
use Rattle.sorted_records.proofs.OfWalk.WalkOrbits.{why_is, link_at, to_none, end_within}
use Rattle.verdict_report.specs.Walks.{stays_at, walk_links}
use Rattle.verdict_report.proofs.WalkLengths as lengths
use Rattle.verdict_check.specs.declared.walk_end.WalkEnd.{WalkEnd}
use Rattle.verdict_check.specs.declared.walk_end.WalkEnd.TheVariants.{Round, Long}
use Rattle.verdict_check.specs.declared.expected.Expected.{Expected}
use Rattle.verdict_check.specs.Expected.{IsExpected}
use Rattle.verdict_check.specs.WalkEnds.{EndsWithin, IsCounted, shown_by, links_by}
use Rattle.verdict_check.proofs.WalkEndLemmas.{next_is_newest}
use Rattle.verdict_check.proofs.PlaceLemmas.{placed, newest_stands}

module _ (protocol : Protocol) (list : List Found) (logical page place : ℕ)
    (there : newest_place list page ≡ Some place) where
  found : (place < length list) × (has_name (newest_name list page) (record_at list place) ≡ true)
      × ((k : ℕ) → k < place → has_name (newest_name list page) (record_at list k) ≡ false)
  found = position-Some (λ f. has_name (newest_name list page) f.rec) list place nothing there

  -- it decides the verdict on the newest record of the page
  pub shown_is : (course : WalkEnd) → IsWalkEnd list logical place course →
      shown_by protocol list course ≡ why protocol list logical page
  shown_is (Ends after at) (end, near) =
      sym (why_is protocol list logical page place (orbit.Ends after at) there end
      ∙ cond-true (leb after logical) (ending protocol list (record_at list at).next) Absent
      (le-leb after logical near))
  shown_is (Round links) (round, near) =
      sym (why_is protocol list logical page place (orbit.Round links) there round
      ∙ cond-true (leb links (suc logical)) Cycle Absent (le-leb links (suc logical) near))
  shown_is Long long =
      sym (ap (walk protocol list (newest_name list page) (suc logical))
      (link_at list (newest_name list page) place found.0 found.1 found.2)
      ∙ to_none protocol list (newest_name list page) place there (suc logical) place found.0 long.on long.never)

  -- and has the links of the walk
  pub links_are : IsScanned list → (course : WalkEnd) → IsWalkEnd list logical place course →
      links_by logical course ≡ length (links_of list logical page)
  links_are scanned (Ends after at) (end, near) =
      let within = end_within list place after at found.0 end in
      sym (lengths.walk_stops list logical page after at (place, there, end) (moves_on within)
      ∙ min-eq_right {n = suc after} {m = suc logical} (omega arith))
    where
      moves_on : at < length list → stays_at list (record_at list at).next ≡ false
      moves_on within = elim (cases_Bool ((record_at list at).next.version == newest list
          (record_at list at).next.page)) [
            | inl t ↦ (
                let same = eqb-true (record_at list at).next.version (newest list (record_at list at).next.page) t in
                let some = (scanned.versions at nothing within).1 in
                rw (t, newest_present list (record_at list at).next.page (omega arith)) refl)
            | inr f ↦ rw f refl
          ]
  links_are scanned (Round links) (round, near) =
      sym (lengths.walk_length list logical page (orbit.Round links) (place, there, round)
      ∙ min-eq_right {n = links} {m = suc logical} near)
  links_are scanned Long long =
      sym (ap (λ link. length (walk_links list (newest_name list page) (suc logical) link))
      (link_at list (newest_name list page) place found.0 found.1 found.2)
      ∙ lengths.to_none list (newest_name list page) place there (suc logical) place found.0 long.on
      (λ k some low. long.never k some (omega arith)))

  pub ends_within : (course : WalkEnd) → IsWalkEnd list logical place course → EndsWithin list course
  ends_within (Ends after at) (end, near) =
      steps_stay (link_graph list) (λ n. (n < length list) × IsNewestAt list n)
      (λ i j here next. next_is_newest list i j here.0 here.1 next)
      after place at (found.0, newest_stands list page place (sym there)) end.leads
  ends_within (Round links) is = tt
  ends_within Long is = tt

  pub is_counted : (course : WalkEnd) → IsWalkEnd list logical place course → IsCounted logical course
  is_counted (Ends after at) is = is.1
  is_counted (Round links) is = is.1
  is_counted Long is = tt

-- what the line of a page is to say
pub is_expected : (protocol : Protocol) (list : List Found) (logical page place : ℕ) (course : WalkEnd)
    (line : Expected) →
    Some place ≡ newest_place list page → IsScanned list → IsWalkEnd list logical place course →
    line.page ≡ page → line.newest ≡ (record_at list place).version → line.why ≡ shown_by protocol list course →
    line.current ≡ (if is_committed line.why then (record_at list place).version
    else fallback protocol list (record_at list place).page) →
    line.links ≡ links_by logical course → IsExpected protocol list logical line
is_expected protocol list logical page place course line there scanned is ep en ew ec el =
    let (within, own, top) = placed list page place there in
    let shown = ew ∙ shown_is protocol list logical page place (sym there) course is in
    let now : line.current ≡ cur protocol list logical page =
    ec ∙ ap (λ w. if is_committed w then (record_at list place).version
    else fallback protocol list (record_at list place).page) shown
    ∙ ap (λ v. if is_committed (why protocol list logical page) then v
    else fallback protocol list (record_at list place).page) top
    ∙ ap (λ n. if is_committed (why protocol list logical page) then newest list page
    else fallback protocol list n) own in
    record {
      newest_is = en ∙ top ∙ ap (newest list) (sym ep);
      why_is = shown ∙ ap (why protocol list logical) (sym ep);
      current_is = now ∙ ap (cur protocol list logical) (sym ep);
      links_are = el ∙ links_are protocol list logical page place (sym there) scanned course is
          ∙ ap (λ n. length (links_of list logical n)) (sym ep);
    }
