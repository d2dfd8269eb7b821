-- How many links a walk takes, from the orbit of the place at which it begins.
use Rattle.flash_picture.proofs.Common.{◌≡◌, ℕ, zero, suc, ◌<◌, Bool, true, false, ◌==◌, ◌||◌, nat_lt, cond, Option, Some, None, List, [], ◌∷◌, length, position, refl, sym, ap, ◌∙◌, inl, inr, arith, false≢true, le-ltb, Link, Scc, Found, has_name, is_same, newest_name, link_of, leaving_link_at}
use Rattle.std.proofs.Common.{◌≢◌, ◌&&◌, ◌%◌, not, is_some}
use Rattle.std.proofs.lemmas.Bool.{and_left, ltb-false, ne_eqb}
use Rattle.std.proofs.lemmas.List.Quantifiers.{position-Some}
use Rattle.record_list.specs.Records.{newest, record_at, nothing}
use Rattle.record_list.specs.Verdict.{is_ahead, is_behind}
use Rattle.sorted_records.specs.declared.orbit.Orbit.{Orbit}
use Rattle.sorted_records.specs.declared.orbit.Orbit.TheVariants.{Ends, Round, Aside}
use Rattle.sorted_records.specs.Orbits.{next_of, steps, IsEnd}
use Rattle.sorted_records.specs.SortedRecords.{place_of, link_graph, IsOrbitOfNewest}
use Rattle.sorted_records.proofs.OfRecords.Steps.{some_or_none, steps_none, steps_stop, steps_more}
use Rattle.sorted_records.proofs.OfWalk.WalkOrbits.{link_at, leads, same_place, next_within, end_never}
use Rattle.verdict_report.specs.Walks.{links_of, walk_links}
use Rattle.flash_picture.specs.Walks.{is_part, leaving_link, leaving_link_by, part_by}
use Rattle.flash_picture.proofs.Leaving.{left_none, left_some}

-- by whether a link is ahead of the newest records, behind them, or to the start of the walk
one_link : (out home : Bool) (link : Link) (links : List Link) → is_some (cond out (Some link) None) ≡ true →
    length (link ∷ cond (out || home) [] links) ≡ 1
one_link true home link links some = refl
one_link false home link links some = absurd (false≢true some)

more_links : (ahead behind home : Bool) (link : Link) (links : List Link) → ahead ≡ false → behind ≡ false →
    home ≡ false → length (link ∷ cond ((ahead || behind) || home) [] links) ≡ suc (length links)
more_links true behind home link links a b h = absurd (false≢true (sym a))
more_links false true home link links a b h = absurd (false≢true (sym b))
more_links false false true link links a b h = absurd (false≢true (sym h))
more_links false false false link links a b h = refl

-- a walk that leaves them does so after no more links than there are pages
near_by : (far : Bool) (last : Option Link) → is_some (cond far None last) ≡ true →
    (far ≡ false) × (is_some last ≡ true)
near_by true last some = absurd (false≢true some)
near_by false last some = (refl, some)

and_same : (a b c d : Bool) → a ≡ b → (a ≡ true → c ≡ d) → (a && c) ≡ (b && d)
and_same true true c d e same = same refl
and_same true false c d e same = absurd (false≢true (sym e))
and_same false true c d e same = absurd (false≢true e)
and_same false false c d e same = refl

module _ (list : List Found) (start : Link) (first : ℕ) (there : position (λ f. has_name start f.rec) list ≡ Some first)
  where
    -- at a link that leads to a place, and not to that of its start, a walk goes on
    goes : (turns : ℕ) (link : Link) (y : ℕ) → place_of list link ≡ Some y → y ≢ first →
        length (walk_links list start (suc turns) link)
        ≡ suc (length (walk_links list start turns (record_at list y).next))
    goes turns link y at other =
        let to = leads Scc list start first there link y at in
        let found = position-Some (λ f. has_name link f.rec) list y nothing to.1 in
        more_links (is_ahead list link) (is_behind list link) (is_same link start) link
        (walk_links list start turns (link_of list link))
        (le-ltb (newest list link.page) link.version (omega arith))
        (le-ltb link.version (newest list link.page) (omega arith))
        (same_place Scc list start first there link y to.1 ∙ ne_eqb y first other)
        ∙ ap (λ next. suc (length (walk_links list start turns next))) (link_at list link y found.0 found.1 found.2)

    -- a walk to an end, at which it leaves the newest records
    counted : (turns x after at : ℕ) → x < length list → IsEnd (link_graph list) x after at →
        ((k : ℕ) → 0 < k → steps (link_graph list) k x ≢ Some first) → after < turns →
        is_some (leaving_link list (record_at list at).next) ≡ true →
        length (walk_links list start turns (record_at list x).next) ≡ suc after
    counted zero x after at within end never few leaves = absurd (omega arith)
    counted (suc turns) x zero at within end never few leaves =
        let here = end.leads in
        let z = steps_none (link_graph list) x in
        let same : x ≡ at = cc in
        let link = (record_at list x).next in
        one_link (is_ahead list link || is_behind list link) (is_same link start) link
        (walk_links list start turns (link_of list link))
        (ap (λ n. is_some (leaving_link list (record_at list n).next)) same ∙ leaves)
    counted (suc turns) x (suc after) at within end never few leaves =
        elim (some_or_none (next_of (link_graph list) x)) [
          | inl none ↦ absurd (let e = steps_stop (link_graph list) after x none in let f = end.leads in cc)
          | inr some ↦ (
              let (y, next) = some in
              let to = next_within Scc list start first there x y within next in
              goes turns (record_at list x).next y to.0 (λ e. never 1 (omega arith)
              (steps_more (link_graph list) 0 x y next ∙ steps_none (link_graph list) y ∙ ap Some e))
              ∙ ap suc (counted turns y after at to.1
              record { leads = sym (steps_more (link_graph list) after x y next) ∙ end.leads; last = end.last }
              (λ k more e. never (suc k) (omega arith) (steps_more (link_graph list) k x y next ∙ e)) (omega arith)
              leaves))
        ]

-- the links of the walk from the newest record of a page
links_counted : (list : List Found) (logical page first after at : ℕ) →
    position (λ f. has_name (newest_name list page) f.rec) list ≡ Some first →
    IsEnd (link_graph list) first after at → is_some (leaving_link_by list logical (Ends after at)) ≡ true →
    length (links_of list logical page) ≡ suc after
links_counted list logical page first after at there end some =
    let start = newest_name list page in
    let found = position-Some (λ f. has_name start f.rec) list first nothing there in
    let near = near_by (nat_lt logical after) (leaving_link list (record_at list at).next) some in
    let few = ltb-false logical after near.0 in
    ap (λ link. length (walk_links list start (suc logical) link))
    (link_at list start first found.0 found.1 found.2)
    ∙ counted list start first there (suc logical) first after at found.0 end
    (end_never (link_graph list) first after at end) (omega arith) near.1

pub part_some : (list : List Found) (logical page : ℕ) (orbit : Orbit) → IsOrbitOfNewest list page (Some orbit) →
    part_by list logical orbit ≡ is_part list logical page
part_some list logical page (Ends after at) (first, there, end) =
    let same = ap is_some (left_some list logical page (Ends after at) (first, there, end)) in
    and_same (is_some (leaving_link_by list logical (Ends after at))) (is_some (leaving_link_at list logical page))
    (not (suc after % 17 == 0)) (not (length (links_of list logical page) % 17 == 0)) same
    (λ some. ap (λ n. not (n % 17 == 0)) (sym (links_counted list logical page first after at there end some)))
part_some list logical page (Round turns) is =
    sym (and_left (is_some (leaving_link_at list logical page)) (not (length (links_of list logical page) % 17 == 0))
    (ap is_some (sym (left_some list logical page (Round turns) is))))
part_some list logical page Aside is =
    sym (and_left (is_some (leaving_link_at list logical page)) (not (length (links_of list logical page) % 17 == 0))
    (ap is_some (sym (left_some list logical page Aside is))))

pub part_none : (list : List Found) (logical page : ℕ) → IsOrbitOfNewest list page None →
    false ≡ is_part list logical page
part_none list logical page is =
    sym (and_left (is_some (leaving_link_at list logical page)) (not (length (links_of list logical page) % 17 == 0))
    (ap is_some (sym (left_none list logical page is))))
