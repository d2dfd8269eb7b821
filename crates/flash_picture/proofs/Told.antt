-- The newest record of each page that does not count is named in a line.
use Rattle.flash_picture.proofs.Common.{◌≡◌, ℕ, zero, suc, ◌+◌, ◌-◌, ◌<◌, ◌≤◌, Bool, true, false, ◌==◌, ◌||◌, cond, Option, None, Some, List, [], ◌∷◌, length, take, refl, sym, ap, ◌∙◌, inl, inr, arith, false≢true, cases_Bool, cond-false, le-ltb, range_with_len, Protocol, Link, Found, is_same, link_of, newest_name, end_of, leaving_link_at, left_from}
use Rattle.std.proofs.Common.{◌*◌, ◌/◌, ◌%◌, ◌↔◌, not, is_some, IsTrue, Contains, eq-eqb, subst}
use Rattle.std.proofs.lemmas.Bool.{and_left, and_parts, and_right, eqb-false, not-true, not_from_true, or_from}
use Rattle.std.proofs.lemmas.Option.{none-some, same_Some}
use Rattle.list_lemmas.proofs.Membership.{Contains-here, Contains-rest}
use Rattle.list_lemmas.proofs.Ranges.{range_bounds}
use Rattle.list_lemmas.proofs.Tests.{any_of}
use Rattle.record_list.specs.declared.found.Why.{Why}
use Rattle.record_list.specs.declared.found.Why.TheVariants as reason
use Rattle.record_list.specs.Records.{newest}
use Rattle.record_list.specs.Verdict.{is_ahead, is_behind, is_committed, walk, why, why_below_newest}
use Rattle.record_list.proofs.OfFacts.Names.{is_same_true}
use Rattle.verdict_report.specs.Walks.{is_end, links_of, walk_links}
use Rattle.verdict_report.proofs.WalkLemmas.{walk_decides}
use Rattle.flash_picture.specs.Laws.{IsNamedBy}
use Rattle.flash_picture.specs.Walks.{end_by, is_led_to, is_part, is_shared, leads_to}

-- a walk has an end exactly where the version that it decides on does not count
pub drawn_by : (w : Why) (o : Option Link) → (end_by w o ≡ None) ↔ IsTrue (is_committed w)
drawn_by reason.Cycle o = (λ _. refl, λ _. refl)
drawn_by reason.Passed o = (λ _. refl, λ _. refl)
drawn_by reason.Absent None = (λ e. cc, λ h. absurd (false≢true h))
drawn_by reason.Absent (Some link) = (λ e. cc, λ h. absurd (false≢true h))
drawn_by (reason.Straddled version) o = (λ e. cc, λ h. absurd (false≢true h))

-- ---- how many links a walk takes to where it leaves the newest records

abbrev more : Option ℕ → Option ℕ
more None = None
more (Some n) = Some (suc n)

-- by whether a link leaves them, and whether it is to the start of the walk
by_tests : (out home : Bool) (link : Link) (left : Option Link) (links : List Link) (rest : Option ℕ) →
    is_some (cond out (Some link) (cond home None left)) ≡ true →
    (is_some left ≡ true → rest ≡ Some (length links)) →
    cond out (Some 1) (more rest) ≡ Some (length (link ∷ cond (out || home) [] links))
by_tests true home link left links rest some later = refl
by_tests false true link left links rest some later = absurd (false≢true some)
by_tests false false link left links rest some later = ap more (later some)

-- with more links to look at
by_later : (out : Bool) (n : ℕ) (rest more_turns : Option ℕ) → ((m : ℕ) → rest ≡ Some m → more_turns ≡ Some m) →
    cond out (Some 1) (more rest) ≡ Some n → cond out (Some 1) (more more_turns) ≡ Some n
by_later true n rest more_turns later e = e
by_later false n None more_turns later e = absurd (none-some n e)
by_later false n (Some m) more_turns later e = ap more (later m refl) ∙ e

one_more : (n m : ℕ) (rest : Option ℕ) → more rest ≡ Some n → ((k : ℕ) → rest ≡ Some k → k ≡ m) → n ≡ suc m
one_more n m None e same = absurd (none-some n e)
one_more n m (Some k) e same =
    let is : suc k ≡ n = same_Some (suc k) n e in
    let also : k ≡ m = same k refl in
    omega arith

-- from a newest record a walk that decides that a version does not count goes on, but to its start
walk_goes : (ahead behind home : Bool) (below rest : Why) → ahead ≡ false → behind ≡ false →
    is_committed (cond ahead reason.Absent (cond behind below (cond home reason.Cycle rest))) ≡ false →
    (((ahead || behind) || home) ≡ false) × (is_committed rest ≡ false)
walk_goes true behind home below rest a b away = absurd (false≢true (sym a))
walk_goes false true home below rest a b away = absurd (false≢true (sym b))
walk_goes false false true below rest a b away = absurd (false≢true (sym away))
walk_goes false false false below rest a b away = (refl, away)

module _ (list : List Found) where
  abbrev leaves : Link → Bool
  leaves link = is_ahead list link || is_behind list link

  -- a link to the newest version of its page does not leave them
  not_ahead : (page : ℕ) → is_ahead list (newest_name list page) ≡ false
  not_ahead page = le-ltb (newest list page) (newest list page) (omega arith)

  not_behind : (page : ℕ) → is_behind list (newest_name list page) ≡ false
  not_behind page = le-ltb (newest list page) (newest list page) (omega arith)

  stays : (page : ℕ) → leaves (newest_name list page) ≡ false
  stays page = or_from (is_ahead list (newest_name list page)) (is_behind list (newest_name list page))
      (not_ahead page) (not_behind page)

  -- the number of links up to the one that leaves them, of those that are looked at
  abbrev exit : ℕ → Link → Option ℕ
  exit zero link = None
  exit (suc turns) link = cond (leaves link) (Some 1) (more (exit turns (link_of list link)))

  exit_length : (start : Link) (turns : ℕ) (link : Link) → is_some (left_from list start turns link) ≡ true →
      exit turns link ≡ Some (length (walk_links list start turns link))
  exit_length start zero link some = absurd (false≢true some)
  exit_length start (suc turns) link some =
      by_tests (leaves link) (is_same link start) link (left_from list start turns (link_of list link))
      (walk_links list start turns (link_of list link)) (exit turns (link_of list link)) some
      (exit_length start turns (link_of list link))

  exit_later : (turns : ℕ) (link : Link) (n : ℕ) → exit turns link ≡ Some n → exit (suc turns) link ≡ Some n
  exit_later zero link n e = absurd (none-some n e)
  exit_later (suc turns) link n e =
      by_later (leaves link) n (exit turns (link_of list link)) (exit (suc turns) (link_of list link))
      (exit_later turns (link_of list link)) e

  -- ---- the newest record of a page to which walks lead

  -- so many links from the newest record of a page lead to that of the last one, each to a newest record
  abbrev Trail : ℕ → ℕ → ℕ → Type 0
  Trail last zero page = page ≡ last
  Trail last (suc links) page =
      (next : ℕ) × (link_of list (newest_name list page) ≡ newest_name list next) × Trail last links next

  -- the first links of a walk have it
  among : (protocol : Protocol) (last : ℕ) (start : Link) (links turns most page : ℕ) → Trail last links page →
      links < turns → links < most →
      is_committed (walk protocol list start turns (newest_name list page)) ≡ false →
      Contains (take most (walk_links list start turns (newest_name list page))) (newest_name list last)
  among protocol last start links zero most page trail few room away = absurd (omega arith)
  among protocol last start links (suc turns) zero page trail few room away = absurd (omega arith)
  among protocol last start zero (suc turns) (suc most) page here few room away =
      Contains-here (newest_name list page) (take most (cond (is_end list start (newest_name list page)) []
      (walk_links list start turns (link_of list (newest_name list page))))) (newest_name list last)
      (ap (newest_name list) here)
  among protocol last start (suc links) (suc turns) (suc most) page (next, to, trail) few room away =
      let link = newest_name list page in
      let rest = walk protocol list start turns (link_of list link) in
      let goes = walk_goes (is_ahead list link) (is_behind list link) (is_same link start)
      (why_below_newest protocol list link) rest (not_ahead page) (not_behind page) away in
      let later = walk_links list start turns (link_of list link) in
      let on : cond (is_end list start link) [] later ≡ walk_links list start turns (newest_name list next) =
      cond-false (is_end list start link) [] later goes.0 ∙ ap (walk_links list start turns) to in
      subst (λ those. Contains (link ∷ take most those) (newest_name list last)) (sym on)
      (Contains-rest link (take most (walk_links list start turns (newest_name list next))) (newest_name list last)
      (among protocol last start links turns most next trail (omega arith) (omega arith)
      (ap (λ l. is_committed (walk protocol list start turns l)) (sym to) ∙ goes.1)))

module _ (protocol : Protocol) (list : List Found) (logical : ℕ) where
  -- the newest version of a page does not count
  abbrev IsAway : ℕ → Type 0
  IsAway page = is_committed (why protocol list logical page) ≡ false

  abbrev count : ℕ → ℕ
  count page = length (links_of list logical page)

  -- the walk of a page takes one link more than that to which it leads
  longer : (page other : ℕ) → link_of list (newest_name list other) ≡ newest_name list page →
      is_some (leaving_link_at list logical page) ≡ true → is_some (leaving_link_at list logical other) ≡ true →
      count other ≡ suc (count page)
  longer page other to out out_other =
      let link = newest_name list page in
      let next = link_of list link in
      let begun = newest_name list other in
      let first : more (exit list logical next) ≡ Some (count other) =
      sym (cond-false (leaves list link) (Some 1) (more (exit list logical next)) (stays list page))
      ∙ ap (exit list (suc logical)) (sym to) ∙ exit_length list begun (suc logical) (link_of list begun) out_other in
      one_more (count other) (count page) (exit list logical next) first
      (λ k e. same_Some k (count page) (sym (exit_later list logical next k e)
      ∙ exit_length list link (suc logical) next out))

  -- a page that leads to another one
  leader : (page : ℕ) → is_led_to protocol list logical page ≡ true →
      (other : ℕ) × (other < logical) × IsAway other
      × (link_of list (newest_name list other) ≡ newest_name list page)
  leader page led =
      let name = newest_name list page in
      let (other, inside, leads) = any_of (leads_to protocol list logical name) (range_with_len 0 logical) led in
      let low = range_bounds 0 logical other inside in
      let parts = and_parts (not (is_committed (why protocol list logical other)))
      (is_same (link_of list (newest_name list other)) name) leads in (
        other,
        omega arith,
        not-true (is_committed (why protocol list logical other)) parts.0,
        is_same_true (link_of list (newest_name list other)) name parts.1,
      )

  -- the line of a page names the newest record to which its first links lead
  by_line : (last links head : ℕ) → Trail list last links head → links ≤ 16 → links ≤ suc logical → head < logical →
      IsAway head → is_shared protocol list logical head ≡ false → IsNamedBy protocol list logical last head
  by_line last links head trail room few within away own = record {
    within = within;
    drawn = λ none. false≢true (sym away
        ∙ (drawn_by (why protocol list logical head) (leaving_link_at list logical head)).0
        (sym (cond-false (is_shared protocol list logical head) None (end_of protocol list logical head) own) ∙ none));
    named = named links trail room few;
  }
    where
      named : (links : ℕ) → Trail list last links head → links ≤ 16 → links ≤ suc logical →
          Contains (newest_name list head ∷ take 16 (links_of list logical head)) (newest_name list last)
      named zero here room few =
          Contains-here (newest_name list head) (take 16 (links_of list logical head)) (newest_name list last)
          (ap (newest_name list) here)
      named (suc links) (next, to, trail) room few =
          let name = newest_name list head in
          Contains-rest name (take 16 (links_of list logical head)) (newest_name list last)
          (subst (λ link. Contains (take 16 (walk_links list name (suc logical) link)) (newest_name list last)) (sym to)
          (among list protocol last name links (suc logical) 16 next trail (omega arith) (omega arith)
          (ap (λ link. is_committed (walk protocol list name (suc logical) link)) (sym to) ∙ away)))

  -- a page has a line of its own where its walk leaves the newest records nowhere, or after a multiple of 17 links
  own_long : (page : ℕ) → is_some (leaving_link_at list logical page) ≡ false → is_shared protocol list logical page ≡ false
  own_long page nowhere =
      and_right (is_led_to protocol list logical page) (is_part list logical page)
      (and_left (is_some (leaving_link_at list logical page)) (not (count page % 17 == 0)) nowhere)

  own_full : (page : ℕ) → count page % 17 ≡ 0 → is_shared protocol list logical page ≡ false
  own_full page full =
      and_right (is_led_to protocol list logical page) (is_part list logical page)
      (and_right (is_some (leaving_link_at list logical page)) (not (count page % 17 == 0))
      (not_from_true (count page % 17 == 0) (eq-eqb (count page % 17) 0 full)))

  few_links : (page : ℕ) → count page ≤ suc logical
  few_links page = (walk_decides protocol list logical page).bound.1

  -- from a page as many links before the last one, up to a line
  climb : (last turns rest left links page : ℕ) → count last ≡ 17 * turns + rest → 0 < rest →
      left + links + rest ≡ 17 → Trail list last links page → page < logical → IsAway page →
      is_some (leaving_link_at list logical page) ≡ true → count page ≡ count last + links →
      (head : ℕ) × IsNamedBy protocol list logical last head
  climb last turns rest zero links page size some all trail within away out long =
      let most = few_links page in
      let full : count page % 17 ≡ 0 = whole (count page) (suc turns) (omega arith) in
      (page, by_line last links page trail (omega arith) (omega arith) within away (own_full page full))
    where
      whole : (n k : ℕ) → n ≡ 17 * k → n % 17 ≡ 0
      whole n k e = omega arith
  climb last turns rest (suc left) links page size some all trail within away out long =
      elim (cases_Bool (is_shared protocol list logical page)) [
        | inr own ↦ (
            let most = few_links page in
            (page, by_line last links page trail (omega arith) (omega arith) within away own))
        | inl shared ↦ (
            let most = few_links page in
            let led = (and_parts (is_led_to protocol list logical page) (is_part list logical page) shared).0 in
            let (other, inside, far, to) = leader page led in
            elim (cases_Bool (is_some (leaving_link_at list logical other))) [
              | inl also ↦ (
                  let one : count other ≡ suc (count page) = longer page other to out also in
                  climb last turns rest left (suc links) other size some (omega arith) (page, to, trail) inside far also
                  (omega arith))
              | inr nowhere ↦ (
                other,
                by_line last (suc links) other (page, to, trail) (omega arith) (omega arith) inside far
                    (own_long other nowhere),
              )
            ])
      ]

  pub told : (page : ℕ) → page < logical → IsAway page → (head : ℕ) × IsNamedBy protocol list logical page head
  told page within away = elim (cases_Bool (is_shared protocol list logical page)) [
    | inr own ↦ (page, by_line page 0 page refl (omega arith) (omega arith) within away own)
    | inl shared ↦ (
        let n = count page in
        let part = and_parts (is_led_to protocol list logical page) (is_part list logical page) shared in
        let parts = and_parts (is_some (leaving_link_at list logical page)) (not (n % 17 == 0)) part.1 in
        let rest : n % 17 ≡ 0 → ⊥ = eqb-false (n % 17) 0 (not-true (n % 17 == 0) parts.1) in
        climb page (n / 17) (n % 17) (17 - n % 17) 0 page (omega arith) (omega arith) (omega arith) refl within away
        parts.0 (omega arith))
  ]
