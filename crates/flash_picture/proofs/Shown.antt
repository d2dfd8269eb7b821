-- Which steps are shown of a walk.
use Rattle.flash_picture.proofs.Common.{◌≡◌, ℕ, zero, suc, ◌+◌, ◌-◌, ◌<◌, ◌≤◌, true, false, ◌||◌, nat_lt, cond, Option, None, Some, List, [], ◌∷◌, ◌++◌, length, map, take, refl, sym, ap, ap₂, ◌∙◌, inl, inr, arith, append-nil, append_assoc, codes, lt-ltb, cases_Bool, cases_lt, cond-true, cond-false, le-ltb, ◌==◌, flat_map, list_any, range_with_len, Link, Protocol, Found, is_same, newest_name, link_of, Sorts, To, steps_rows, walk_rows, walk_takes, end_of, line_end, leaving_link_at, left_from, step_text, walk_line}
use Rattle.std.proofs.Common.{min, not, ◌&&◌, ◌%◌}
use Rattle.std.specs.Prelude.{is_some}
use mathlib.Core.Path.{fun_ext}
use Rattle.record_list.specs.Verdict.{is_committed}
use Rattle.sorted_records.proofs.OfSort.Alike.{newest_alike, newest_name_alike, link_alike, why_alike}
use Rattle.verdict_report.specs.Walks.{is_end, links_of, walk_links}
use Rattle.flash_picture.specs.declared.walk.Step.{Step}
use Rattle.flash_picture.specs.declared.walk.End.{End}
use Rattle.flash_picture.specs.Pieces.{next_line}
use Rattle.flash_picture.specs.Svg.{steps_begin}
use Rattle.flash_picture.specs.Walks.{end_by, end_text, is_led_to, is_part, last_steps, leads_to, start_text, steps_of, steps_over}

one_less : (a b : ℕ) → nat_lt (suc a) (suc b) ≡ nat_lt a b
one_less a b = elim (cases_lt a b) [
  | inl less ↦ lt-ltb (suc a) (suc b) (omega arith) ∙ sym (lt-ltb a b less)
  | inr more ↦ le-ltb (suc a) (suc b) (omega arith) ∙ sym (le-ltb a b more)
]

module _ (list : List Found) (start : Link) (last : Option Link) where
  -- the steps of a walk that has come to this link, looks at this many links yet, and shows this many of them
  abbrev pub shown_from : ℕ → ℕ → Link → List Step
  shown_from zero shown link = []
  shown_from (suc turns) zero link = last_steps last
  shown_from (suc turns) (suc shown) link = To link ∷ cond (is_end list start link) []
      (shown_from turns shown (link_of list link))

  -- they are those over its links
  shown_over : (turns shown : ℕ) (link : Link) → shown_from turns shown link
      ≡ map To (take shown (walk_links list start turns link))
      ++ cond (nat_lt shown (length (walk_links list start turns link))) (last_steps last) []
  shown_over zero zero link = refl
  shown_over zero (suc shown) link = sym (cond-false (nat_lt (suc shown) 0) (last_steps last) []
      (le-ltb (suc shown) 0 (omega arith)))
  shown_over (suc turns) zero link =
      let some : 0 < length (walk_links list start (suc turns) link) = omega arith in
      sym (cond-true (nat_lt 0 (length (walk_links list start (suc turns) link))) (last_steps last) []
      (lt-ltb 0 (length (walk_links list start (suc turns) link)) some))
  shown_over (suc turns) (suc shown) link = elim (cases_Bool (is_end list start link)) [
    | inl ends ↦ rw ends (rest_none shown)
    | inr goes ↦ rw goes (ap (λ l. To link ∷ l) (shown_over turns shown (link_of list link)
        ∙ ap (λ b. map To (take shown (walk_links list start turns (link_of list link))) ++ cond b (last_steps last) [])
        (sym (one_less shown (length (walk_links list start turns (link_of list link)))))))
  ]
    where
      rest_none : (shown : ℕ) → To link ∷ [] ≡ map To (take (suc shown) (link ∷ []))
          ++ cond (nat_lt (suc shown) 1) (last_steps last) []
      rest_none zero = refl
      rest_none (suc shown) = ap (λ l. To link ∷ l) (sym (cond-false (nat_lt (suc (suc shown)) 1) (last_steps last) []
          (le-ltb (suc (suc shown)) 1 (omega arith))))

  -- the steps that were taken, and those that are still to come, where this many links are looked at
  abbrev pub IsShowing : ℕ → ℕ → List Step → Link → Type 0
  IsShowing logical turn steps link =
      steps ++ shown_from (suc logical - turn) (16 - turn) link ≡ shown_from (suc logical) 16 (link_of list start)

  -- a step more
  pub shown_more : (logical turn : ℕ) (steps : List Step) (link : Link) → turn < min (suc logical) 16 →
      is_end list start link ≡ false →
      IsShowing logical turn steps link → IsShowing logical (turn + 1) (steps ++ To link ∷ []) (link_of list link)
  shown_more logical turn steps link more goes before =
      let turns : suc logical - turn ≡ suc (suc logical - (turn + 1)) = omega arith in
      let shown : 16 - turn ≡ suc (16 - (turn + 1)) = omega arith in
      let rest = shown_from (suc logical - (turn + 1)) (16 - (turn + 1)) (link_of list link) in
      append_assoc steps (To link ∷ []) rest
      ∙ ap (λ l. steps ++ l) (sym (ap₂ (λ t s. shown_from t s link) turns shown
      ∙ ap (λ l. To link ∷ l) (cond-false (is_end list start link) [] rest goes)))
      ∙ before

  -- the last step
  pub shown_ended : (logical turn : ℕ) (steps : List Step) (link : Link) → turn < min (suc logical) 16 →
      is_end list start link ≡ true →
      IsShowing logical turn steps link → steps ++ To link ∷ []
      ≡ steps_over (walk_links list start (suc logical) (link_of list start)) last
  shown_ended logical turn steps link more ends before =
      let turns : suc logical - turn ≡ suc (suc logical - (turn + 1)) = omega arith in
      let shown : 16 - turn ≡ suc (16 - (turn + 1)) = omega arith in
      let rest = shown_from (suc logical - (turn + 1)) (16 - (turn + 1)) (link_of list link) in
      ap (λ l. steps ++ l) (sym (ap₂ (λ t s. shown_from t s link) turns shown
      ∙ ap (λ l. To link ∷ l) (cond-true (is_end list start link) [] rest ends)))
      ∙ before ∙ shown_over (suc logical) 16 (link_of list start)

  -- all links were looked at
  pub shown_all : (logical turn : ℕ) (steps : List Step) (link : Link) → min (suc logical) 16 ≤ turn → turn ≤ 16 →
      logical < 16 →
      IsShowing logical turn steps link → steps ≡ steps_over (walk_links list start (suc logical) (link_of list start))
      last
  shown_all logical turn steps link done within few before =
      let turns : suc logical - turn ≡ 0 = omega arith in
      sym (append-nil steps) ∙ ap (λ l. steps ++ l) (sym (ap (λ t. shown_from t (16 - turn) link) turns)) ∙ before
      ∙ shown_over (suc logical) 16 (link_of list start)

  -- or as many as are shown
  pub shown_dots : (logical turn : ℕ) (steps : List Step) (link : Link) → min (suc logical) 16 ≤ turn → turn ≤ 16 →
      16 ≤ logical →
      IsShowing logical turn steps link → steps ++ last_steps last
      ≡ steps_over (walk_links list start (suc logical) (link_of list start)) last
  shown_dots logical turn steps link done within many before =
      let turns : suc logical - turn ≡ suc (logical - 16) = omega arith in
      let shown : 16 - turn ≡ 0 = omega arith in
      ap (λ l. steps ++ l) (sym (ap₂ (λ t s. shown_from t s link) turns shown)) ∙ before
      ∙ shown_over (suc logical) 16 (link_of list start)

-- ---- a list and its records in order of their names

module _ (list sorted : List Found) (is : Sorts list sorted) where
  links_alike : (start : Link) (turns : ℕ) (link : Link) → walk_links sorted start turns link
      ≡ walk_links list start turns link
  links_alike start zero link = refl
  links_alike start (suc turns) link =
      ap₂ (λ n rest. link ∷ cond ((nat_lt n link.version || nat_lt link.version n) || is_same link start) [] rest)
      (newest_alike list sorted is link.page)
      (links_alike start turns (link_of sorted link)
      ∙ ap (walk_links list start turns) (link_alike list sorted is link))

  left_alike : (start : Link) (turns : ℕ) (link : Link) → left_from sorted start turns link
      ≡ left_from list start turns link
  left_alike start zero link = refl
  left_alike start (suc turns) link =
      ap₂ (λ n rest. cond (nat_lt n link.version || nat_lt link.version n) (Some link)
      (cond (is_same link start) None rest))
      (newest_alike list sorted is link.page)
      (left_alike start turns (link_of sorted link) ∙ ap (left_from list start turns) (link_alike list sorted is link))

  -- from the newest record of a page
  first_alike : {X : Type 0} (f : List Found → Link → ℕ → Link → X) → ((start : Link) (turns : ℕ) (link : Link) →
      f sorted start turns link ≡ f list start turns link) →
      (logical page : ℕ) → f sorted (newest_name sorted page) (suc logical) (link_of sorted (newest_name sorted page))
      ≡ f list (newest_name list page) (suc logical) (link_of list (newest_name list page))
  first_alike f same logical page =
      same (newest_name sorted page) (suc logical) (link_of sorted (newest_name sorted page))
      ∙ ap (f list (newest_name sorted page) (suc logical)) (link_alike list sorted is (newest_name sorted page))
      ∙ ap (λ n. f list n (suc logical) (link_of list n)) (newest_name_alike list sorted is page)

  pub leaving_link_at_alike : (logical page : ℕ) → leaving_link_at sorted logical page ≡ leaving_link_at list logical page
  leaving_link_at_alike logical page = first_alike left_from left_alike logical page

  links_of_alike : (logical page : ℕ) → links_of sorted logical page ≡ links_of list logical page
  links_of_alike logical page = first_alike walk_links links_alike logical page

  pub steps_alike : (logical page : ℕ) → steps_of sorted logical page ≡ steps_of list logical page
  steps_alike logical page = ap₂ steps_over (links_of_alike logical page) (leaving_link_at_alike logical page)

  pub end_alike : (protocol : Protocol) (logical page : ℕ) →
      end_of protocol sorted logical page ≡ end_of protocol list logical page
  end_alike protocol logical page = ap₂ end_by (why_alike list sorted is protocol logical page)
      (leaving_link_at_alike logical page)

  -- which pages have a line of their own, and how it ends
  led_alike : (protocol : Protocol) (logical page : ℕ) →
      is_led_to protocol sorted logical page ≡ is_led_to protocol list logical page
  led_alike protocol logical page =
      ap (λ name. list_any (leads_to protocol sorted logical name) (range_with_len 0 logical))
      (newest_name_alike list sorted is page)
      ∙ ap (λ test. list_any test (range_with_len 0 logical))
      (fun_ext (λ other. ap₂ (λ w link. not (is_committed w) && is_same link (newest_name list page))
      (why_alike list sorted is protocol logical other)
      (link_alike list sorted is (newest_name sorted other)
      ∙ ap (link_of list) (newest_name_alike list sorted is other))))

  part_alike : (logical page : ℕ) → is_part sorted logical page ≡ is_part list logical page
  part_alike logical page =
      ap₂ (λ last links. is_some last && not (length links % 17 == 0)) (leaving_link_at_alike logical page)
      (links_of_alike logical page)

  pub line_end_alike : (protocol : Protocol) (logical page : ℕ) →
      line_end protocol sorted logical page ≡ line_end protocol list logical page
  line_end_alike protocol logical page =
      ap₂ (λ shared end. cond shared None end)
      (ap₂ (λ led part. led && part) (led_alike protocol logical page) (part_alike logical page))
      (end_alike protocol logical page)

  -- the line of a page, and its lines in SVG
  pub line_alike : (logical page : ℕ) (end : Option End) →
      walk_line sorted logical page end ≡ walk_line list logical page end
  line_alike logical page None = refl
  line_alike logical page (Some end) =
      ap₂ (λ start steps. start_text start ++ flat_map step_text steps ++ end_text end ++ 10 ∷ [])
      (newest_name_alike list sorted is page)
      (steps_alike logical page)

  pub rows_alike : (logical page : ℕ) (end : Option End) →
      walk_rows sorted logical page end ≡ walk_rows list logical page end
  rows_alike logical page None = refl
  rows_alike logical page (Some end) =
      ap₂ (λ start steps. next_line (codes "walk") (start_text start ++ steps_rows (length (start_text start)) steps
      ++ end_text end))
      (newest_name_alike list sorted is page) (steps_alike logical page)

  pub takes_alike : (logical page : ℕ) (end : Option End) →
      walk_takes sorted logical page end ≡ walk_takes list logical page end
  takes_alike logical page None = refl
  takes_alike logical page (Some end) =
      ap₂ (λ start steps. suc (steps_begin (length (start_text start)) steps)) (newest_name_alike list sorted is page)
      (steps_alike logical page)
