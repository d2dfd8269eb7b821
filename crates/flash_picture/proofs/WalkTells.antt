-- What the walk of a page tells.
use Rattle.flash_picture.proofs.Common.{◌≡◌, ℕ, zero, suc, ◌-◌, ◌<◌, ◌≤◌, Bool, true, false, ◌==◌, ◌||◌, nat_lt, cond, Option, None, Some, List, [], ◌∷◌, ◌++◌, length, map, take, get_or, codes, refl, sym, ap, ◌∙◌, inl, inr, arith, append-nil, lt-ltb, flat_map, false≢true, cases_Bool, cond-true, cond-false, le-ltb, Protocol, Scc, Bpcc, Link, Found, is_same, link_of, newest_name, To, name_word, end_of, leaving_link_at, left_from, step_text, walk_line}
use Rattle.std.proofs.Common.{◌↔◌}
use Rattle.std.proofs.Common.{IsTrue}
use Rattle.std.proofs.lemmas.List.{take_all}
use Rattle.std.proofs.lemmas.List.Concat.{flat_map-append}
use Rattle.record_list.specs.declared.found.Why.{Why}
use Rattle.record_list.specs.declared.found.Why.TheVariants as reason
use Rattle.record_list.specs.Verdict.{is_ahead, is_behind, why_below_newest, straddling, why}
use Rattle.verdict_report.specs.Walks.{is_end}
use Rattle.verdict_report.proofs.WalkLemmas.{after, after_end, after_more, after_none, walk_decides}
use Rattle.flash_picture.specs.declared.walk.End.{End}
use Rattle.flash_picture.specs.declared.walk.End.TheVariants.{Absent, Straddled, TooLong}
use Rattle.verdict_report.specs.Walks.{links_of}
use Rattle.flash_picture.specs.Laws.{WalkSays, WalkTells, arrows_text, last_of}
use Rattle.flash_picture.specs.Walks.{end_by, is_shared, last_steps, leaving_link, steps_over}
use Rattle.flash_picture.proofs.Told.{drawn_by, told}

-- the last of a link and those after it
abbrev final : Link → List Link → Link
final link [] = link
final link (next ∷ links) = final next links

final_at : (link : Link) (links : List Link) (none : Link) → get_or (link ∷ links) (length (link ∷ links) - 1) none
    ≡ final link links
final_at link [] none = refl
final_at link (next ∷ links) none =
    let e : length (link ∷ next ∷ links) - 1 ≡ suc (length (next ∷ links) - 1) = omega arith in
    ap (λ i. get_or (link ∷ next ∷ links) i none) e ∙ final_at next links none

-- of three answers, where one of the tests holds, and where none does
one_of : (a b c : Bool) (link : Link) (rest : Option Link) → ((a || b) || c) ≡ true →
    cond (a || b) (Some link) (cond c None rest) ≡ cond (a || b) (Some link) None
one_of true b c link rest h = refl
one_of false true c link rest h = refl
one_of false false true link rest h = refl
one_of false false false link rest h = absurd (false≢true h)

none_of : (a b c : Bool) (link : Link) (rest : Option Link) → ((a || b) || c) ≡ false →
    cond (a || b) (Some link) (cond c None rest) ≡ rest
none_of true b c link rest h = absurd (false≢true (sym h))
none_of false true c link rest h = absurd (false≢true (sym h))
none_of false false true link rest h = absurd (false≢true (sym h))
none_of false false false link rest h = refl

none_ends : (a b c : Bool) (link : Link) → cond (a || b) (Some link) (cond c None None) ≡ cond (a || b) (Some link) None
none_ends true b c link = refl
none_ends false true c link = refl
none_ends false false true link = refl
none_ends false false false link = refl

module _ (list : List Found) (start : Link) where
  -- a walk leaves the newest records at its last link, if it does
  left_last : (turns : ℕ) (link : Link) → left_from list start (suc turns) link
      ≡ leaving_link list (final link (after list start turns link))
  left_last zero link =
      none_ends (is_ahead list link) (is_behind list link) (is_same link start) link
      ∙ ap (λ links. leaving_link list (final link links)) (sym (after_none list start link))
  left_last (suc turns) link = elim (cases_Bool (is_end list start link)) [
    | inl ends ↦ one_of (is_ahead list link) (is_behind list link) (is_same link start) link _ ends
        ∙ ap (λ links. leaving_link list (final link links)) (sym (after_end list start (suc turns) link ends))
    | inr goes ↦ none_of (is_ahead list link) (is_behind list link) (is_same link start) link _ goes
        ∙ left_last turns (link_of list link)
        ∙ ap (λ links. leaving_link list (final link links)) (sym (after_more list start (suc turns) link goes))
  ]

pub leaving_link_at_last : (list : List Found) (logical page : ℕ) (none : Link) →
    leaving_link_at list logical page ≡ leaving_link list (last_of list logical page none)
leaving_link_at_last list logical page none =
    let start = newest_name list page in
    let link = link_of list start in
    left_last list start logical link ∙ ap (leaving_link list) (sym (final_at link (after list start logical link) none))

-- ---- how it ends, by what its last link shows

straddled_by : (w : Why) (o : Option Link) (version : ℕ) → (end_by w o ≡ Some (Straddled version))
    ↔ (w ≡ reason.Straddled version)
straddled_by reason.Cycle o version = (λ e. cc, λ e. cc)
straddled_by reason.Passed o version = (λ e. cc, λ e. cc)
straddled_by reason.Absent None version = (λ e. cc, λ e. cc)
straddled_by reason.Absent (Some link) version = (λ e. cc, λ e. cc)
straddled_by (reason.Straddled v) o version = (
  λ e. ap reason.Straddled (ap (λ (p : Option End). elim p [
    | Some x ↦ elim x [
      | Straddled n ↦ n
      | Absent ↦ v
      | TooLong ↦ v
    ]
    | None ↦ v
  ]) e),
  λ e. ap (λ n. Some (Straddled n)) (ap (λ (p : Why). elim p [
    | reason.Straddled n ↦ n
    | reason.Absent ↦ v
    | reason.Cycle ↦ v
    | reason.Passed ↦ v
  ]) e),
)

-- a link below the newest of its page does not show that a record is absent
not_absent : (protocol : Protocol) (list : List Found) (link : Link) →
    why_below_newest protocol list link ≡ reason.Absent → ⊥
not_absent Scc list link e = cc
not_absent Bpcc list link e = elim (cases_Bool (straddling list link == 0)) [
  | inl nil ↦ (let p = cond-true (straddling list link == 0) reason.Passed
      (reason.Straddled (straddling list link)) nil in cc)
  | inr some ↦ (let p = cond-false (straddling list link == 0) reason.Passed
      (reason.Straddled (straddling list link)) some in cc)
]

abbrev by_tests : Bool → Bool → Bool → Why → Why
by_tests ahead behind same p = cond ahead reason.Absent (cond behind p (cond same reason.Cycle reason.Absent))

absent_by : (a b c : Bool) (p : Why) (link : Link) → (p ≡ reason.Absent → ⊥) →
    (end_by (by_tests a b c p) (cond (a || b) (Some link) None) ≡ Some Absent) ↔ IsTrue a
absent_by true b c p link none = (λ _. refl, λ _. refl)
absent_by false true c reason.Cycle link none = (λ e. cc, λ h. absurd (false≢true h))
absent_by false true c reason.Passed link none = (λ e. cc, λ h. absurd (false≢true h))
absent_by false true c reason.Absent link none = absurd (none refl)
absent_by false true c (reason.Straddled v) link none = (λ e. cc, λ h. absurd (false≢true h))
absent_by false false true p link none = (λ e. cc, λ h. absurd (false≢true h))
absent_by false false false p link none = (λ e. cc, λ h. absurd (false≢true h))

long_by : (a b c : Bool) (p : Why) (link : Link) → (p ≡ reason.Absent → ⊥) →
    (end_by (by_tests a b c p) (cond (a || b) (Some link) None) ≡ Some TooLong) ↔ (((a || b) || c) ≡ false)
long_by true b c p link none = (λ e. cc, λ h. absurd (false≢true (sym h)))
long_by false true c reason.Cycle link none = (λ e. cc, λ h. absurd (false≢true (sym h)))
long_by false true c reason.Passed link none = (λ e. cc, λ h. absurd (false≢true (sym h)))
long_by false true c reason.Absent link none = absurd (none refl)
long_by false true c (reason.Straddled v) link none = (λ e. cc, λ h. absurd (false≢true (sym h)))
long_by false false true p link none = (λ e. cc, λ h. absurd (false≢true (sym h)))
long_by false false false p link none = (λ _. refl, λ _. refl)

pub walk_tells : (protocol : Protocol) (list : List Found) (logical page : ℕ) → WalkTells protocol list logical page
walk_tells protocol list logical page =
    let decides = walk_decides protocol list logical page in
    let start = newest_name list page in
    record {
      drawn = drawn_by (why protocol list logical page) (leaving_link_at list logical page);
      links = decides;
      last = λ link none e. left_there link (last_of list logical page none)
          (sym (leaving_link_at_last list logical page none) ∙ e);
      absent = λ none. (
          let last = last_of list logical page none in
          rw (decides.last none, leaving_link_at_last list logical page none)
          (absent_by (is_ahead list last) (is_behind list last) (is_same last start)
          (why_below_newest protocol list last) last (not_absent protocol list last)));
      straddled = straddled_by (why protocol list logical page) (leaving_link_at list logical page);
      too_long = λ none. (
          let last = last_of list logical page none in
          rw (decides.last none, leaving_link_at_last list logical page none)
          (long_by (is_ahead list last) (is_behind list last) (is_same last start) (why_below_newest protocol list last)
          last (not_absent protocol list last)));
      told = told protocol list logical page;
    }
  where
    left_there : (link last : Link) → leaving_link list last ≡ Some link → link ≡ last
    left_there link last e = elim (cases_Bool (is_ahead list last || is_behind list last)) [
      | inl leaves ↦ (let there = cond-true (is_ahead list last || is_behind list last) (Some last) None leaves in
          ap (λ (o : Option Link). elim o [ Some l ↦ l | None ↦ last ]) (sym e ∙ there))
      | inr stays ↦ (let nowhere = cond-false (is_ahead list last || is_behind list last) (Some last) None stays in
          absurd cc)
    ]

-- ---- what its line says

steps_arrows : (links : List Link) → flat_map step_text (map To links) ≡ arrows_text links
steps_arrows [] = refl
steps_arrows (link ∷ links) = ap (λ t. (codes " -> " ++ name_word link) ++ t) (steps_arrows links)

-- the steps over links
module _ (links : List Link) (last : Option Link) where
  abbrev longer : Bool
  longer = nat_lt 16 (length links)

  all_steps : length links ≤ 16 → flat_map step_text (steps_over links last) ≡ arrows_text links
  all_steps few =
      ap (λ rest. flat_map step_text (map To (take 16 links) ++ rest))
      (cond-false longer (last_steps last) [] (le-ltb 16 (length links) few))
      ∙ ap (flat_map step_text) (append-nil (map To (take 16 links))) ∙ steps_arrows (take 16 links)
      ∙ ap arrows_text (take_all 16 links few)

  first_steps : 16 < length links → flat_map step_text (steps_over links last) ≡ arrows_text (take 16 links)
      ++ flat_map step_text (last_steps last)
  first_steps many =
      ap (λ rest. flat_map step_text (map To (take 16 links) ++ rest))
      (cond-true longer (last_steps last) [] (lt-ltb 16 (length links) many))
      ∙ flat_map-append step_text (map To (take 16 links)) (last_steps last)
      ∙ ap (λ t. t ++ flat_map step_text (last_steps last)) (steps_arrows (take 16 links))

-- whether a page has a line of its own does not matter where its newest version counts
no_end : (shared : Bool) → cond {A = Option End} shared None None ≡ None
no_end true = refl
no_end false = refl

pub walk_says : (protocol : Protocol) (list : List Found) (logical page : ℕ) → WalkSays protocol list logical page
walk_says protocol list logical page =
    let tells = walk_tells protocol list logical page in
    let links = links_of list logical page in
    let last = leaving_link_at list logical page in
    let shared = is_shared protocol list logical page in
    let end = end_of protocol list logical page in
    record {
      nothing = λ counts. ap (λ e. walk_line list logical page (cond shared None e)) (tells.drawn.1 counts)
          ∙ ap (walk_line list logical page) (no_end shared);
      shared = λ is. ap (walk_line list logical page) (cond-true shared None end is);
      absent = λ none own ahead. ap (walk_line list logical page) (cond-false shared None end own
          ∙ (tells.absent none).1 ahead);
      straddled = λ version own is. ap (walk_line list logical page) (cond-false shared None end own
          ∙ (tells.straddled version).1 is);
      too_long = λ none own ends. ap (walk_line list logical page) (cond-false shared None end own
          ∙ (tells.too_long none).1 ends);
      few = all_steps links last;
      many = λ link longer_than left. first_steps links last longer_than
          ∙ ap (λ (o : Option Link). arrows_text (take 16 links) ++ flat_map step_text (last_steps o)) left;
      given_up = λ longer_than left. first_steps links last longer_than
          ∙ ap (λ (o : Option Link). arrows_text (take 16 links) ++ flat_map step_text (last_steps o)) left;
    }
