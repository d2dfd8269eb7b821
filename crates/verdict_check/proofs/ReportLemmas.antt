-- A report that is read line by line.
use Rattle.verdict_check.proofs.Common.{◌≡◌, ◌≢◌, ℕ, zero, suc, ◌+◌, ◌-◌, ◌<◌, true, false, ◌==◌, Some, None, List, [], ◌∷◌, ◌++◌, length, get_or, map, refl, sym, ap, ◌∙◌, subst, arith, append_assoc, append-nil, concat, AllByRecursion, cond-true, cond-false, Contains-get_or, Protocol, Found, version_of, nothing, IsScanned, verdict_line, last_line, newest_place, behind, left, left_behind, option_map}
use Rattle.std.proofs.Common.{cond}
use Rattle.std.proofs.lemmas.Bool.{eq-eqb, ne_eqb}
use Rattle.std.proofs.lemmas.List.{length-map, length_push, map-append}
use Rattle.std.proofs.lemmas.List.Folds.{list_any_at, list_any_none}
use Rattle.record_list.proofs.OfFacts.Names.{greatest_bound}
use Rattle.verdict_report.specs.Report.{has_record, pages, report}
use Rattle.verdict_report.proofs.PageLemmas.{pages_more}
use Rattle.verdict_check.specs.Texts.{IsFirstDifference}
use Rattle.verdict_check.specs.declared.reading.Reading.{Reading}
use denote.Ref.{Bor}
use Rattle.verdict_check.proofs.TextLemmas.{behind_some}
use Rattle.verdict_check.proofs.PlaceLemmas.{placed, none_newest}
use Rattle.verdict_check.proofs.DifferenceLemmas.{IsLine, wrong_line, one_too_many}
use Rattle.verdict_check.proofs.PlainLemmas.{verdict_is_line, last_is_line}

-- what is left after a piece
pub piece_missing : (piece text : List ℕ) (from got : Reading) → left from ≡ Some text →
    left got ≡ left_behind piece (left from) → got.rest ≡ None →
    None ≡ behind piece text
piece_missing piece text from got start is none = sym (ap (option_map (λ rest. rest.now)) none) ∙ is
    ∙ ap (left_behind piece) start

pub piece_there : (piece text : List ℕ) (from got : Reading) (rest : Bor (List ℕ)) → left from ≡ Some text →
    left got ≡ left_behind piece (left from) →
    got.rest ≡ Some rest → Some rest.now ≡ behind piece text
piece_there piece text from got rest start is some = sym (ap (option_map (λ r. r.now)) some) ∙ is
    ∙ ap (left_behind piece) start

-- a page has a record where it has a newest one
pub has_some : (list : List Found) (page place : ℕ) → Some place ≡ newest_place list page → has_record list page ≡ true
has_some list page place there =
    let (within, own, top) = placed list page place there in
    list_any_at (λ f. f.rec.page == page) list place nothing within (eq-eqb _ _ own)

pub has_none : (list : List Found) (page : ℕ) → IsScanned list → None ≡ newest_place list page →
    has_record list page ≡ false
has_none list page scanned none =
    list_any_none (λ f. f.rec.page == page) list (λ k d within.
    ne_eqb _ _ (λ own.
    let zero_top = none_newest list page none in
    let some = (scanned.versions k d within).0 in
    let high = greatest_bound (version_of page) list (get_or list k d) (Contains-get_or list k d within) in
    let is = cond-true ((get_or list k d).rec.page == page) (get_or list k d).rec.version 0 (eq-eqb _ _ own) in
    omega arith))

-- the lines of the pages below a number were read, this many, and this is left
pub record AreLinesRead (line : ℕ → List ℕ) (list : List Found) (n : ℕ) (text rest : List ℕ) (count : ℕ) : Type 0 where
  pub text_is : text ≡ concat (map line (pages list n)) ++ rest
  pub count_is : count ≡ length (pages list n)

pub no_line_read : (line : ℕ → List ℕ) (list : List Found) (text : List ℕ) → AreLinesRead line list 0 text text 0
no_line_read line list text = record { text_is = refl; count_is = refl }

concat_more : (lines : List (List ℕ)) (line : List ℕ) (rest : List ℕ) →
    concat lines ++ (line ++ rest) ≡ concat (lines ++ line ∷ []) ++ rest
concat_more [] line rest = ap (λ t. t ++ rest) (sym (append-nil line))
concat_more (l ∷ ls) line rest =
    append_assoc l (concat ls) (line ++ rest) ∙ ap (λ t. l ++ t) (concat_more ls line rest)
    ∙ sym (append_assoc l (concat (ls ++ line ∷ [])) rest)

pub one_line_read : (line : ℕ → List ℕ) (list : List Found) (n : ℕ) (text rest more : List ℕ) (count total : ℕ) →
    has_record list n ≡ true →
    AreLinesRead line list n text rest count → Some more ≡ behind (line n) rest → total ≡ count + 1 →
    AreLinesRead line list (n + 1) text more total
one_line_read line list n text rest more count total has read is counts =
    let pages_are = pages_more list n ∙ ap (λ ps. pages list n ++ ps) (cond-true (has_record list n) (n ∷ []) [] has) in
    record {
      text_is = read.text_is ∙ ap (λ t. concat (map line (pages list n)) ++ t) (behind_some (line n) rest more (sym is))
          ∙ concat_more (map line (pages list n)) (line n) more
          ∙ ap (λ ls. concat ls ++ more) (sym (map-append line (pages list n) (n ∷ []))
          ∙ ap (map line) (sym pages_are));
      count_is = counts ∙ ap (λ k. k + 1) read.count_is ∙ sym (length_push (pages list n) n)
          ∙ ap length (sym pages_are);
    }

pub no_line_here : (line : ℕ → List ℕ) (list : List Found) (n : ℕ) (text rest : List ℕ) (count : ℕ) →
    has_record list n ≡ false →
    AreLinesRead line list n text rest count → AreLinesRead line list (n + 1) text rest count
no_line_here line list n text rest count none read =
    let pages_are = pages_more list n ∙ ap (λ ps. pages list n ++ ps) (cond-false (has_record list n) (n ∷ []) [] none)
    ∙ append-nil (pages list n) in
    record {
      text_is = read.text_is ∙ ap (λ ps. concat (map line ps) ++ rest) (sym pages_are);
      count_is = read.count_is ∙ ap length (sym pages_are);
    }

-- the pages from one on
pages_from : (list : List Found) (n more : ℕ) → (rest : List ℕ) × (pages list (n + more) ≡ pages list n ++ rest)
pages_from list n zero = ([], ap (pages list) (omega arith) ∙ sym (append-nil (pages list n)))
pages_from list n (suc more) =
    let (rest, is) = pages_from list n more in
    let last = cond (has_record list (n + more)) ((n + more) ∷ []) [] in (
      rest ++ last,
      ap (pages list) (omega arith) ∙ pages_more list (n + more) ∙ ap (λ ps. ps ++ last) is
          ∙ append_assoc (pages list n) rest last,
    )

pub lines_of : (protocol : Protocol) (list : List Found) (logical : ℕ) (ps : List ℕ) →
    AllByRecursion IsLine (map (verdict_line protocol list logical) ps)
lines_of protocol list logical [] = tt
lines_of protocol list logical (p ∷ ps) = (verdict_is_line protocol list logical p, lines_of protocol list logical ps)

concat_last : (lines : List (List ℕ)) (line : List ℕ) → concat (lines ++ line ∷ []) ≡ concat lines ++ line
concat_last lines line = sym (append-nil _) ∙ sym (concat_more lines line [])
    ∙ ap (λ t. concat lines ++ t) (append-nil line)

split_lines : (line : ℕ → List ℕ) (ps later : List ℕ) (n : ℕ) (end : List ℕ) →
    concat (map line ((ps ++ n ∷ []) ++ later) ++ end ∷ []) ≡ concat (map line ps)
    ++ (line n ++ concat (map line later ++ end ∷ []))
split_lines line [] later n end = refl
split_lines line (p ∷ ps) later n end =
    ap (λ t. line p ++ t) (split_lines line ps later n end)
    ∙ sym (append_assoc (line p) (concat (map line ps)) (line n ++ concat (map line later ++ end ∷ [])))

pub lines_and_last : (lines : List (List ℕ)) (end : List ℕ) → AllByRecursion IsLine lines → IsLine end →
    AllByRecursion IsLine (lines ++ end ∷ [])
lines_and_last [] end are is = (is, tt)
lines_and_last (l ∷ ls) end are is = (are.0, lines_and_last ls end are.1 is)

module _ (protocol : Protocol) (list : List Found) (logical : ℕ) where
  abbrev line : ℕ → List ℕ
  line = verdict_line protocol list logical

  -- the line of a page does not come where it should
  pub page_is_wrong : (n : ℕ) (text rest : List ℕ) (count k : ℕ) → n < logical → has_record list n ≡ true →
      AreLinesRead line list n text rest count → None ≡ behind (line n) rest → k ≡ count + 1 →
      IsFirstDifference (report protocol list logical) text k
  unfolding report
  page_is_wrong n text rest count k low has read none e =
      let before = map line (pages list n) in
      let (later, split) = pages_from list (n + 1) (logical - (n + 1)) in
      let end = last_line (length (pages list logical)) in
      let pages_are : pages list logical ≡ (pages list n ++ n ∷ []) ++ later =
      ap (pages list) (omega arith) ∙ split
      ∙ ap (λ ps. ps ++ later) (pages_more list n
      ∙ ap (λ ps. pages list n ++ ps) (cond-true (has_record list n) (n ∷ []) [] has)) in
      let after = concat (map line later ++ end ∷ []) in
      let want : concat (map line (pages list logical) ++ end ∷ []) ≡ concat before ++ (line n ++ after) =
      ap (λ ps. concat (map line ps ++ end ∷ [])) pages_are ∙ split_lines line (pages list n) later n end in
      let differs = wrong_line before (line n) after rest k (lines_of protocol list logical (pages list n))
      (verdict_is_line protocol list logical n)
      (e ∙ ap (λ c. c + 1) (read.count_is ∙ sym (length-map (pages list n) line))) (sym none) in
      subst (λ t. IsFirstDifference t text k) (sym want)
      (subst (λ t. IsFirstDifference (concat before ++ (line n ++ after)) t k) (sym read.text_is) differs)

  -- the last line does not
  pub end_is_wrong : (n : ℕ) (text rest : List ℕ) (count k : ℕ) → n ≡ logical →
      AreLinesRead line list n text rest count → None ≡ behind (last_line count) rest → k ≡ count + 1 →
      IsFirstDifference (report protocol list logical) text k
  unfolding report
  end_is_wrong n text rest count k e read none counts =
      let at : AreLinesRead line list logical text rest count =
      subst (λ m. AreLinesRead line list m text rest count) e read in
      let before = map line (pages list logical) in
      let end = last_line (length (pages list logical)) in
      let want : concat (before ++ end ∷ []) ≡ concat before ++ (end ++ []) = concat_last before end
      ∙ ap (λ t. concat before ++ t) (sym (append-nil end)) in
      let differs = wrong_line before end [] rest k (lines_of protocol list logical (pages list logical))
      (last_is_line (length (pages list logical)))
      (counts ∙ ap (λ c. c + 1) (at.count_is ∙ sym (length-map (pages list logical) line)))
      (ap (λ c. behind (last_line c) rest) (sym at.count_is) ∙ sym none) in
      subst (λ t. IsFirstDifference t text k) (sym want)
      (subst (λ t. IsFirstDifference (concat before ++ (end ++ [])) t k) (sym at.text_is) differs)

  -- what is behind it
  whole : (n : ℕ) (text rest more : List ℕ) (count : ℕ) → n ≡ logical →
      AreLinesRead line list n text rest count → Some more ≡ behind (last_line count) rest →
      text ≡ concat (map line (pages list logical) ++ last_line (length (pages list logical)) ∷ []) ++ more
  whole n text rest more count e read is =
      let at : AreLinesRead line list logical text rest count =
      subst (λ m. AreLinesRead line list m text rest count) e read in
      at.text_is ∙ ap (λ t. concat (map line (pages list logical)) ++ t)
      (behind_some (last_line count) rest more (sym is))
      ∙ ap (λ c. concat (map line (pages list logical)) ++ (last_line c ++ more)) at.count_is
      ∙ concat_more (map line (pages list logical)) (last_line (length (pages list logical))) more

  pub all_read : (n : ℕ) (text rest more : List ℕ) (count : ℕ) → n ≡ logical → more ≡ [] →
      AreLinesRead line list n text rest count → Some more ≡ behind (last_line count) rest →
      (text ≡ report protocol list logical) × (count ≡ length (pages list logical))
  unfolding report
  all_read n text rest more count e empty read is = (
    whole n text rest more count e read is
        ∙ ap (λ t. concat (map line (pages list logical) ++ last_line (length (pages list logical)) ∷ []) ++ t) empty ∙
        append-nil _,
    read.count_is ∙ ap (λ m. length (pages list m)) e,
  )

  pub more_is_left : (n : ℕ) (text rest more : List ℕ) (count k : ℕ) → n ≡ logical → more ≢ [] →
      AreLinesRead line list n text rest count → Some more ≡ behind (last_line count) rest → k ≡ count + 2 →
      IsFirstDifference (report protocol list logical) text k
  unfolding report
  more_is_left n text rest more count k e some read is counts =
      let before = map line (pages list logical) in
      let end = last_line (length (pages list logical)) in
      let differs = one_too_many (before ++ end ∷ []) more k
      (lines_and_last before end (lines_of protocol list logical (pages list logical))
      (last_is_line (length (pages list logical))))
      (let c = read.count_is ∙ ap (λ m. length (pages list m)) e in let l = length-map (pages list logical) line in
      let m = length_push before end in
      omega arith) some in
      subst (λ t. IsFirstDifference (concat (before ++ end ∷ [])) t k)
      (sym (whole n text rest more count e read is)) differs
