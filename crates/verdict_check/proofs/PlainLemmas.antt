-- The words of a report have no spaces and no line feeds.
use Rattle.verdict_check.proofs.Common.{◌≡◌, ℕ, zero, suc, ◌<◌, ◌==◌, Bool, true, false, List, [], ◌∷◌, ◌++◌, length, map, refl, ap, ◌∙◌, inl, inr, arith, codes, if◌then◌else◌, list_all, AllByRecursion, cases_Bool, cond-true, cond-false, and_parts, nat_tests, Link, Protocol, Found, Why, Cycle, Absent, newest, verdict_of, why, cur, links_of, verdict_word, reason_words, walk_words, verdict_line, last_line}
use Rattle.std.proofs.Common.{◌/◌, ◌%◌, ◌||◌, not, take}
use Rattle.std.specs.List.{join_with_byte}
use Rattle.std.specs.Fmt.{decimal, digits, digits_onto, digit_glyph}
use Rattle.std.proofs.lemmas.Bool.{and_from}
use Rattle.std.proofs.lemmas.List.Folds.{list_all-append}
use Rattle.record_list.specs.declared.found.Why.TheVariants.{Passed, Straddled}
use Rattle.record_list.specs.declared.found.Verdict.{Verdict}
use Rattle.record_list.specs.declared.found.Verdict.TheVariants.{Committed, Uncommitted}
use Rattle.verdict_report.specs.Report.{line_of, link_word, most_links, more_words}
use Rattle.verdict_check.proofs.DifferenceLemmas.{is_inner, IsLine}

-- neither a space nor a line feed
abbrev pub is_plain : ℕ → Bool
is_plain b = not (b == 32 || b == 10)

abbrev pub ArePlain : List (List ℕ) → Type 0
ArePlain words = AllByRecursion (λ word. list_all is_plain word ≡ true) words

plain_digit : (n : ℕ) → is_plain (digit_glyph false (n % 10)) ≡ true
plain_digit n = let low : n % 10 < 10 = omega arith in grind (arith, nat_tests)

plain_onto : (k n : ℕ) (acc : List ℕ) → list_all is_plain acc ≡ true →
    list_all is_plain (digits_onto k 10 false n acc) ≡ true
plain_onto zero n acc h = h
plain_onto (suc k) n acc h =
    let more : list_all is_plain (digit_glyph false (n % 10) ∷ acc) ≡ true = and_from _ _ (plain_digit n) h in
    elim (cases_Bool (n / 10 == 0)) [
      | inl t ↦ ap (list_all is_plain) (cond-true (n / 10 == 0)
          _ (digits_onto k 10 false (n / 10) (digit_glyph false (n % 10) ∷ acc)) t) ∙ more
      | inr f ↦ ap (list_all is_plain) (cond-false (n / 10 == 0) (digit_glyph false (n % 10) ∷ acc) _ f)
          ∙ plain_onto k (n / 10) _ more
    ]

pub plain_decimal : (n : ℕ) → list_all is_plain (decimal n) ≡ true
unfolding digits
plain_decimal n = plain_onto 64 n [] refl

plain_both : (xs ys : List ℕ) → list_all is_plain xs ≡ true → list_all is_plain ys ≡ true →
    list_all is_plain (xs ++ ys) ≡ true
plain_both xs ys h k = list_all-append is_plain xs ys ∙ and_from _ _ h k

plain_link : (link : Link) → list_all is_plain (link_word link) ≡ true
plain_link link = plain_both (decimal link.page) (58 ∷ decimal link.version) (plain_decimal link.page)
    (plain_decimal link.version)

plain_links : (n : ℕ) (links : List Link) → ArePlain (map link_word (take n links))
plain_links zero links = tt
plain_links (suc n) [] = tt
plain_links (suc n) (link ∷ links) = (plain_link link, plain_links n links)

all_both : (xs ys : List (List ℕ)) → ArePlain xs → ArePlain ys → ArePlain (xs ++ ys)
all_both [] ys h k = k
all_both (x ∷ xs) ys h k = (h.0, all_both xs ys h.1 k)

plain_more : (b : Bool) (n : ℕ) → ArePlain (if b then codes "more" ∷ decimal n ∷ [] else [])
plain_more true n = (refl, (plain_decimal n, tt))
plain_more false n = tt

pub plain_walk : (links : List Link) → ArePlain (walk_words links)
plain_walk links = all_both (map link_word (take most_links links)) (more_words (length links))
    (plain_links most_links links) (plain_more _ _)

pub plain_reason : (why : Why) → ArePlain (reason_words why)
plain_reason Cycle = (refl, tt)
plain_reason Passed = (refl, tt)
plain_reason Absent = (refl, tt)
plain_reason (Straddled version) = (refl, (plain_decimal version, tt))

plain_verdict : (verdict : Verdict) → list_all is_plain (verdict_word verdict) ≡ true
plain_verdict Committed = refl
plain_verdict Uncommitted = refl

-- the words of the line of a page
abbrev pub page_words : ℕ → ℕ → Why → ℕ → List (List ℕ) → List (List ℕ)
page_words page version reason current walk =
    codes "verdict" ∷ decimal page ∷ codes "newest" ∷ decimal version ∷ verdict_word (verdict_of reason)
    ∷ (reason_words reason ++ codes "current" ∷ decimal current ∷ codes "walk" ∷ walk)

pub plain_page : (page version : ℕ) (reason : Why) (current : ℕ) (walk : List (List ℕ)) → ArePlain walk →
    ArePlain (page_words page version reason current walk)
plain_page page version reason current walk h = (
  refl,
  (
    plain_decimal page,
    (
      refl,
      (
        plain_decimal version,
        (
          plain_verdict (verdict_of reason),
          all_both (reason_words reason) (codes "current" ∷ decimal current ∷ codes "walk" ∷ walk) (plain_reason reason)
              (refl, (plain_decimal current, (refl, h))),
        ),
      ),
    ),
  ),
)

inner_plain : (xs : List ℕ) → list_all is_plain xs ≡ true → list_all is_inner xs ≡ true
inner_plain [] h = refl
inner_plain (x ∷ xs) h =
    let parts = and_parts (is_plain x) (list_all is_plain xs) h in
    and_from (is_inner x) (list_all is_inner xs) (inner_of (x == 32) (x == 10) parts.0) (inner_plain xs parts.1)
  where
    inner_of : (a b : Bool) → not (a || b) ≡ true → not b ≡ true
    inner_of true b h = absurd cc
    inner_of false b h = h

inner_join : (words : List (List ℕ)) → ArePlain words → list_all is_inner (join_with_byte 32 words) ≡ true
inner_join [] h = refl
inner_join (word ∷ []) h = inner_plain word h.0
inner_join (word ∷ next ∷ words) h =
    list_all-append is_inner word (32 ∷ join_with_byte 32 (next ∷ words))
    ∙ and_from _ _ (inner_plain word h.0) (inner_join (next ∷ words) h.1)

-- words without spaces and line feeds make a line
pub line_of_words : (words : List (List ℕ)) → ArePlain words → IsLine (line_of words)
line_of_words words h = record { body = join_with_byte 32 words; inner = inner_join words h; is = refl }

pub verdict_is_line : (protocol : Protocol) (list : List Found) (logical page : ℕ) →
    IsLine (verdict_line protocol list logical page)
verdict_is_line protocol list logical page =
    let version = newest list page in
    let reason = why protocol list logical page in
    let current = cur protocol list logical page in
    let links = links_of list logical page in
    line_of_words (page_words page version reason current (walk_words links))
    (plain_page page version reason current (walk_words links) (plain_walk links))

pub last_is_line : (count : ℕ) → IsLine (last_line count)
last_is_line count = line_of_words (codes "explained" ∷ decimal count ∷ []) (refl, (plain_decimal count, tt))
