-- What is read of a line, part by part.
use Rattle.verdict_check.proofs.Common.{◌≡◌, ℕ, ◌+◌, ◌<◌, Option, List, [], ◌∷◌, ◌++◌, length, get_or, map, refl, sym, ap, ◌∙◌, arith, append-nil, append_assoc, codes, decimal, false, get_or_default, Link, Protocol, Scc, Found, Why, newest, same_name, newest_name, link_of, verdict_of, is_ahead, is_behind, why, cur, links_of, verdict_word, reason_words, walk_words, verdict_line, after_spaces, left_behind}
use Rattle.std.proofs.Common.{◌||◌, min, add-one, take}
use Rattle.std.proofs.lemmas.Grind.{take_at_read}
use Rattle.std.proofs.lemmas.Bool.{or_parts, ltb-false}
use Rattle.std.proofs.lemmas.List.{map-append, take_min}
use Rattle.std.proofs.lemmas.List.Concat.{flat_map-append}
use Rattle.record_list.specs.Records.{is_same}
use Rattle.verdict_report.specs.Walks.{is_end}
use Rattle.verdict_report.proofs.WalkLemmas.{walk_decides}
use Rattle.verdict_report.specs.Report.{link_word, more_words, most_links, page_line}
use Rattle.verdict_report.proofs.LineLemmas.{line_parts}
use Rattle.verdict_check.specs.declared.expected.Expected.{Expected}
use Rattle.verdict_check.specs.Expected.{IsExpected}
use Rattle.verdict_check.proofs.TextLemmas.{both, four, no_piece}

-- with one link more
pub spaces_more : (links : List Link) (n : ℕ) (link : Link) → n < length links → get_or links n link ≡ link →
    after_spaces (map link_word (take (n + 1) links)) ≡ after_spaces (map link_word (take n links)) ++ 32
    ∷ link_word link
spaces_more links n link within at =
    let last = (take_at_read links n link within).1 ∙ ap (λ l. take n links ++ l ∷ []) at in
    ap (λ ls. after_spaces (map link_word ls)) last
    ∙ ap after_spaces (map-append link_word (take n links) (link ∷ []))
    ∙ flat_map-append (λ word. 32 ∷ word) (map link_word (take n links)) (link_word link ∷ [])
    ∙ ap (λ text. after_spaces (map link_word (take n links)) ++ 32 ∷ text) (append-nil (link_word link))

-- a link at which a walk goes on is to the newest version
not_ended : (list : List Found) (start link : Link) → is_end list start link ≡ false →
    newest list link.page ≡ link.version
not_ended list start link on =
    let parts = or_parts (is_ahead list link || is_behind list link) (is_same link start) on in
    let both_no = or_parts (is_ahead list link) (is_behind list link) parts.0 in
    let a = ltb-false (newest list link.page) link.version both_no.0 in
    let b = ltb-false link.version (newest list link.page) both_no.1 in
    omega arith

-- this many links of the walk from the newest record of a page were read, and this is the next one, if there is one
pub record AreRead (list : List Found) (page links shown : ℕ) (from now : Option (List ℕ)) (link : Link) : Type 0 where
  pub text : (logical : ℕ) → links ≡ length (links_of list logical page) →
      now ≡ left_behind (after_spaces (map link_word (take shown (links_of list logical page)))) from
  pub next : (logical : ℕ) → links ≡ length (links_of list logical page) → shown < length (links_of list logical page) →
      get_or (links_of list logical page) shown link ≡ link

pub none_read : (list : List Found) (page links : ℕ) (from : Option (List ℕ)) (link : Link) →
    link ≡ link_of list (newest_name list page) →
    AreRead list page links 0 from from link
none_read list page links from link first = record {
  text = λ logical size. no_piece from;
  next = λ logical size within. sym first;
}

pub one_read : (list : List Found) (page links shown : ℕ) (from before now : Option (List ℕ)) (link next : Link) →
    shown < links →
    AreRead list page links shown from before link → now ≡ left_behind (32 ∷ link_word link) before →
    next ≡ link_of list (newest_name list link.page) → AreRead list page links (shown + 1) from now next
one_read list page links shown from before now link next within read is then = record {
  text = λ logical size.
      let all = links_of list logical page in
      let low : shown < length all = omega arith in
      both (after_spaces (map link_word (take shown all))) (32 ∷ link_word link) from before now
      (read.text logical size) is
      ∙ ap (λ text. left_behind text from) (sym (spaces_more all shown link low (read.next logical size low)));
  next = λ logical size inside.
      let all = links_of list logical page in
      let decides = walk_decides Scc list logical page in
      let goes = decides.next shown next (omega arith) in
      let here : get_or all shown next ≡ link = get_or_default all shown next link (omega arith)
      ∙ read.next logical size (omega arith) in
      let open_end : is_end list (newest_name list page) link ≡ false =
      ap (is_end list (newest_name list page)) (sym here) ∙ goes.0 in
      let name : link ≡ newest_name list link.page = same_name link (newest_name list link.page) refl
      (sym (not_ended list (newest_name list page) link open_end)) in
      ap (λ n. get_or all n next) (add-one shown) ∙ goes.1 ∙ ap (link_of list) (here ∙ name) ∙ sym then;
}

pub links_read : (list : List Found) (page links shown : ℕ) (from now : Option (List ℕ)) (link : Link) →
    shown ≡ min links most_links →
    AreRead list page links shown from now link → (logical : ℕ) → links ≡ length (links_of list logical page) →
    now ≡ left_behind (after_spaces (map link_word (take most_links (links_of list logical page)))) from
links_read list page links shown from now link end read logical size =
    read.text logical size ∙ ap (λ ls. left_behind (after_spaces (map link_word ls)) from)
    (ap (λ n. take n (links_of list logical page)) (omega arith) ∙ take_min most_links (links_of list logical page))

-- parts of a line, one behind the other
parts_join : (V A B C D E F : List ℕ) → (V ++ A) ++ (B ++ (C ++ (D ++ (E ++ (F ++ 10 ∷ [])))))
    ≡ (V ++ (A ++ (B ++ (C ++ (D ++ (E ++ F)))))) ++ 10 ∷ []
parts_join V A B C D E F = simp append_assoc refl

pub line_read : (page version : ℕ) (reason : Why) (current : ℕ) (links more : List (List ℕ))
    (o p q r s t u v : Option (List ℕ)) →
    p ≡ left_behind (codes "verdict" ++ after_spaces (decimal page ∷ codes "newest" ∷ decimal version ∷ [])) o →
    q ≡ left_behind (after_spaces (verdict_word (verdict_of reason) ∷ [])) p →
    r ≡ left_behind (after_spaces (reason_words reason)) q →
    s ≡ left_behind (after_spaces (codes "current" ∷ decimal current ∷ codes "walk" ∷ [])) r →
    t ≡ left_behind (after_spaces links) s → u ≡ left_behind (after_spaces more) t → v ≡ left_behind (10 ∷ []) u →
    v ≡ left_behind (page_line page version reason current (links ++ more)) o
line_read page version reason current links more o p q r s t u v ep eq er es et eu ev =
    let V = codes "verdict" in
    let A = after_spaces (decimal page ∷ codes "newest" ∷ decimal version ∷ []) in
    let B = after_spaces (verdict_word (verdict_of reason) ∷ []) in
    let C = after_spaces (reason_words reason) in
    let D = after_spaces (codes "current" ∷ decimal current ∷ codes "walk" ∷ []) in
    let E = after_spaces links in
    let F = after_spaces more in
    let rest = four D E F (10 ∷ []) r s t u v es et eu ev in
    four (V ++ A) B C (D ++ (E ++ (F ++ 10 ∷ []))) o p q r v ep eq er rest
    ∙ ap (λ text. left_behind text o) (parts_join V A B C D E F
    ∙ sym (line_parts page version reason current links more))

-- the line of a page, from what it is to say
pub line_of_page : (protocol : Protocol) (list : List Found) (logical : ℕ) (line : Expected)
    (o p q r s t u v : Option (List ℕ)) →
    IsExpected protocol list logical line →
    p ≡ left_behind (codes "verdict" ++ after_spaces (decimal line.page ∷ codes "newest" ∷ decimal line.newest ∷ []))
    o →
    q ≡ left_behind (after_spaces (verdict_word (verdict_of line.why) ∷ [])) p →
    r ≡ left_behind (after_spaces (reason_words line.why)) q →
    s ≡ left_behind (after_spaces (codes "current" ∷ decimal line.current ∷ codes "walk" ∷ [])) r →
    ((n : ℕ) → line.links ≡ length (links_of list n line.page) →
    t ≡ left_behind (after_spaces (map link_word (take most_links (links_of list n line.page)))) s)
    →
    u ≡ left_behind (after_spaces (more_words line.links)) t → v ≡ left_behind (10 ∷ []) u →
    v ≡ left_behind (verdict_line protocol list logical line.page) o
line_of_page protocol list logical line o p q r s t u v is ep eq er es et eu ev =
    let words = map link_word (take most_links (links_of list logical line.page)) in
    line_read line.page line.newest line.why line.current words (more_words line.links) o p q r s t u v ep eq er es
    (et logical is.links_are) eu ev
    ∙ ap (λ n. left_behind (page_line line.page line.newest line.why line.current (words ++ more_words n)) o)
    is.links_are
    ∙ ap (λ n. left_behind (page_line line.page line.newest line.why n (walk_words (links_of list logical line.page)))
    o) is.current_is
    ∙ ap (λ w. left_behind (page_line line.page line.newest w (cur protocol list logical line.page)
    (walk_words (links_of list logical line.page))) o) is.why_is
    ∙ ap (λ n. left_behind (page_line line.page n (why protocol list logical line.page)
    (cur protocol list logical line.page)
    (walk_words (links_of list logical line.page))) o)
    is.newest_is
