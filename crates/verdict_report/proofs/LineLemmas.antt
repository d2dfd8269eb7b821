-- The words of a line, one after another.
use Rattle.verdict_report.proofs.Common.{◌≡◌, ℕ, cond, List, [], ◌∷◌, ◌++◌, map, sym, ap, ap₂, ◌∙◌, append-nil, append_assoc, Protocol, Found, newest, links_of, verdict_word, link_word, walk_words, page_line, verdict_line, after_spaces}
use Rattle.std.proofs.Common.{codes}
use Rattle.std.specs.List.{join_with_byte}
use Rattle.std.specs.Fmt.{decimal}
use Rattle.std.proofs.lemmas.List.Concat.{flat_map-append}
use Rattle.record_list.specs.declared.found.Why.{Why}
use Rattle.record_list.specs.Verdict.{why, verdict_of, is_committed}
use Rattle.record_list.specs.Current.{cur, fallback}
use Rattle.verdict_report.specs.declared.walk.Walk.{Walk}
use Rattle.verdict_report.specs.Report.{reason_words, more_words}
use Rattle.verdict_report.specs.Lines.{IsWalk, shown_words}

-- words with a space between each two are the first and the others with a space before each
join_after_spaces : (word : List ℕ) (words : List (List ℕ)) →
    join_with_byte 32 (word ∷ words) ≡ word ++ after_spaces words
join_after_spaces word [] = sym (append-nil word)
join_after_spaces word (next ∷ words) = ap (λ text. word ++ 32 ∷ text) (join_after_spaces next words)

after_spaces-append : (xs ys : List (List ℕ)) → after_spaces (xs ++ ys) ≡ after_spaces xs ++ after_spaces ys
after_spaces-append xs ys = flat_map-append (λ word. 32 ∷ word) xs ys

parts_after_spaces : (a b c d e f : List (List ℕ)) →
    after_spaces (a ++ (b ++ (c ++ (d ++ (e ++ f))))) ≡ after_spaces a ++ (after_spaces b ++
    (after_spaces c ++ (after_spaces d ++ (after_spaces e ++ after_spaces f))))
parts_after_spaces a b c d e f = simp after_spaces-append

-- the parts of a line
pub line_parts : (page version : ℕ) (why : Why) (current : ℕ) (links more : List (List ℕ)) →
    page_line page version why current (links ++ more)
    ≡ (codes "verdict" ++ (after_spaces (decimal page ∷ codes "newest" ∷ decimal version ∷ [])
    ++ (after_spaces (verdict_word (verdict_of why) ∷ []) ++ (after_spaces (reason_words why)
    ++ (after_spaces (codes "current" ∷ decimal current ∷ codes "walk" ∷ [])
    ++ (after_spaces links ++ after_spaces more)))))) ++ 10 ∷ []
line_parts page version why current links more =
    let first = codes "verdict" in
    let a = decimal page ∷ codes "newest" ∷ decimal version ∷ [] in
    let b = verdict_word (verdict_of why) ∷ [] in
    let c = reason_words why in
    let d = codes "current" ∷ decimal current ∷ codes "walk" ∷ [] in
    ap (λ text. text ++ 10 ∷ [])
    (join_after_spaces first (a ++ (b ++ (c ++ (d ++ (links ++ more)))))
    ∙ ap (λ text. first ++ text) (parts_after_spaces a b c d links more))

-- a line that is put together from its end
pub line_put : (page version : ℕ) (why : Why) (current : ℕ) (links more : List (List ℕ)) (t u v w x y z : List ℕ) →
    t ≡ 10 ∷ [] → u ≡ after_spaces more ++ t → v ≡ after_spaces links ++ u →
    w ≡ after_spaces (codes "current" ∷ decimal current ∷ codes "walk" ∷ []) ++ v →
    x ≡ after_spaces (reason_words why) ++ w →
    y ≡ after_spaces (verdict_word (verdict_of why) ∷ []) ++ x →
    z ≡ (codes "verdict" ++ after_spaces (decimal page ∷ codes "newest" ∷ decimal version ∷ [])) ++ y →
    z ≡ page_line page version why current (links ++ more)
line_put page version why current links more t u v w x y z et eu ev ew ex ey ez =
    let first = codes "verdict" in
    let a = after_spaces (decimal page ∷ codes "newest" ∷ decimal version ∷ []) in
    let b = after_spaces (verdict_word (verdict_of why) ∷ []) in
    let c = after_spaces (reason_words why) in
    let d = after_spaces (codes "current" ∷ decimal current ∷ codes "walk" ∷ []) in
    put first a b c d (after_spaces links) (after_spaces more) t u v w x y z et eu ev ew ex ey ez
    ∙ sym (line_parts page version why current links more)
  where
    put : (first a b c d e f t u v w x y z : List ℕ) →
        t ≡ 10 ∷ [] → u ≡ f ++ t → v ≡ e ++ u → w ≡ d ++ v → x ≡ c ++ w → y ≡ b ++ x → z ≡ (first ++ a) ++ y →
        z ≡ (first ++ (a ++ (b ++ (c ++ (d ++ (e ++ f)))))) ++ 10 ∷ []
    put first a b c d e f t u v w x y z et eu ev ew ex ey ez = rw (ez, ey, ex, ew, ev, eu, et) (simp append_assoc)

-- a line whose parts are those of a page
pub line_explained : (protocol : Protocol) (list : List Found) (logical page version : ℕ) (reason : Why) (current : ℕ)
    (walk : Walk) →
    version ≡ newest list page → IsWalk walk (links_of list logical page) → reason ≡ why protocol list logical page →
    current ≡ cond (is_committed reason) (newest list page) (fallback protocol list page) →
    page_line page version reason current (shown_words walk) ≡ verdict_line protocol list logical page
line_explained protocol list logical page version reason current walk ev is decided ec =
    let counts : current ≡ cur protocol list logical page =
    ec ∙ ap (λ r. cond (is_committed r) (newest list page) (fallback protocol list page)) decided in
    let words : shown_words walk ≡ walk_words (links_of list logical page) =
    ap₂ (λ links n. map link_word links ++ more_words n) is.shown is.count in
    ap₂ (λ v r. page_line page v r current (shown_words walk)) ev decided
    ∙ ap₂ (λ n ws. page_line page (newest list page) (why protocol list logical page) n ws) counts words
